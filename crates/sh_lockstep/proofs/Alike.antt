-- Values that are one on all devices.
use Rattle.std.proofs.Common.{◌≡◌, ℕ, ◌<◌, Bool, true, false, List, [], ◌∷◌, map, Option, Some, None, refl, ap, ap₂}
use Rattle.std.proofs.lemmas.List.Elements.{All-head, All-tail}
use Rattle.std.specs.Prelude.{All, option_and_then, slice_get, if◌then◌else◌}
use Rattle.sh_turns.specs.Program.{all_there}
use Rattle.sh_lockstep.specs.Behind.{AreAlike}
use Rattle.sh_pieces.specs.Instructions.{Semantics, State, HasGroups, collected_by, gives, local_by, operand_by}

module _ {V I : Type 0} (sem : Semantics V I) where
  module _ (s t : State V) (alike : AreAlike sem s t) where
    operand_alike : (i : I) (c : ℕ) → c < sem.devices → operand_by sem i (s c) ≡ operand_by sem i (t c)
    operand_alike i c l = go (slice_get (sem.operands i) 0)
      where
        go : (o : Option ℕ) → option_and_then (s c) o ≡ option_and_then (t c) o
        go None = refl
        go (Some name) = alike c name l

    pub row_alike : (c : ℕ) → c < sem.devices → (names : List ℕ) → map (s c) names ≡ map (t c) names
    row_alike c l [] = refl
    row_alike c l (name ∷ names) = ap₂ ◌∷◌ (alike c name l) (row_alike c l names)

    pub group_alike : (i : I) (members : List ℕ) → All (λ m. m < sem.devices) members
        → map (λ m. operand_by sem i (s m)) members ≡ map (λ m. operand_by sem i (t m)) members
    group_alike i [] h = refl
    group_alike i (m ∷ members) h = ap₂ ◌∷◌ (operand_alike i m (All-head (λ m. m < sem.devices) m members h)) (group_alike i members (All-tail (λ m. m < sem.devices) m members h))

    pub gives_alike : HasGroups sem → (i : I) (c : ℕ) → c < sem.devices → gives sem i s c ≡ gives sem i t c
    gives_alike groups i c l = go (sem.is_collective i) refl
      where
        go : (b : Bool) → sem.is_collective i ≡ b
            → (if b then collected_by sem i c s else local_by sem i c (s c)) ≡ (if b then collected_by sem i c t else local_by sem i c (t c))
        go true e = ap (λ vs. option_and_then (sem.collect i c) (all_there vs)) (group_alike i (sem.members i c) (groups.inside i c l e))
        go false e = ap (λ vs. option_and_then (sem.local i c) (all_there vs)) (row_alike c l (sem.operands i))
