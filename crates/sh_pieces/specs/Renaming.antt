-- Instructions under other names.
use Rattle.std.specs.Prelude.{◌≡◌, ℕ, List, [], ◌∷◌, map, length, Option, Some, option_map}
use Rattle.sh_pieces.specs.Instructions.{Semantics, DeviceFunction, State, names_before}

-- the values of the new names, under the old ones
abbrev pub renamed_back : {V : Type 0} → (ℕ → ℕ) → State V → State V
renamed_back r s c name = s c (r name)

-- Each of these names stays apart: no other name gets its new name. Names that aren't listed may
-- become one, as two operands that have one value.
abbrev pub StayApart : (ℕ → ℕ) → List (Option ℕ) → Type 0
StayApart r [] = Unit {0}
StayApart r (n ∷ ns) =
    ((name other : ℕ) → n ≡ Some name → r other ≡ r name → other ≡ name) × StayApart r ns

module _ {V I : Type 0} (sem : Semantics V I) where
  -- The second instruction is the first under other names: it does the same with the values that it
  -- is given
  pub record IsRenamed (r : ℕ → ℕ) (i j : I) : Type 0 where
    pub same_class : sem.is_collective j ≡ sem.is_collective i
    pub operands : sem.operands j ≡ map r (sem.operands i)
    pub defines : sem.defines j ≡ option_map r (sem.defines i)
    pub members : (c : ℕ) → sem.members j c ≡ sem.members i c
    pub local : (c : ℕ) (values : List V) → sem.local j c values ≡ sem.local i c values
    pub collect : (c : ℕ) (operands : List V) → sem.collect j c operands ≡ sem.collect i c operands

  abbrev pub AreRenamed : (ℕ → ℕ) → List I → List I → Type 0
  AreRenamed r [] [] = Unit {0}
  AreRenamed r [] (j ∷ js) = ⊥
  AreRenamed r (i ∷ is) [] = ⊥
  AreRenamed r (i ∷ is) (j ∷ js) = IsRenamed r i j × AreRenamed r is js

  -- the second function is the first under other names
  pub record IsRenamedFunction (r : ℕ → ℕ) (f g : DeviceFunction I) : Type 0 where
    pub parameters : g.parameters ≡ map r f.parameters
    pub instructions : AreRenamed r f.instructions g.instructions
    pub results : g.results ≡ map r f.results
    -- parameters and values keep names of their own
    pub apart : StayApart r (names_before sem f (length f.instructions))
