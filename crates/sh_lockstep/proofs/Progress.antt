-- How far a function has been run in step.
use Rattle.std.proofs.Common.{◌≡◌, ℕ, zero, suc, ◌+◌, ◌<◌, ◌⊎◌, inl, inr, Bool, true, false, List, [], ◌∷◌, ◌++◌, map, take, length, Option, Some, refl, ap, sym, ◌∙◌, subst, arith}
use Rattle.std.proofs.lemmas.List.{take_all}
use Rattle.std.proofs.lemmas.Option.{none-some, same_Some, slice_get_within}
use Rattle.std.specs.Prelude.{IsSome, option_map, slice_get, unwrap_or, if◌then◌else◌}
use Rattle.std.specs.List.{range_with_len}
use Rattle.sh_base.specs.Shape.{cell_count}
use Rattle.sh_ir.specs.declared.operations.Op.{Op}
use Rattle.sh_pieces.specs.Instructions.{DeviceFunction, State, at_instruction, gives, is_name, program_by_names}
use Rattle.sh_pieces.specs.Laws.{IsByNames}
use Rattle.sh_pieces.proofs.Bridge.{by_names}
use Rattle.sh_pieces.specs.Runs.{HaveArguments, ResultsAreKnown, at_start, next_state, state_after, state_before}
use Rattle.sh_pieces.proofs.Lists.{state_append}
use Rattle.sh_sem.specs.Steps.{steps_on}
use Rattle.sh_sem.proofs.Groups.{has_groups}
use Rattle.sh_tensor.specs.Tensor.{TensorValue}
use Rattle.sh_turns.specs.Program.{Program, all_there, value}
use Rattle.sh_turns.specs.Lockstep.{Done, StuckAt, MismatchAt, lockstep, results_of}
use Rattle.sh_lockstep.specs.Rows.{AreGiven, IsLackingAt}
use Rattle.sh_lockstep.specs.Tables.{with_row}
use Rattle.sh_lockstep.specs.Behind.{AreAlike, IsBehind}
use Rattle.sh_lockstep.proofs.Alike.{gives_alike, row_alike}
use Rattle.sh_lockstep.proofs.Faults.{stops_at}
use Rattle.sh_turns.proofs.InStep.{all_results, done_where_all_there}

take_one : {X : Type 0} (xs : List X) (k : ℕ) (x : X) → slice_get xs k ≡ Some x → take (suc k) xs ≡ take k xs ++ x ∷ []
take_one [] k x e = absurd (none-some x e)
take_one (y ∷ xs) zero x e = ap (λ z. z ∷ []) (same_Some y x e)
take_one (y ∷ xs) (suc k) x e = ap (λ ys. y ∷ ys) (take_one xs k x e)

-- the item at a place
pub record Found {X : Type 0} (xs : List X) (k : ℕ) : Type 0 where
  pub x : X
  pub at : slice_get xs k ≡ Some x

pub found : {X : Type 0} (xs : List X) (k : ℕ) → k < length xs → Found xs k
found [] k l = absurd (omega (arith, l))
found (y ∷ xs) zero l = record { x = y; at = refl }
found (y ∷ xs) (suc k) l = let rest = found xs k (omega (arith, l)) in record { x = rest.x; at = rest.at }

below_or_at : (i k : ℕ) → i < k + 1 → (i < k) ⊎ (i ≡ k)
below_or_at i k l = grind arith

module _ (grid : List ℕ) (f : DeviceFunction Op) (arguments : ℕ → List TensorValue) where
  abbrev before : ℕ → State TensorValue
  before k = state_before (steps_on grid) f arguments k

  pub at_first : (s : State TensorValue) → AreAlike (steps_on grid) s (at_start f.parameters arguments) → IsBehind grid f arguments 0 s
  at_first s alike = record { within = omega arith; alike = alike; there = λ i c op l. absurd (omega (arith, l)) }

  module _ (k : ℕ) (s : State TensorValue) (op : Op) (at : slice_get f.instructions k ≡ Some op) (behind : IsBehind grid f arguments k s) where
    same_gives : (c : ℕ) → c < cell_count grid → gives (steps_on grid) op s c ≡ gives (steps_on grid) op (before k) c
    unfolding steps_on
    same_gives c l = gives_alike (steps_on grid) s (before k) behind.alike (has_groups grid) op c l

    behind_alike : (c name : ℕ) → c < cell_count grid → s c name ≡ before k c name
    unfolding steps_on
    behind_alike c name m = behind.alike c name m

    next_is : before (suc k) ≡ next_state (steps_on grid) op (before k)
    next_is =
        ap (λ ops. state_after (steps_on grid) ops (at_start f.parameters arguments)) (take_one f.instructions k op at)
        ∙ state_append (steps_on grid) (take k f.instructions) (op ∷ []) (at_start f.parameters arguments)

    module _ (s' : State TensorValue) (row : List TensorValue) (given : AreGiven grid op s (cell_count grid) row)
        (is : s' ≡ with_row op.defines row s) where
      has_value : (c : ℕ) → c < cell_count grid → IsSome (gives (steps_on grid) op (before k) c)
      has_value c m =
          let inside = found row c (omega (arith, m, given.counted)) in
          subst (λ (o : Option TensorValue). IsSome o) (sym inside.at ∙ sym (given.each c m) ∙ same_gives c m) refl

      by_name : (c name : ℕ) → c < cell_count grid → (b : Bool)
          → (if b then slice_get row c else s c name) ≡ (if b then gives (steps_on grid) op (before k) c else before k c name)
      by_name c name m true = sym (given.each c m) ∙ same_gives c m
      by_name c name m false = behind_alike c name m

      alike_next : (c name : ℕ) → c < (steps_on grid).devices → s' c name ≡ before (suc k) c name
      unfolding steps_on
      alike_next c name m =
          ap (λ (t : State TensorValue). t c name) is
          ∙ by_name c name m (is_name op.defines name)
          ∙ sym (ap (λ (t : State TensorValue). t c name) next_is)

      -- with the row of one more
      pub goes_on : IsBehind grid f arguments (suc k) s'
      goes_on = record {
        within = let l = slice_get_within f.instructions k op at in omega (arith, l);
        alike = alike_next;
        there = λ i c other l e m. elim (below_or_at i k (omega (arith, l))) [
          | inl less ↦ behind.there i c other less e m
          | inr same ↦
              let here : slice_get f.instructions k ≡ Some other = ap (slice_get f.instructions) (sym same) ∙ e in
              subst (λ (x : Op). IsSome (gives (steps_on grid) x (before i) c)) (same_Some op other (sym at ∙ here))
              (subst (λ j. IsSome (gives (steps_on grid) op (before j) c)) (sym same) (has_value c m))
        ];
      }

  -- ---- how it ends

  abbrev program : Program TensorValue
  program = program_by_names (steps_on grid) f arguments

  module _ (counted : HaveArguments (steps_on grid) f.parameters arguments) where
    named : IsByNames (steps_on grid) f arguments program
    named = by_names (steps_on grid) f arguments (has_groups grid) counted

    value_at : (i c : ℕ) (x : Op) → slice_get f.instructions i ≡ Some x → c < cell_count grid
        → value program i c ≡ gives (steps_on grid) x (before i) c
    unfolding steps_on
    value_at i c x e m = named.values i c x e m

    earlier_there : (k : ℕ) (s : State TensorValue) → IsBehind grid f arguments k s → (i d : ℕ) → i < k → d < cell_count grid → IsSome (value program i d)
    earlier_there k s behind i d l m =
        let inside = found f.instructions i (let w = behind.within in omega (arith, l, w)) in
        subst (λ (o : Option TensorValue). IsSome o) (sym (value_at i d inside.x inside.at m)) (behind.there i d inside.x l inside.at m)

    kind_at : (k : ℕ) (op : Op) → slice_get f.instructions k ≡ Some op → program.is_collective k ≡ (steps_on grid).is_collective op
    unfolding at_instruction
    kind_at k op at = ap (λ (o : Option Op). unwrap_or (option_map (steps_on grid).is_collective o) false) at

    -- where a value is lacking
    pub lacks_at : (k c : ℕ) (s : State TensorValue) (op : Op) → slice_get f.instructions k ≡ Some op → IsBehind grid f arguments k s
        → IsLackingAt grid op s c
        → lockstep program ≡ (if (steps_on grid).is_collective op then MismatchAt k c else StuckAt k c)
    unfolding steps_on
    lacks_at k c s op at behind lacking =
        stops_at program k c (slice_get_within f.instructions k op at) lacking.there
        (value_at k c op at lacking.there ∙ sym (same_gives k s op at behind c lacking.there) ∙ lacking.lacks)
        (earlier_there k s behind)
        (λ d l. let m : d < cell_count grid = let t = lacking.there in omega (arith, l, t) in
        subst (λ (o : Option TensorValue). IsSome o) (sym (value_at k d op at m ∙ sym (same_gives k s op at behind d m))) (lacking.lower d l))
        ∙ ap (λ (b : Bool). if b then MismatchAt k c else StuckAt k c) (kind_at k op at)

    module _ (s : State TensorValue) (behind : IsBehind grid f arguments (length f.instructions) s) where
      -- where none is lacking
      pub ends_done : lockstep program ≡ Done (map (results_of program) (range_with_len 0 (cell_count grid)))
      unfolding steps_on all_results
      ends_done = done_where_all_there program (earlier_there (length f.instructions) s behind)

      pub ends_with : ResultsAreKnown (steps_on grid) f → (c : ℕ) → c < cell_count grid
          → all_there (map (s c) f.results) ≡ Some (results_of program c)
      unfolding steps_on
      ends_with known c m =
          ap all_there (row_alike (steps_on grid) s (before (length f.instructions)) behind.alike c m f.results)
          ∙ ap (λ (ops : List Op). all_there (map (state_after (steps_on grid) ops (at_start f.parameters arguments) c) f.results)) (take_all (length f.instructions) f.instructions (omega arith))
          ∙ (named.back (results_of program) known ends_done).1 c m
