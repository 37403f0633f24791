-- What lets a move be made: the sharding that it leads to is an admitted one without halos.
use Rattle.std.proofs.Common.{zero, suc, ◌≡◌, ℕ, ◌-◌, ◌<◌, ◌==◌, Bool, true, false, not, ◌||◌, List, [], ◌∷◌, length, take, set, Result, IfOk, sym, subst, refl, arith, inl, inr}
use Rattle.std.specs.List.{AllZip}
use Rattle.std.proofs.lemmas.List.{get_or-set_same}
use Rattle.std.proofs.lemmas.Result.{IfOk-weaker}
use Rattle.sh_grid.specs.Grid.{AreAxesOf, IsNoneOf}
use Rattle.sh_sharding.specs.declared.shardings.Dimension.{Dimension}
use Rattle.sh_sharding.specs.declared.shardings.Mark.TheVariants.{Balanced}
use Rattle.sh_sharding.specs.Made.{IsEvenOrWhole, IsState, with_dimension}
use Rattle.sh_sharding.specs.Sharding.{ShardingValue, axes_of, dimension_of, is_even, is_split, unsplit}
use Rattle.sh_sharding.proofs.Cases.{and_left, and_right}
use Rattle.sh_sharding.proofs.MadeLaws.{states_stay}
use Rattle.sh_plan.specs.Moves.{at, is_even_or_unsplit, is_listed, last_axis, may_append, with_axis, without_last}
use Rattle.sh_plan.proofs.MoveSteps.{last_apart}
use Rattle.sh_plan.proofs.States.{even_is, some_split}
use Rattle.sh_plan.proofs.Towards.{listed_front}
use Rattle.sh_plan.proofs.Unused.{IsWithin, listed_at, not_before, or_left, or_right, same, unused}

-- an axis that isn't listed is none of the list
pub none_of : (a : ℕ) (xs : List ℕ) → is_listed a xs ≡ false → IsNoneOf a xs
none_of a [] h = tt
none_of a (x ∷ xs) h = (
  (λ e.
      let first : (x == a) ≡ false = or_left (x == a) (is_listed a xs) h in
      let own : (x == a) ≡ true = rw e (same x) in
      cc),
  none_of a xs (or_right (x == a) (is_listed a xs) h),
)

regular : (g : List ℕ) (d : Dimension) → is_even_or_unsplit g d ≡ true → IsEvenOrWhole g d
regular g d h = by (is_even g d) (is_split d) refl refl h
  where
    by : (a b : Bool) → is_even g d ≡ a → is_split d ≡ b → (a || not b) ≡ true → IsEvenOrWhole g d
    by true b e f h' = inl e
    by false true e f h' = absurd (cc)
    by false false e f h' = inr f

pub record IsAppended (s : ShardingValue) (dim axis : ℕ) : Type 0 where
  pub balanced : (dimension_of s dim).mark ≡ Balanced
  pub state : IsState (with_dimension s dim (with_axis (dimension_of s dim) axis))

pub is_appended : (s : ShardingValue) (dim axis : ℕ) → IsState s → dim < length s.dimensions → axis < length s.grid.extents →
    is_listed axis (axes_of s.dimensions) ≡ false → may_append s.grid.extents s.dimensions dim axis ≡ true → IsAppended s dim axis
is_appended s dim axis state within below free may =
    let even : is_even s.grid.extents (with_axis (at s.dimensions dim) axis) ≡ true =
    and_right (is_even_or_unsplit s.grid.extents (at s.dimensions dim)) (is_even s.grid.extents (with_axis (at s.dimensions dim) axis)) may in
    let first : is_even_or_unsplit s.grid.extents (at s.dimensions dim) ≡ true =
    and_left (is_even_or_unsplit s.grid.extents (at s.dimensions dim)) (is_even s.grid.extents (with_axis (at s.dimensions dim) axis)) may in
    record {
      balanced = (even_is s.grid.extents (with_axis (at s.dimensions dim) axis) even).balanced;
      state = (states_stay s state).appended dim axis within below (none_of axis (axes_of s.dimensions) free) (regular s.grid.extents (at s.dimensions dim) first) even;
    }

pub is_dropped : (s : ShardingValue) (dim : ℕ) → IsState s → dim < length s.dimensions → is_even s.grid.extents (dimension_of s dim) ≡ true →
    IsState (with_dimension s dim (without_last (dimension_of s dim)))
is_dropped s dim state within even =
    let some = some_split (dimension_of s dim).axes (even_is s.grid.extents (dimension_of s dim) even).split in
    ((states_stay s state).dropped dim (take (length (dimension_of s dim).axes - 1) (dimension_of s dim).axes) (last_axis (dimension_of s dim)) within even
    (last_apart (dimension_of s dim).axes some)).0

within_own : (ds : List Dimension) → AllZip IsWithin ds ds
within_own [] = tt
within_own (d ∷ ds) = (λ a h. h, within_own ds)

within_set : (ds : List Dimension) (i : ℕ) (x : Dimension) → IsWithin (at ds i) x → AllZip IsWithin ds (set ds i x)
within_set [] i x h = tt
within_set (d ∷ ds) zero x h = (h, within_own ds)
within_set (d ∷ ds) (suc i) x h = (λ a k. k, within_set ds i x h)

-- an axis that leaves a dimension splits none
pub free_then : (rank : ℕ) (ds : List Dimension) (i : ℕ) → AreAxesOf rank (axes_of ds) → AreAxesOf rank (at ds i).axes → i < length ds → is_split (at ds i) ≡ true →
    is_listed (last_axis (at ds i)) (axes_of (set ds i (without_last (at ds i)))) ≡ false
free_then rank ds i axes own within split =
    let some = some_split (at ds i).axes split in
    let there : at (set ds i (without_last (at ds i))) i ≡ without_last (at ds i) = get_or-set_same ds i (without_last (at ds i)) (unsplit 0) within in
    let gone : is_listed (last_axis (at ds i)) (without_last (at ds i)).axes ≡ false = not_before rank (at ds i).axes (length (at ds i).axes - 1) own (omega (arith, some)) in
    unused rank ds (set ds i (without_last (at ds i))) i (last_axis (at ds i))
    (within_set ds i (without_last (at ds i)) (λ a h. listed_front a (length (at ds i).axes - 1) (at ds i).axes h)) axes
    (listed_at (at ds i).axes (length (at ds i).axes - 1) (omega (arith, some))) (rw there gone)

-- what is made is such a sharding where the value that it must be is one
pub made_state : {E : Type 0} (r : Result ShardingValue E) (s : ShardingValue) → IsState s → IfOk r (λ made. made ≡ s) → IfOk r IsState
made_state r s state made = IfOk-weaker r (λ x. x ≡ s) IsState (λ x e. subst IsState (sym e) state) made
