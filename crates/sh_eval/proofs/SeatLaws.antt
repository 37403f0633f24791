-- What an operation gives on a device, by a seat at which it gives the same.
use Rattle.std.proofs.Common.{◌≡◌, ℕ, ◌+◌, ◌<◌, ◌≤◌, true, false, List, [], ◌∷◌, ◌++◌, take, length, get_or, Option, None, refl, ap, sym, ◌∙◌, arith, subst, inl, inr}
use Rattle.std.proofs.lemmas.Bool.{cases_Bool}
use Rattle.std.proofs.lemmas.Bool.Decides.{nat_tests}
use Rattle.std.proofs.lemmas.List.{get_or-map, length-map, take_all, take_more}
use Rattle.std.proofs.lemmas.Map.Steps.{length-le_from_distinct_below}
use Rattle.std.specs.List.{AllByRecursion, IsDistinct, list_any}
use Rattle.std.specs.Prelude.{◌||◌, ◌⊎◌, IfSome, if◌then◌else◌, nat_eq, option_and_then, ℤ}
use Rattle.sh_grid.specs.Grid.{AreAxesOf, IsNoneOf}
use Rattle.sh_grid.proofs.GroupSteps.{AreAxesOf-at}
use Rattle.sh_ir.specs.declared.operations.Op.{Op}
use Rattle.sh_ir.specs.declared.operations.OpKind.{OpKind}
use Rattle.sh_ir.specs.declared.operations.OpKind.TheVariants.{Constant, Binary, Compare, Select, Cast, Empty, ExtractSlice, InsertSlice, CollapseShape, ExpandShape, Fill, Matmul, BatchMatmul, Matvec, Vecmat, Dot, Conv1d, Conv2d, Transpose, Broadcast, Reduce, Generic, Sharding, Shard, AllGather, AllSlice, AllReduce, ReduceScatter, AllToAll, Shift, UpdateHalo, Take, Pad, Join, Call, Return}
use Rattle.sh_ir.specs.declared.shard_ops.AllSlice as declared_all_slice
use Rattle.sh_ir.specs.declared.shard_ops.Take as declared_take
use Rattle.sh_ir.specs.Agreement.{dims_of}
use Rattle.sh_ir.specs.Numbers.{as_natural, as_naturals}
use Rattle.sh_ir.specs.Typing.{typing_of}
use Rattle.sh_sem.specs.Given.{Giving, Seat, built_of, cell_given, given, giving, have_all_extents, of_dims, shape_given}
use Rattle.sh_sem.specs.Scalars.{width_of}
use Rattle.sh_sem.specs.Steps.{axes_of, steps_on}
use Rattle.sh_tensor.specs.Tensor.{TensorValue}
use Rattle.sh_eval.specs.Evaluations.{CanEvaluate}
use Rattle.sh_eval.specs.Seats.{GivesAlike, seat_along}
use Rattle.sh_eval.specs.Values.{IsFew, shapes_of}

-- ---- one value at two seats

module _ (op : Op) (s t : Seat) (ts : List TensorValue) (alike : GivesAlike op.kind s t) where
  same_giving : giving op.kind op.operands op.result s ≡ giving op.kind op.operands op.result t
  same_giving = alike op.operands op.result

  same_shape : shape_given op s (shapes_of ts) ≡ shape_given op t (shapes_of ts)
  unfolding shape_given
  same_shape =
      ap (λ (g : Option Giving). if have_all_extents (typing_of op.kind op.result) (shapes_of ts)
      then option_and_then (of_dims (dims_of op.result)) (option_and_then (λ x. x.shape (shapes_of ts)) g) else None)
      same_giving

  pub same_given : given op s ts ≡ given op t ts
  unfolding given cell_given
  same_given =
      ap (λ (o : Option (List ℕ)). option_and_then (λ shape. built_of shape (width_of op.result)
      (λ i. option_and_then (λ x. x.cell ts shape i) (giving op.kind op.operands op.result s))) o) same_shape
      ∙ ap (λ (g : Option Giving). option_and_then (λ shape. built_of shape (width_of op.result)
      (λ i. option_and_then (λ x. x.cell ts shape i) g)) (shape_given op t (shapes_of ts))) same_giving

  pub can_evaluate_alike : CanEvaluate op t ts → CanEvaluate op s ts
  can_evaluate_alike can = record { fits = can.fits; rank = can.rank; few = subst (λ o. IfSome o IsFew) (sym same_shape) can.few }

-- what the machine's local step is
pub local_is : (grid : List ℕ) (op : Op) (device : ℕ) (ts : List TensorValue)
    → given op (seat_along grid (axes_of op.kind) device) ts ≡ (steps_on grid).local op device ts
unfolding steps_on
local_is grid op device ts = refl

-- ---- kinds that give the same wherever a device stands

pub alike_elsewhere : (kind : OpKind) → ((x : declared_all_slice.AllSlice) → kind ≡ AllSlice x → ⊥) → ((x : declared_take.Take) → kind ≡ Take x → ⊥)
    → (s t : Seat) → GivesAlike kind s t
unfolding giving
alike_elsewhere (Constant x) slice take s t operands result = refl
alike_elsewhere (Binary x) slice take s t operands result = refl
alike_elsewhere (Compare x) slice take s t operands result = refl
alike_elsewhere (Select x) slice take s t operands result = refl
alike_elsewhere (Cast x) slice take s t operands result = refl
alike_elsewhere Empty slice take s t operands result = refl
alike_elsewhere (ExtractSlice x) slice take s t operands result = refl
alike_elsewhere (InsertSlice x) slice take s t operands result = refl
alike_elsewhere (CollapseShape x) slice take s t operands result = refl
alike_elsewhere (ExpandShape x) slice take s t operands result = refl
alike_elsewhere (Fill x) slice take s t operands result = refl
alike_elsewhere (Matmul x) slice take s t operands result = refl
alike_elsewhere (BatchMatmul x) slice take s t operands result = refl
alike_elsewhere (Matvec x) slice take s t operands result = refl
alike_elsewhere (Vecmat x) slice take s t operands result = refl
alike_elsewhere (Dot x) slice take s t operands result = refl
alike_elsewhere (Conv1d x) slice take s t operands result = refl
alike_elsewhere (Conv2d x) slice take s t operands result = refl
alike_elsewhere (Transpose x) slice take s t operands result = refl
alike_elsewhere (Broadcast x) slice take s t operands result = refl
alike_elsewhere (Reduce x) slice take s t operands result = refl
alike_elsewhere (Generic x) slice take s t operands result = refl
alike_elsewhere (Sharding x) slice take s t operands result = refl
alike_elsewhere (Shard x) slice take s t operands result = refl
alike_elsewhere (AllGather x) slice take s t operands result = refl
alike_elsewhere (AllSlice x) slice take s t operands result = absurd (slice x refl)
alike_elsewhere (AllReduce x) slice take s t operands result = refl
alike_elsewhere (ReduceScatter x) slice take s t operands result = refl
alike_elsewhere (AllToAll x) slice take s t operands result = refl
alike_elsewhere (Shift x) slice take s t operands result = refl
alike_elsewhere (UpdateHalo x) slice take s t operands result = refl
alike_elsewhere (Take x) slice take s t operands result = absurd (take x refl)
alike_elsewhere (Pad x) slice take s t operands result = refl
alike_elsewhere (Join x) slice take s t operands result = refl
alike_elsewhere (Call x) slice take s t operands result = refl
alike_elsewhere (Return x) slice take s t operands result = refl

-- ---- axes

none_of : (a : ℕ) (axes : List ℕ) → IsNoneOf a axes → AllByRecursion (λ b. nat_eq a b ≡ false) axes
none_of a [] h = tt
none_of a (b ∷ axes) h = (other (cases_Bool (nat_eq a b)), none_of a axes h.1)
  where
    other : (nat_eq a b ≡ true) ⊎ (nat_eq a b ≡ false) → nat_eq a b ≡ false
    other (inl e) = let same : a ≡ b = grind (arith, nat_tests) in absurd (h.0 same)
    other (inr e) = e

are_apart : (rank : ℕ) (axes : List ℕ) → AreAxesOf rank axes → IsDistinct nat_eq axes
unfolding IsDistinct
are_apart rank [] h = tt
are_apart rank (a ∷ axes) h = (none_of a axes h.1, are_apart rank axes h.2)

all_below : (rank : ℕ) (axes : List ℕ) (q : ℕ) → AreAxesOf rank axes → list_any (nat_eq q) axes ≡ true → q < rank
all_below rank [] q h e = absurd (cc)
all_below rank (a ∷ axes) q h e = go (cases_Bool (nat_eq q a)) (λ rest. all_below rank axes q h.2 rest)
  where
    go : (nat_eq q a ≡ true) ⊎ (nat_eq q a ≡ false) → (list_any (nat_eq q) axes ≡ true → q < rank) → q < rank
    go (inl same) rest = let is : q ≡ a = grind (arith, nat_tests) in subst (λ n. n < rank) (sym is) h.0
    go (inr other) rest = rest (ap (λ b. b || list_any (nat_eq q) axes) (sym other) ∙ e)

-- distinct axes are no more than there are
pub few_axes : (rank : ℕ) (axes : List ℕ) → AreAxesOf rank axes → length axes ≤ rank
few_axes rank axes h = length-le_from_distinct_below axes rank (are_apart rank axes h) (λ q e. all_below rank axes q h e)

axis_at : (axes : List ℤ) (i : ℕ) (z d : ℤ) → i < length axes → z ≡ get_or axes i d → get_or (as_naturals axes) i 0 ≡ as_natural z
axis_at axes i z d l e = get_or-map as_natural axes i d 0 l ∙ sym (ap as_natural e)

pub axis_below : (all grid : List ℕ) (axes : List ℤ) (i : ℕ) (z d : ℤ) → all ≡ grid → AreAxesOf (length grid) (as_naturals axes) → i < length axes
    → z ≡ get_or axes i d → as_natural z < length all
axis_below all grid axes i z d e h l is =
    subst (λ s. as_natural z < length s) (sym e)
    (subst (λ a. a < length grid) (axis_at axes i z d l is) (AreAxesOf-at (length grid) (as_naturals axes) i h (rw (length-map axes as_natural) l)))

pub one_axis : (axes : List ℤ) (old new : List ℕ) (i : ℕ) (z d : ℤ) → i < length axes → z ≡ get_or axes i d → old ≡ take i (as_naturals axes)
    → new ≡ old ++ as_natural z ∷ [] → new ≡ take (i + 1) (as_naturals axes)
one_axis axes old new i z d l is so_far pushed =
    let long : i < length (as_naturals axes) = rw (length-map axes as_natural) l in
    pushed ∙ ap (λ o. o ++ as_natural z ∷ []) so_far ∙ ap (λ a. take i (as_naturals axes) ++ a ∷ []) (sym (axis_at axes i z d l is))
    ∙ sym (take_more (as_naturals axes) i 0 long)

pub all_axes : (axes : List ℤ) (found : List ℕ) (i : ℕ) → length axes ≤ i → found ≡ take i (as_naturals axes) → found ≡ as_naturals axes
all_axes axes found i past so_far = so_far ∙ take_all i (as_naturals axes) (rw (length-map axes as_natural) past)
