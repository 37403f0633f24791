-- What is described of a collective, by its kind.
use Rattle.std.proofs.Common.{◌≡◌, ℕ, ◌+◌, ◌<◌, Bool, true, false, List, length, get_or, drop, refl, ap, sym, ◌∙◌, subst, slice_index, Option, Some, None}
use Rattle.std.specs.Prelude.{◌&&◌, nat_eq, position, IfSome, ℤ}
use Rattle.std.specs.List.{position_from}
use Rattle.std.proofs.lemmas.List.{drop_more, length-map, get_or-map}
use Rattle.std.proofs.lemmas.List.Quantifiers.{position-Some}
use Rattle.sh_base.specs.Shape.{cell_count}
use Rattle.sh_collectives.specs.declared.ways.Described.{Described}
use Rattle.sh_collectives.specs.declared.ways.Shifting.{Shifting}
use Rattle.sh_collectives.specs.declared.ways.Way.TheVariants as way
use Rattle.sh_collectives.specs.Ways.{IsOfSize, shifts_by}
use Rattle.sh_collectives.specs.Described.{IsShift, IsDescription}
use Rattle.sh_grid.specs.Grid.{AreAxesOf, group_size_of, on_axes}
use Rattle.sh_grid.proofs.GroupLaws.{length-on_axes}
use Rattle.sh_grid.proofs.GroupSteps.{AreAxesOf-at}
use Rattle.sh_ir.specs.Agreement.{dims_of}
use Rattle.sh_ir.specs.declared.operations.OpKind.{OpKind}
use Rattle.sh_ir.specs.declared.operations.OpKind.TheVariants as kind
use Rattle.sh_ir.specs.declared.shard_ops.AllGather as declared_all_gather
use Rattle.sh_ir.specs.declared.shard_ops.AllReduce as declared_all_reduce
use Rattle.sh_ir.specs.declared.shard_ops.AllToAll as declared_all_to_all
use Rattle.sh_ir.specs.declared.shard_ops.ReduceScatter as declared_reduce_scatter
use Rattle.sh_ir.specs.declared.shard_ops.Shift as declared_shift
use Rattle.sh_ir.specs.Numbers.{as_natural, as_naturals}
use Rattle.sh_ir.specs.Typing.{typing_of}
use Rattle.sh_sem.specs.Collected.{collecting, shifts}
use Rattle.sh_sem.specs.Steps.{axes_of}
use Rattle.sh_sem.specs.Types.{have_extents}

-- ---- where an axis stands

-- it is the axis here
pub found_here : (p : ℕ → Bool) (xs : List ℤ) (i : ℕ) (z d : ℤ) (whole : Option ℕ) → i < length xs → z ≡ get_or xs i d → p (as_natural z) ≡ true
    → position_from p i (drop i (as_naturals xs)) ≡ whole → Some i ≡ whole
found_here p xs i z d whole l e here h =
    let long : i < length (as_naturals xs) = rw (length-map xs as_natural) l in
    let entry : get_or (as_naturals xs) i (as_natural d) ≡ as_natural z = get_or-map as_natural xs i d (as_natural d) l ∙ sym (ap as_natural e) in
    sym (rw (drop_more (as_naturals xs) i (as_natural d) long, entry, here) refl) ∙ h

pub found_later : (p : ℕ → Bool) (xs : List ℤ) (i : ℕ) (z d : ℤ) (whole : Option ℕ) → i < length xs → z ≡ get_or xs i d → p (as_natural z) ≡ false
    → position_from p i (drop i (as_naturals xs)) ≡ whole → position_from p (i + 1) (drop (i + 1) (as_naturals xs)) ≡ whole
found_later p xs i z d whole l e here h =
    let long : i < length (as_naturals xs) = rw (length-map xs as_natural) l in
    let entry : get_or (as_naturals xs) i (as_natural d) ≡ as_natural z = get_or-map as_natural xs i d (as_natural d) l ∙ sym (ap as_natural e) in
    sym (rw (drop_more (as_naturals xs) i (as_natural d) long, entry, here) refl) ∙ h

-- ---- the extents of a group

pub as_many : (axes : List ℤ) (grid : List ℕ) → length (on_axes (as_naturals axes) grid) ≡ length axes
as_many axes grid = length-on_axes (as_naturals axes) grid ∙ length-map axes as_natural

axis_at : (axes : List ℤ) (i : ℕ) (z d : ℤ) → i < length axes → z ≡ get_or axes i d → get_or (as_naturals axes) i 0 ≡ as_natural z
axis_at axes i z d l e = get_or-map as_natural axes i d 0 l ∙ sym (ap as_natural e)

pub axis_below : (all grid : List ℕ) (axes : List ℤ) (i : ℕ) (z d : ℤ) → all ≡ grid → AreAxesOf (length grid) (as_naturals axes) → i < length axes → z ≡ get_or axes i d
    → as_natural z < length all
axis_below all grid axes i z d e h l ez =
    subst (λ s. as_natural z < length s) (sym e)
    (subst (λ a. a < length grid) (axis_at axes i z d l ez) (AreAxesOf-at (length grid) (as_naturals axes) i h (rw (length-map axes as_natural) l)))

pub extent_of_axis : (all grid : List ℕ) (axes : List ℤ) (i : ℕ) (z d : ℤ) → all ≡ grid → i < length axes → z ≡ get_or axes i d
    → get_or all (as_natural z) 0 ≡ get_or (on_axes (as_naturals axes) grid) i 0
unfolding on_axes
extent_of_axis all grid axes i z d e l ez =
    let long : i < length (as_naturals axes) = rw (length-map axes as_natural) l in
    ap (λ s. get_or s (as_natural z) 0) e ∙ ap (λ a. get_or grid a 0) (sym (axis_at axes i z d l ez))
    ∙ sym (get_or-map (λ a. slice_index grid a) (as_naturals axes) i 0 0 long)

-- ---- by kind

and_true : (b : Bool) → (b && true) ≡ b
and_true true = refl
and_true false = refl

module _ (k : OpKind) (grid : List ℕ) (d : Described) where
  pub described_gather : (x : declared_all_gather.AllGather) → k ≡ kind.AllGather x → d.way ≡ way.Gather x.gather_axis → d.dims.now ≡ dims_of x.operand_type → IsDescription k grid d
  unfolding collecting typing_of
  described_gather x ek ew ed = record {
    collecting = rw (ek, ew) refl;
    dims = rw (ek, ew) refl;
    size = subst (λ w. IsOfSize w (group_size_of grid (axes_of k))) (sym ew) tt;
    operand = λ result shape. rw (ek, ed) (and_true (have_extents (dims_of x.operand_type) shape));
  }

  pub described_reduce : (x : declared_all_reduce.AllReduce) → k ≡ kind.AllReduce x → d.way ≡ way.Reduce x.reduction → d.dims.now ≡ dims_of x.operand_type → IsDescription k grid d
  unfolding collecting typing_of
  described_reduce x ek ew ed = record {
    collecting = rw (ek, ew) refl;
    dims = rw (ek, ew) refl;
    size = subst (λ w. IsOfSize w (group_size_of grid (axes_of k))) (sym ew) tt;
    operand = λ result shape. rw (ek, ed) (and_true (have_extents (dims_of x.operand_type) shape));
  }

  pub described_scatter : (x : declared_reduce_scatter.ReduceScatter) → k ≡ kind.ReduceScatter x → d.way ≡ way.Scatter x.reduction x.scatter_axis → d.dims.now ≡ dims_of x.operand_type
      → IsDescription k grid d
  unfolding collecting typing_of
  described_scatter x ek ew ed = record {
    collecting = rw (ek, ew) refl;
    dims = rw (ek, ew) refl;
    size = subst (λ w. IsOfSize w (group_size_of grid (axes_of k))) (sym ew) tt;
    operand = λ result shape. rw (ek, ed) (and_true (have_extents (dims_of x.operand_type) shape));
  }

  pub described_exchange : (x : declared_all_to_all.AllToAll) → k ≡ kind.AllToAll x → d.way ≡ way.Exchange x.split_axis x.concat_axis → d.dims.now ≡ dims_of x.operand_type
      → IsDescription k grid d
  unfolding collecting typing_of
  described_exchange x ek ew ed = record {
    collecting = rw (ek, ew) refl;
    dims = rw (ek, ew) refl;
    size = subst (λ w. IsOfSize w (group_size_of grid (axes_of k))) (sym ew) tt;
    operand = λ result shape. rw (ek, ed) (and_true (have_extents (dims_of x.operand_type) shape));
  }

-- the shift of an operation is that of its group
shift_is : (x : declared_shift.Shift) (grid : List ℕ) (s : Shifting) → IsShift x grid s → shifts grid x ≡ shifts_by s
unfolding shifts shifts_by
shift_is x grid s h = rw (h.extents, h.along, h.offset, h.rotate) refl

below : (p : ℕ → Bool) (xs : List ℕ) (o : Option ℕ) → o ≡ position p xs → IfSome o (λ i. i < length xs)
below p xs None h = tt
below p xs (Some i) h = (position-Some p xs i 0 (sym h)).0

stands_among : (x : declared_shift.Shift) (grid : List ℕ) (s : Shifting) → IsShift x grid s → IfSome s.along (λ along. along < length s.extents)
stands_among x grid s h =
    rw (h.extents, length-on_axes (as_naturals x.on.grid_axes) grid) (below (nat_eq x.shift_axis) (as_naturals x.on.grid_axes) s.along h.along)

pub described_shift : (k : OpKind) (grid : List ℕ) (d : Described) (x : declared_shift.Shift) (s : Shifting) → k ≡ kind.Shift x → d.way ≡ way.Shift s → IsShift x grid s
    → d.dims.now ≡ dims_of x.operand_type → IsDescription k grid d
unfolding collecting typing_of group_size_of
described_shift k grid d x s ek ew es ed = record {
  collecting = rw (ek, ew) (ap (λ c. Some c) (shift_is x grid s es));
  dims = rw (ek, ew) refl;
  size = rw (ek, ew) (record { counted = ap cell_count es.extents; along = stands_among x grid s es });
  operand = λ result shape. rw (ek, ed) (and_true (have_extents (dims_of x.operand_type) shape));
}
