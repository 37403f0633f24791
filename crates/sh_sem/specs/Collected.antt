-- What a collective gives to a group of devices, by the operands of the group in group order: for
-- each collective the shape at a place, or a mismatch by the shapes, and the cell at an index.
use Rattle.std.specs.Prelude.{ℕ, ◌*◌, Bool, true, false, List, [], ◌∷◌, map, fold, get_or, set, length, position, nat_eq, nat_lt, Option, Some, None, option_map, option_and_then, slice_get, if◌then◌else◌, ℤ, pos, negsuc, ◌-ℤ◌, unsigned_abs}
use Rattle.std.specs.Int.{int_rem_euclid}
use Rattle.std.specs.List.{list_all, range_with_len}
use Rattle.sh_base.specs.declared.numbers.Cell.{Cell}
use Rattle.sh_base.specs.declared.numbers.Cell.TheVariants.{Undef}
use Rattle.sh_base.specs.declared.numbers.Width.{Width}
use Rattle.sh_base.specs.declared.operations.Kind.{Kind}
use Rattle.sh_base.specs.Shape.{flat_of, unflat_of}
use Rattle.sh_grid.specs.Grid.{on_axes}
use Rattle.sh_int.specs.Reduction.{combine_of}
use Rattle.sh_ir.specs.declared.operations.Op.{Op}
use Rattle.sh_ir.specs.declared.operations.OpKind.{OpKind}
use Rattle.sh_ir.specs.declared.operations.OpKind.TheVariants.{Constant, Binary, Compare, Select, Cast, Empty, ExtractSlice, InsertSlice, CollapseShape, ExpandShape, Fill, Matmul, BatchMatmul, Matvec, Vecmat, Dot, Conv1d, Conv2d, Transpose, Broadcast, Reduce, Generic, Sharding, Shard, AllGather, AllSlice, AllReduce, ReduceScatter, AllToAll, Shift, UpdateHalo, Take, Pad, Join, Call, Return}
use Rattle.sh_ir.specs.declared.shard_ops.Shift as declared_shift
use Rattle.sh_ir.specs.declared.types.Dim.{Dim}
use Rattle.sh_ir.specs.declared.types.ValueType.{ValueType}
use Rattle.sh_ir.specs.Agreement.{dims_of}
use Rattle.sh_ir.specs.Numbers.{as_naturals}
use Rattle.sh_ir.specs.Typing.{typing_of}
use Rattle.sh_tensor.specs.Tensor.{TensorValue, at, build, slice_of, joined_at}
use Rattle.sh_turns.specs.Program.{all_there}
use Rattle.sh_sem.specs.Given.{have_all_extents, of_dims}
use Rattle.sh_sem.specs.Pieces.{equal_piece, piece_shape, joined_shape, common_shape}
use Rattle.sh_sem.specs.Scalars.{width_of}

-- ---- combinations

-- the cells of a group at one index, combined; a group has a member
abbrev pub combined : Kind → Width → List Cell → Cell
combined kind w [] = Undef
combined kind w (c ∷ cells) = fold (combine_of kind w) c cells

-- the combination of all operands at an index
abbrev pub combined_at : Kind → List TensorValue → List ℕ → Cell
combined_at kind [] i = Undef
combined_at kind (t ∷ ts) i = combined kind t.width (map (λ u. at u i) (t ∷ ts))

-- ---- pieces of all members

-- piece p of n along an axis; the tensor itself where n doesn't divide it
abbrev pub piece_of : ℕ → ℕ → ℕ → TensorValue → TensorValue
piece_of axis n p t =
    elim (equal_piece n p (get_or t.shape axis 0)) [
      | None ↦ t
      | Some x ↦ slice_of t axis x.start x.size
    ]

-- piece p of n of one shape
abbrev pub scattered_shape : ℕ → ℕ → ℕ → List ℕ → Option (List ℕ)
scattered_shape axis n p shape = piece_shape axis shape (equal_piece n p (get_or shape axis 0))

-- the pieces of all members one after the other
abbrev pub exchanged_shape : ℕ → ℕ → ℕ → ℕ → List ℕ → Option (List ℕ)
exchanged_shape split_axis concat_axis n p shape =
    option_map (λ s. set s concat_axis (n * get_or s concat_axis 0))
    (scattered_shape split_axis n p shape)

-- ---- shift

-- a coordinate less an offset: in the axis, or round it
abbrev pub shifted : ℕ → Bool → ℕ → ℤ → Option ℕ
shifted extent true c offset = Some (unsigned_abs (int_rem_euclid (pos c -ℤ offset) (pos extent)))
shifted extent false c offset =
    elim (pos c -ℤ offset) [
      | negsuc n ↦ None
      | pos n ↦ if nat_lt n extent then Some n else None
    ]

-- The place of the member whose coordinate on the axis is less by the offset, in a group along axes
-- of these extents. `along` is where the axis stands among them.
abbrev pub source_place : List ℕ → ℕ → Bool → ℤ → ℕ → Option ℕ
source_place extents along rotate offset p =
    let coordinates = unflat_of extents p in
    option_map (λ c. flat_of extents (set coordinates along c))
    (shifted (get_or extents along 1) rotate (get_or coordinates along 0) offset)

-- the same on a grid
abbrev pub shift_source : List ℕ → declared_shift.Shift → ℕ → Option ℕ
shift_source grid x p =
    let axes = as_naturals x.on.grid_axes in
    option_and_then (λ along. source_place (on_axes axes grid) along x.rotate x.offset p)
    (position (nat_eq x.shift_axis) axes)

-- the shape of the source, or the own one
abbrev pub shifted_shape : Option ℕ → ℕ → List (List ℕ) → Option (List ℕ)
shifted_shape None p shapes = slice_get shapes p
shifted_shape (Some source) p shapes = slice_get shapes source

abbrev pub shifted_cell : Option ℕ → List TensorValue → List ℕ → Cell
shifted_cell None ts i = Undef
shifted_cell (Some source) ts i =
    elim (slice_get ts source) [ None ↦ Undef | Some t ↦ at t i ]

-- ---- one entry a collective

-- what a collective gives at a place of the group
pub record Collecting : Type 0 where
  -- the shape, by the place and the operands' shapes. None: a mismatch
  pub shape : ℕ → List (List ℕ) → Option (List ℕ)
  -- the cell at an index, by the place and the operands
  pub cell : ℕ → List TensorValue → List ℕ → Cell

-- all operands one after the other
unfoldable pub gathers : ℕ → Collecting
gathers axis = record {
  shape = λ p shapes. joined_shape axis shapes;
  cell = λ p ts i. joined_at axis ts i;
}

-- the combination of all operands
unfoldable pub reduces : Kind → Collecting
reduces kind = record {
  shape = λ p shapes. common_shape shapes;
  cell = λ p ts i. combined_at kind ts i;
}

-- a piece of the combination
unfoldable pub scatters : Kind → ℕ → Collecting
scatters kind axis = record {
  shape = λ p shapes.
      option_and_then (scattered_shape axis (length shapes) p) (common_shape shapes);
  cell = λ p ts i. combined_at kind (map (piece_of axis (length ts) p) ts) i;
}

-- a piece of each operand, one after the other
unfoldable pub exchanges : ℕ → ℕ → Collecting
exchanges split_axis concat_axis = record {
  shape = λ p shapes.
      option_and_then (exchanged_shape split_axis concat_axis (length shapes) p)
      (common_shape shapes);
  cell = λ p ts i. joined_at concat_axis (map (piece_of split_axis (length ts) p) ts) i;
}

-- the operand of another member; where there is none, undefined cells in the own operand's shape
unfoldable pub shifts : List ℕ → declared_shift.Shift → Collecting
shifts grid x = record {
  shape = λ p shapes. shifted_shape (shift_source grid x p) p shapes;
  cell = λ p ts i. shifted_cell (shift_source grid x p) ts i;
}

-- by kind, on a grid of these extents; an exchange of halos isn't described yet, and the others are
-- no collectives
unfoldable pub collecting : OpKind → List ℕ → Option Collecting
collecting (AllGather x) grid = Some (gathers x.gather_axis)
collecting (AllReduce x) grid = Some (reduces x.reduction)
collecting (ReduceScatter x) grid = Some (scatters x.reduction x.scatter_axis)
collecting (AllToAll x) grid = Some (exchanges x.split_axis x.concat_axis)
collecting (Shift x) grid = Some (shifts grid x)
collecting (UpdateHalo x) grid = None
collecting (Constant x) grid = None
collecting (Binary x) grid = None
collecting (Compare x) grid = None
collecting (Select x) grid = None
collecting (Cast x) grid = None
collecting Empty grid = None
collecting (ExtractSlice x) grid = None
collecting (InsertSlice x) grid = None
collecting (CollapseShape x) grid = None
collecting (ExpandShape x) grid = None
collecting (Fill x) grid = None
collecting (Matmul x) grid = None
collecting (BatchMatmul x) grid = None
collecting (Matvec x) grid = None
collecting (Vecmat x) grid = None
collecting (Dot x) grid = None
collecting (Conv1d x) grid = None
collecting (Conv2d x) grid = None
collecting (Transpose x) grid = None
collecting (Broadcast x) grid = None
collecting (Reduce x) grid = None
collecting (Generic x) grid = None
collecting (Sharding x) grid = None
collecting (Shard x) grid = None
collecting (AllSlice x) grid = None
collecting (Take x) grid = None
collecting (Pad x) grid = None
collecting (Join x) grid = None
collecting (Call x) grid = None
collecting (Return x) grid = None

-- ---- the results

-- the shapes of all operands have the extents that their type knows
abbrev pub operands_fit : OpKind → ValueType → List (List ℕ) → Bool
operands_fit kind result shapes =
    list_all (λ shape. have_all_extents (typing_of kind result) (shape ∷ [])) shapes

-- the shapes of all results
abbrev pub shapes_by : List Dim → List (List ℕ) → Collecting → Option (List (List ℕ))
shapes_by dims shapes x =
    all_there (map (λ p. option_and_then (of_dims dims) (x.shape p shapes))
    (range_with_len 0 (length shapes)))

-- The shapes of the results of a group in group order, by those of its operands. There are none
-- where the group mismatches: where sizes disagree, or a known extent of a written type isn't the
-- actual one at some member.
unfoldable pub shapes_collected : Op → List ℕ → List (List ℕ) → Option (List (List ℕ))
shapes_collected op grid shapes =
    if operands_fit op.kind op.result shapes
    then option_and_then (shapes_by (dims_of op.result) shapes) (collecting op.kind grid)
    else None

-- the result at a place, of this shape
abbrev pub result_at : Op → List ℕ → List TensorValue → ℕ → List ℕ → Option TensorValue
result_at op grid ts p shape =
    option_map (λ x. build shape (width_of op.result) (x.cell p ts)) (collecting op.kind grid)

-- What a collective gives at a place of a group, by the operands in group order. There is none
-- where the group mismatches.
unfoldable pub collected : Op → List ℕ → List TensorValue → ℕ → Option TensorValue
collected op grid ts p =
    option_and_then (result_at op grid ts p)
    (option_and_then (λ shapes. slice_get shapes p)
    (shapes_collected op grid (map (λ t. t.shape) ts)))
