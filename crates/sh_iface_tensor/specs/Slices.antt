-- Slices, at any extents, and their interface.
use Rattle.std.specs.Prelude.{◌≡◌, ℕ, ◌<◌, ◌≤◌, Bool, true, pos, List, [], ◌∷◌, length, map, Some, None, ℤ}
use Rattle.std.specs.List.{AllByRecursion, range_with_len}
use Rattle.sh_base.specs.declared.numbers.Width.{Width}
use Rattle.sh_base.specs.declared.places.Place.{Place}
use Rattle.sh_base.specs.Shape.{max_cells, max_rank}
use Rattle.sh_grid.specs.Grid.{GridValue}
use Rattle.sh_ir.specs.declared.operations.Op.{Op}
use Rattle.sh_ir.specs.declared.operations.OpKind.{OpKind}
use Rattle.sh_ir.specs.declared.operations.OpKind.TheVariants.{ExtractSlice, InsertSlice}
use Rattle.sh_ir.specs.declared.tensor_ops.Slice.{Slice}
use Rattle.sh_ir.specs.declared.types.Dim.{Dim}
use Rattle.sh_sem.specs.Given.{alone, given}
use Rattle.sh_sem.specs.Slices.{Range, lies_within}
use Rattle.sh_sharding.specs.LocalTypes.{local_dims}
use Rattle.sh_sharding.specs.Sharding.{ShardingValue, counted_cells, largest_local}
use Rattle.sh_iface.specs.declared.parts.LocalPart.{LocalPart}
use Rattle.sh_iface.specs.Elements.{known_dims, tensor_of}
use Rattle.sh_iface.specs.LoopNest.{LoopNest, NestDim, NestValue}
use Rattle.sh_iface.specs.Meaning.{Meaning}
use Rattle.sh_iface.specs.Splits.{OptionValue, implied_of}
use Rattle.sh_iface_tensor.specs.declared.slices.SliceKind.{SliceKind}
use Rattle.sh_iface_tensor.specs.declared.slices.SliceKind.TheVariants.{Extract, Insert}
use Rattle.sh_iface.specs.Table.{each_follows, loops_where, some_follow, takes_whole}

-- a range for each dimension of the tensor that is sliced
pub record Sliced : Type 0 where
  pub what : SliceKind  -- whether it is read or written
  pub ranges : List Range
  pub width : Width
  pub place : Place

abbrev pub extents_of : List Range → List ℕ
extents_of ranges = map (λ r. r.extent) ranges

abbrev pub sizes_of : List Range → List ℕ
sizes_of ranges = map (λ r. r.size) ranges

abbrev pub offsets_of : List Range → List ℕ
offsets_of ranges = map (λ r. r.offset) ranges

abbrev pub strides_of : List Range → List ℕ
strides_of ranges = map (λ r. r.stride) ranges

-- one whose cells lie in the tensor, within the limits, and that has a cell
abbrev pub IsRange : Range → Type 0
IsRange r = (0 < r.size) × (0 < r.stride) × (lies_within r ≡ true)

pub record IsSliced (x : Sliced) : Type 0 where
  pub each : AllByRecursion IsRange x.ranges
  pub short : length x.ranges ≤ max_rank
  pub extents : counted_cells (extents_of x.ranges) ≤ max_cells
  pub sizes : counted_cells (sizes_of x.ranges) ≤ max_cells

-- ---- as an operation on tensors of these extents, with these sizes

abbrev pub written : List ℕ → List ℤ
written ns = map (λ n. pos n) ns

abbrev pub slice_by : List Range → List ℕ → Slice
slice_by ranges sizes = record {
  offsets = written (offsets_of ranges);
  sizes = written sizes;
  strides = written (strides_of ranges);
}

-- what it takes one of and what it takes the other of: the tensor that is sliced, and the slice
abbrev pub source_by : {X : Type 0} → SliceKind → X → X → X
source_by Extract sliced slice = sliced
source_by Insert sliced slice = slice

abbrev pub result_by : {X : Type 0} → SliceKind → X → X → X
result_by Extract sliced slice = slice
result_by Insert sliced slice = sliced

abbrev pub kind_at : SliceKind → List Range → List ℕ → Width → List Dim → List Dim → OpKind
kind_at Extract ranges sizes w sliced slice =
    ExtractSlice (record { slice = slice_by ranges sizes; source_type = tensor_of sliced w })
kind_at Insert ranges sizes w sliced slice =
    InsertSlice (record { slice = slice_by ranges sizes; source_type = tensor_of slice w })

abbrev pub operand_count : SliceKind → ℕ
operand_count Extract = 1
operand_count Insert = 2

-- its operands are named 0, 1, .., and then comes its value
abbrev pub op_at : Sliced → List ℕ → List Dim → List Dim → Op
op_at x sizes sliced slice = record {
  kind = kind_at x.what x.ranges sizes x.width sliced slice;
  operands = range_with_len 0 (operand_count x.what);
  defines = Some (operand_count x.what);
  result = tensor_of (result_by x.what sliced slice) x.width;
  place = x.place;
}

abbrev pub whole_op : Sliced → Op
whole_op x =
    op_at x (sizes_of x.ranges) (known_dims (extents_of x.ranges)) (known_dims (sizes_of x.ranges))

-- ---- its interface

-- whether a dimension is taken whole
abbrev pub is_whole : List Range → ℕ → Bool
is_whole ranges = takes_whole (slice_by ranges (sizes_of ranges)) (extents_of ranges)

-- the tensor that is sliced, and the slice: the result's dimensions follow, and of the source's
-- those that are taken whole
abbrev pub sliced_dims : SliceKind → List Range → List NestDim
sliced_dims Extract ranges = some_follow (is_whole ranges) 0 (extents_of ranges)
sliced_dims Insert ranges = each_follows 0 (extents_of ranges)

abbrev pub slice_dims : SliceKind → List Range → List NestDim
slice_dims Extract ranges = each_follows 0 (sizes_of ranges)
slice_dims Insert ranges = some_follow (is_whole ranges) 0 (sizes_of ranges)

abbrev pub sliced_value : Sliced → NestValue
sliced_value x = record { dims = sliced_dims x.what x.ranges; width = x.width }

abbrev pub slice_value : Sliced → NestValue
slice_value x = record { dims = slice_dims x.what x.ranges; width = x.width }

abbrev pub operands_by : {X : Type 0} → SliceKind → X → X → List X
operands_by Extract sliced slice = sliced ∷ []
operands_by Insert sliced slice = slice ∷ sliced ∷ []

abbrev pub loop_extents_by : SliceKind → List Range → List ℕ
loop_extents_by Extract ranges = sizes_of ranges
loop_extents_by Insert ranges = extents_of ranges

unfoldable pub sliced_nest : Sliced → LoopNest
sliced_nest x = record {
  loops = loops_where (is_whole x.ranges) 0 (loop_extents_by x.what x.ranges);
  operands = operands_by x.what (sliced_value x) (slice_value x);
  result = result_by x.what (sliced_value x) (slice_value x);
}

-- how the tensor that is sliced is split, and the slice
abbrev pub sliced_sharding : Sliced → GridValue → OptionValue → ShardingValue
sliced_sharding x g o = implied_of g (sliced_nest x) o (sliced_value x)

abbrev pub slice_sharding : Sliced → GridValue → OptionValue → ShardingValue
slice_sharding x g o = implied_of g (sliced_nest x) o (slice_value x)

-- the largest size of a local slice in each dimension
abbrev pub largest_sizes : ShardingValue → List ℕ
largest_sizes s = map (largest_local s.grid.extents) s.dimensions

abbrev pub local_op : Sliced → ShardingValue → ShardingValue → Op
local_op x sliced slice = op_at x (largest_sizes slice) (local_dims sliced) (local_dims slice)

abbrev pub sliced_part : Sliced → GridValue → OptionValue → LocalPart
sliced_part x g o =
    record { ops = local_op x (sliced_sharding x g o) (slice_sharding x g o) ∷ []; combine = None }

abbrev pub sliced_meaning : Sliced → Meaning
sliced_meaning x = record {
  nest = sliced_nest x;
  scalars = [];
  whole = given (whole_op x) alone;
  place = x.place;
  part = sliced_part x;
}
