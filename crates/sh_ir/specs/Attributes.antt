-- What is asked of the numbers that an operation writes.
use Rattle.std.specs.Prelude.{ℕ, ◌+◌, ◌*◌, ◌-◌, List, [], ◌∷◌, Bool, true, not, ◌&&◌, ◌||◌, nat_eq, nat_lt, nat_le, ℤ, length, flat_map, filter}
use Rattle.std.specs.List.{list_all}
use Rattle.std.specs.Option.{option_map_or}
use Rattle.sh_ir.specs.declared.operations.OpKind.{OpKind}
use Rattle.sh_ir.specs.declared.operations.OpKind.TheVariants.{Constant, Binary, Compare, Select, Cast, Empty, ExtractSlice, InsertSlice, CollapseShape, ExpandShape, Fill, Matmul, BatchMatmul, Matvec, Vecmat, Dot, Conv1d, Conv2d, Transpose, Broadcast, Reduce, Generic, Sharding, Shard, AllGather, AllSlice, AllReduce, ReduceScatter, AllToAll, Shift, UpdateHalo, Take, Pad, Join, Call, Return}
use Rattle.sh_ir.specs.declared.shard_ops.GridAxes.{GridAxes}
use Rattle.sh_ir.specs.declared.shard_ops.Take as declared_take
use Rattle.sh_ir.specs.declared.shard_ops.UpdateHalo as declared_update_halo
use Rattle.sh_ir.specs.declared.tensor_ops.ExpandShape as declared_expand_shape
use Rattle.sh_ir.specs.declared.tensor_ops.Slice.{Slice}
use Rattle.sh_ir.specs.declared.types.Dim.{Dim}
use Rattle.sh_ir.specs.declared.types.Dim.TheVariants.{Known, Differs}
use Rattle.sh_ir.specs.declared.types.ValueType.{ValueType}
use Rattle.sh_ir.specs.Agreement.{dims_of, rank_of}
use Rattle.sh_ir.specs.Formed.{is_not_negative}
use Rattle.sh_ir.specs.Literals.{is_broken}
use Rattle.sh_ir.specs.Loops.{input_rank, output_rank}
use Rattle.sh_ir.specs.Numbers.{as_natural, as_naturals, are_axes_below, is_permutation, are_naturals, are_positive, are_groups_of}
use Rattle.sh_ir.specs.Regions.{is_among}
use Rattle.sh_ir.specs.Scope.{Scope, grid_item, group_size}
use Rattle.sh_ir.specs.Written.{first_type}

-- ---- slices and reshapes

-- whether the cells of a slice of one dimension lie within an extent
abbrev pub in_extent : ℕ → ℕ → ℕ → Dim → Bool
in_extent offset size stride (Known n) = nat_lt (offset + (size - 1) * stride) n
in_extent offset size stride Differs = true

-- the same dimension by dimension
abbrev pub in_extents : List ℕ → List ℕ → List ℕ → List Dim → Bool
in_extents (o ∷ offsets) (s ∷ sizes) (t ∷ strides) (d ∷ dims) =
    in_extent o s t d && in_extents offsets sizes strides dims
in_extents _ _ _ _ = true

-- how far a slice of one dimension reaches: its size; `?` where the extent is `?`, since the
-- dimension is then taken whole
abbrev pub sliced_dim : ℤ → Dim → Dim
sliced_dim size (Known n) = Known (as_natural size)
sliced_dim size Differs = Differs

abbrev pub sliced_dims : List ℤ → List Dim → List Dim
sliced_dims [] dims = []
sliced_dims (size ∷ sizes) [] = []
sliced_dims (size ∷ sizes) (d ∷ dims) = sliced_dim size d ∷ sliced_dims sizes dims

-- a number of each list for each dimension, offsets from 0 on, sizes and strides from 1 on, and all
-- cells in range where the extent is known
unfoldable pub slice_fits : Slice → List Dim → Bool
slice_fits x dims =
    are_naturals (length dims) x.offsets
    && (are_positive (length dims) x.sizes
    && (are_positive (length dims) x.strides
    && in_extents (as_naturals x.offsets) (as_naturals x.sizes) (as_naturals x.strides) dims))

-- the groups of a reshape: one for each dimension of the side of fewer, of all dimensions of the
-- other; none where that side has rank 0
unfoldable pub groups_fit : ℕ → ℕ → List (List ℤ) → Bool
groups_fit few many groups =
    nat_eq (length groups) few && (nat_eq few 0 || are_groups_of many groups)

unfoldable pub expansion_fits : declared_expand_shape.ExpandShape → ℕ → Bool
expansion_fits x rank =
    groups_fit (rank_of x.source_type) rank x.reassociation && are_naturals rank x.output_shape

-- ---- axes and groups; nothing is asked of those of a grid that isn't defined

-- distinct axes of the grid
unfoldable pub axes_fit : Scope → GridAxes → Bool
axes_fit scope on =
    option_map_or (λ g. are_axes_below (length g.extents) on.grid_axes)
    (grid_item scope.grids on.grid) true

-- a dimension that the tensor has
abbrev pub has_dim : ValueType → ℕ → Bool
has_dim t axis = nat_lt axis (rank_of t)

unfoldable pub along_fits : Scope → GridAxes → ℕ → ValueType → Bool
along_fits scope on axis t = axes_fit scope on && has_dim t axis

-- one of the listed axes
unfoldable pub shifts_along : Scope → GridAxes → ℕ → Bool
shifts_along scope on axis =
    option_map_or (λ g. is_among (as_naturals on.grid_axes) axis)
    (grid_item scope.grids on.grid) true

-- a start and a size for each place of a group, none negative
unfoldable pub pieces_fit : Scope → declared_take.Take → Bool
pieces_fit scope x =
    (list_all is_not_negative x.starts && list_all is_not_negative x.sizes)
    && option_map_or (λ n. nat_eq (length x.starts) n && nat_eq (length x.sizes) n)
    (group_size scope x.on) true

-- how many dimensions are split
abbrev pub split_dims : List (List ℤ) → ℕ
split_dims lists = length (filter (λ axes. nat_lt 0 (length axes)) lists)

-- no more lists than dimensions, two halo sizes for each that is split, none negative, and the
-- listed axes distinct axes of the grid
unfoldable pub halos_fit : Scope → declared_update_halo.UpdateHalo → ℕ → Bool
halos_fit scope x rank =
    nat_le (length x.split_axes) rank
    && (are_naturals (2 * split_dims x.split_axes) x.halo_sizes
    && option_map_or (λ g. are_axes_below (length g.extents) (flat_map (λ axes. axes) x.split_axes))
    (grid_item scope.grids x.grid) true)

-- ---- kind by kind, by the type of the value

unfoldable pub numbers_fit : Scope → OpKind → ValueType → Bool
numbers_fit scope (Constant x) result = not (is_broken x.contents)
numbers_fit scope (Binary x) result = true
numbers_fit scope (Compare x) result = true
numbers_fit scope (Select x) result = true
numbers_fit scope (Cast x) result = true
numbers_fit scope Empty result = true
numbers_fit scope (ExtractSlice x) result = slice_fits x.slice (dims_of x.source_type)
numbers_fit scope (InsertSlice x) result = slice_fits x.slice (dims_of result)
numbers_fit scope (CollapseShape x) result =
    groups_fit (rank_of result) (rank_of x.source_type) x.reassociation
numbers_fit scope (ExpandShape x) result = expansion_fits x (rank_of result)
numbers_fit scope (Fill x) result = true
numbers_fit scope (Matmul x) result = true
numbers_fit scope (BatchMatmul x) result = true
numbers_fit scope (Matvec x) result = true
numbers_fit scope (Vecmat x) result = true
numbers_fit scope (Dot x) result = true
numbers_fit scope (Conv1d x) result = true
numbers_fit scope (Conv2d x) result = true
numbers_fit scope (Transpose x) result = is_permutation (output_rank x.ins_outs) x.permutation
numbers_fit scope (Broadcast x) result = are_axes_below (output_rank x.ins_outs) x.dimensions
numbers_fit scope (Reduce x) result = are_axes_below (input_rank x.ins_outs) x.dimensions
numbers_fit scope (Generic x) result = true
numbers_fit scope (Sharding x) result = true
numbers_fit scope (Shard x) result = true
numbers_fit scope (AllGather x) result = along_fits scope x.on x.gather_axis x.operand_type
numbers_fit scope (AllSlice x) result = along_fits scope x.on x.slice_axis x.operand_type
numbers_fit scope (AllReduce x) result = axes_fit scope x.on
numbers_fit scope (ReduceScatter x) result = along_fits scope x.on x.scatter_axis x.operand_type
numbers_fit scope (AllToAll x) result =
    along_fits scope x.on x.split_axis x.operand_type && has_dim x.operand_type x.concat_axis
numbers_fit scope (Shift x) result = axes_fit scope x.on && shifts_along scope x.on x.shift_axis
numbers_fit scope (UpdateHalo x) result = halos_fit scope x (rank_of result)
numbers_fit scope (Take x) result =
    along_fits scope x.on x.axis x.operand_type && pieces_fit scope x
numbers_fit scope (Pad x) result =
    are_naturals (rank_of x.operand_type) x.low && are_naturals (rank_of x.operand_type) x.high
numbers_fit scope (Join x) result = has_dim (first_type x.operand_types) x.axis
numbers_fit scope (Call x) result = true
numbers_fit scope (Return x) result = true
