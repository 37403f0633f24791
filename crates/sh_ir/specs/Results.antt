-- What is asked of the type of an operation's value, by the types of its operands.
use Rattle.std.specs.Prelude.{ℕ, ◌+◌, ◌*◌, ◌/◌, ◌%◌, List, [], ◌∷◌, Option, Some, None, Bool, true, false, not, ◌&&◌, ◌||◌, nat_eq, nat_lt, ℤ, map, sum, get_or, if◌then◌else◌}
use Rattle.std.specs.List.{list_all, list_any}
use Rattle.std.specs.Option.{option_map_or}
use Rattle.std.specs.Cmp.Lexicographic.{pointwise}
use Rattle.sh_base.specs.Shape.{cell_count}
use Rattle.sh_base.specs.declared.operations.CastOp.{CastOp}
use Rattle.sh_base.specs.declared.operations.CastOp.TheVariants.{Extsi, Extui, Trunci}
use Rattle.sh_ir.specs.declared.calls.Call as declared_call
use Rattle.sh_ir.specs.declared.operations.OpKind.{OpKind}
use Rattle.sh_ir.specs.declared.operations.OpKind.TheVariants.{Constant, Binary, Compare, Select, Cast, Empty, ExtractSlice, InsertSlice, CollapseShape, ExpandShape, Fill, Matmul, BatchMatmul, Matvec, Vecmat, Dot, Conv1d, Conv2d, Transpose, Broadcast, Reduce, Generic, Sharding, Shard, AllGather, AllSlice, AllReduce, ReduceScatter, AllToAll, Shift, UpdateHalo, Take, Pad, Join, Call, Return}
use Rattle.sh_ir.specs.declared.tensor_ops.ExpandShape as declared_expand_shape
use Rattle.sh_ir.specs.declared.tensor_ops.ExtractSlice as declared_extract_slice
use Rattle.sh_ir.specs.declared.types.Dim.{Dim}
use Rattle.sh_ir.specs.declared.types.Dim.TheVariants.{Known, Differs}
use Rattle.sh_ir.specs.declared.types.ValueType.{ValueType}
use Rattle.sh_ir.specs.Agreement.{same_rank_and_bits, dims_of, cell_bits, same_bits, differs, dims_agree, shapes_agree, types_agree, all_related}
use Rattle.sh_ir.specs.Attributes.{numbers_fit, has_dim, pieces_fit, sliced_dims}
use Rattle.sh_ir.specs.Numbers.{known_dims, as_naturals}
use Rattle.sh_ir.specs.Operands.{loop_dim, beside}
use Rattle.sh_ir.specs.Scope.{Scope, func_item, group_size}
use Rattle.sh_ir.specs.Shapes.{extent_of}
use Rattle.sh_ir.specs.Written.{first_type}

-- the type of the output; where a generic has none, its maps are refused
abbrev pub has_output_type : List ValueType → ValueType → Bool
has_output_type [] result = true
has_output_type (t ∷ ts) result = types_agree t result

-- ---- casts, slices and reshapes

-- an extension widens, a truncation narrows
abbrev pub changes_bits : CastOp → ℕ → ℕ → Bool
changes_bits Extsi from to = nat_lt from to
changes_bits Extui from to = nat_lt from to
changes_bits Trunci from to = nat_lt to from

unfoldable pub is_cast : CastOp → ValueType → ValueType → Bool
is_cast op t u = changes_bits op (cell_bits t) (cell_bits u) && shapes_agree (dims_of t) (dims_of u)

-- the sizes, where the slice is in order
unfoldable pub is_slice : Bool → declared_extract_slice.ExtractSlice → ValueType → Bool
is_slice in_order x result =
    same_rank_and_bits x.source_type result
    && (not in_order || shapes_agree (sliced_dims x.slice.sizes (dims_of x.source_type)) (dims_of result))

-- the number of cells of these dimensions; `?` where one isn't known
abbrev pub product_dim : List Dim → Dim
product_dim ds = if list_any differs ds then Differs else Known (cell_count (map extent_of ds))

abbrev pub dims_at : List Dim → List ℤ → List Dim
dims_at dims group = map (λ i. get_or dims i Differs) (as_naturals group)

-- each dimension of the side of fewer has the cells of its group; one of rank 0 has one cell
unfoldable pub products_fit : List Dim → List (List ℤ) → List Dim → Bool
products_fit [] groups many = dims_agree (Known 1) (product_dim many)
products_fit (d ∷ few) groups many =
    pointwise (λ e group. dims_agree e (product_dim (dims_at many group))) (d ∷ few) groups

unfoldable pub is_expanded : declared_expand_shape.ExpandShape → ValueType → Bool
is_expanded x result =
    shapes_agree (known_dims x.output_shape) (dims_of result)
    && products_fit (dims_of x.source_type) x.reassociation (dims_of result)

-- ---- along one dimension, in groups of so many devices, where that is known

-- the extents of all members together
abbrev pub is_gathered : Option ℕ → Dim → Dim → Bool
is_gathered None d e = true
is_gathered (Some n) Differs e = true
is_gathered (Some n) (Known m) e = dims_agree (Known (m * n)) e

-- One of n equal pieces. An extent that n doesn't divide has none: then only `?` may be written.
abbrev pub is_piece : Option ℕ → Dim → Dim → Bool
is_piece None d e = true
is_piece (Some n) Differs e = true
is_piece (Some n) (Known m) e = if nat_eq (m % n) 0 then dims_agree (Known (m / n)) e else differs e

-- n equal pieces one after the other
abbrev pub is_regrouped : Option ℕ → Dim → Dim → Bool
is_regrouped None d e = true
is_regrouped (Some n) Differs e = true
is_regrouped (Some n) (Known m) e = if nat_eq (m % n) 0 then dims_agree (Known m) e else differs e

-- a number that is known is each of the sizes
abbrev pub is_of_sizes : List ℕ → Dim → Bool
is_of_sizes sizes Differs = true
is_of_sizes sizes (Known n) = list_all (nat_eq n) sizes

abbrev pub is_padded : List ℕ → List ℕ → ℕ → Dim → Dim → Bool
is_padded low high i Differs e = true
is_padded low high i (Known n) e = dims_agree (Known (get_or low i 0 + n + get_or high i 0)) e

-- split along one dimension, and joined along another or the same
unfoldable pub exchanged : Option ℕ → ℕ → ℕ → ℕ → Dim → Dim → Bool
exchanged size split concat i d e =
    if nat_eq i split
    then (if nat_eq i concat then is_regrouped size d e else is_piece size d e)
    else (if nat_eq i concat then is_gathered size d e else dims_agree d e)

-- so related along a dimension, and agreeing in the others
unfoldable pub along : ℕ → (Dim → Dim → Bool) → ValueType → ValueType → Bool
along axis R t u =
    all_related (λ i d e. if nat_eq i axis then R d e else dims_agree d e) 0 (dims_of t) (dims_of u)

-- ---- joins and calls

-- the extents of a dimension of all operands
abbrev pub dims_along : ℕ → List ValueType → List Dim
dims_along axis types = map (λ t. get_or (dims_of t) axis Differs) types

-- along the axis all extents together, `?` where one isn't known; elsewhere the common one
unfoldable pub joined_dim : ℕ → List ValueType → ℕ → Dim
joined_dim axis types i =
    if nat_eq i axis
    then (if list_any differs (dims_along axis types) then Differs
    else Known (sum (map extent_of (dims_along axis types))))
    else loop_dim (beside axis types) i

-- the one result of the function, if it is there
abbrev pub is_only : List ValueType → ValueType → Bool
is_only [] t = false
is_only (u ∷ []) t = types_agree u t
is_only (u ∷ w ∷ us) t = false

unfoldable pub callee_gives : Scope → declared_call.Call → ValueType → Bool
callee_gives scope x result =
    option_map_or (λ f. is_only f.results result) (func_item scope.funcs x.callee) true

-- ---- kind by kind

unfoldable pub result_fits : Scope → OpKind → ValueType → Bool
result_fits scope (Constant x) result = true
result_fits scope (Binary x) result = true
result_fits scope (Compare x) result = true
result_fits scope (Select x) result = true
result_fits scope (Cast x) result = is_cast x.op x.operand_type result
result_fits scope Empty result = true
result_fits scope (ExtractSlice x) result =
    is_slice (numbers_fit scope (ExtractSlice x) result) x result
result_fits scope (InsertSlice x) result = true
result_fits scope (CollapseShape x) result =
    same_bits x.source_type result
    && (not (numbers_fit scope (CollapseShape x) result)
    || products_fit (dims_of result) x.reassociation (dims_of x.source_type))
result_fits scope (ExpandShape x) result =
    same_bits x.source_type result
    && (not (numbers_fit scope (ExpandShape x) result) || is_expanded x result)
result_fits scope (Fill x) result = has_output_type x.outs_types result
result_fits scope (Matmul x) result = has_output_type x.outs_types result
result_fits scope (BatchMatmul x) result = has_output_type x.outs_types result
result_fits scope (Matvec x) result = has_output_type x.outs_types result
result_fits scope (Vecmat x) result = has_output_type x.outs_types result
result_fits scope (Dot x) result = has_output_type x.outs_types result
result_fits scope (Conv1d x) result = has_output_type x.outs_types result
result_fits scope (Conv2d x) result = has_output_type x.outs_types result
result_fits scope (Transpose x) result = has_output_type x.ins_outs.outs_types result
result_fits scope (Broadcast x) result = has_output_type x.ins_outs.outs_types result
result_fits scope (Reduce x) result = has_output_type x.ins_outs.outs_types result
result_fits scope (Generic x) result = has_output_type x.ins_outs.outs_types result
result_fits scope (Sharding x) result = true
result_fits scope (Shard x) result = true
result_fits scope (AllGather x) result =
    same_rank_and_bits x.operand_type result
    && (not (has_dim x.operand_type x.gather_axis)
    || along x.gather_axis (is_gathered (group_size scope x.on)) x.operand_type result)
result_fits scope (AllSlice x) result =
    same_rank_and_bits x.operand_type result
    && (not (has_dim x.operand_type x.slice_axis)
    || along x.slice_axis (is_piece (group_size scope x.on)) x.operand_type result)
result_fits scope (AllReduce x) result = types_agree x.operand_type result
result_fits scope (ReduceScatter x) result =
    same_rank_and_bits x.operand_type result
    && (not (has_dim x.operand_type x.scatter_axis)
    || along x.scatter_axis (is_piece (group_size scope x.on)) x.operand_type result)
result_fits scope (AllToAll x) result =
    same_rank_and_bits x.operand_type result
    && (not (has_dim x.operand_type x.split_axis && has_dim x.operand_type x.concat_axis)
    || all_related (exchanged (group_size scope x.on) x.split_axis x.concat_axis) 0
    (dims_of x.operand_type) (dims_of result))
result_fits scope (Shift x) result = types_agree x.operand_type result
result_fits scope (UpdateHalo x) result = true
result_fits scope (Take x) result =
    same_rank_and_bits x.operand_type result
    && (not (has_dim x.operand_type x.axis)
    || along x.axis (λ d e. not (pieces_fit scope x) || is_of_sizes (as_naturals x.sizes) e)
    x.operand_type result)
result_fits scope (Pad x) result =
    same_rank_and_bits x.operand_type result
    && (not (numbers_fit scope (Pad x) result)
    || all_related (is_padded (as_naturals x.low) (as_naturals x.high)) 0
    (dims_of x.operand_type) (dims_of result))
result_fits scope (Join x) result =
    same_rank_and_bits (first_type x.operand_types) result
    && (not (has_dim (first_type x.operand_types) x.axis)
    || all_related (λ i d e. dims_agree (joined_dim x.axis x.operand_types i) e) 0
    (dims_of result) (dims_of result))
result_fits scope (Call x) result = callee_gives scope x result
result_fits scope (Return x) result = true
