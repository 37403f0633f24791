-- What is asked of the types of operands besides that they are those of the values.
use Rattle.std.specs.Prelude.{ℕ, ◌+◌, List, [], ◌∷◌, ◌++◌, Bool, true, false, not, ◌&&◌, ◌||◌, nat_eq, nat_lt, nat_le, length, map, sum, filter, if◌then◌else◌}
use Rattle.std.specs.List.{list_all, list_any}
use Rattle.std.specs.Option.{option_map_or}
use Rattle.std.specs.Cmp.Lexicographic.{pointwise}
use Rattle.sh_ir.specs.declared.linalg_ops.InsOuts.{InsOuts}
use Rattle.sh_ir.specs.declared.operations.OpKind.{OpKind}
use Rattle.sh_ir.specs.declared.operations.OpKind.TheVariants.{Constant, Binary, Compare, Select, Cast, Empty, ExtractSlice, InsertSlice, CollapseShape, ExpandShape, Fill, Matmul, BatchMatmul, Matvec, Vecmat, Dot, Conv1d, Conv2d, Transpose, Broadcast, Reduce, Generic, Sharding, Shard, AllGather, AllSlice, AllReduce, ReduceScatter, AllToAll, Shift, UpdateHalo, Take, Pad, Join, Call, Return}
use Rattle.sh_ir.specs.declared.calls.Call as declared_call
use Rattle.sh_ir.specs.declared.tensor_ops.InsertSlice as declared_insert_slice
use Rattle.sh_ir.specs.declared.types.Dim.{Dim}
use Rattle.sh_ir.specs.declared.types.Dim.TheVariants.{Known, Differs}
use Rattle.sh_ir.specs.declared.types.ValueType.{ValueType}
use Rattle.sh_ir.specs.Agreement.{same_rank_and_bits, is_tensor, dims_of, rank_of, cell_bits, same_bits, differs, shapes_agree, types_agree}
use Rattle.sh_ir.specs.Attributes.{numbers_fit, has_dim, sliced_dims}
use Rattle.sh_ir.specs.Formed.{is_scalar}
use Rattle.sh_ir.specs.Loops.{LoopMap, Structure, identity_map, input_rank, output_rank, matmul_structure, batch_matmul_structure, matvec_structure, vecmat_structure, dot_structure, conv_1d_structure, conv_2d_structure, transpose_structure, broadcast_structure, reduce_structure}
use Rattle.sh_ir.specs.Literals.{is_zero}
use Rattle.sh_ir.specs.Scope.{Scope, func_item}
use Rattle.sh_ir.specs.Shapes.{argument_types, extent_of}
use Rattle.sh_ir.specs.Typing.{operand_types}
use Rattle.sh_ir.specs.Written.{first_type}

-- ---- operands that follow the loops of a structured operation

-- a dimension of an operand, with the loops that it follows
pub record Following : Type 0 where
  pub loops : List ℕ
  pub dim : Dim

abbrev pub following : List (List ℕ) → List Dim → List Following
following [] dims = []
following (loops ∷ map) [] = []
following (loops ∷ map) (d ∷ dims) = record { loops = loops; dim = d } ∷ following map dims

-- those of all operands
abbrev pub all_following : List LoopMap → List ValueType → List Following
all_following [] types = []
all_following (map ∷ maps) [] = []
all_following (map ∷ maps) (t ∷ types) = following map (dims_of t) ++ all_following maps types

abbrev pub is_alone : List ℕ → ℕ → Bool
is_alone loops l = pointwise nat_eq loops (l ∷ [])

-- the extent of a loop: that of the first dimension which follows it alone and is known; else `?`
abbrev pub loop_dim : List Following → ℕ → Dim
loop_dim [] l = Differs
loop_dim (x ∷ xs) l = if is_alone x.loops l && not (differs x.dim) then x.dim else loop_dim xs l

-- a window that has no place
abbrev pub has_no_place : List Dim → Bool
has_no_place [] = false
has_no_place (d ∷ []) = false
has_no_place (window ∷ kernel ∷ ds) = is_zero window

-- A dimension that sums the coordinates of loops has one cell for each sum: together the extents,
-- less one for each loop but one. Nothing is asked of it where the window has no place.
abbrev pub sums : List Dim → Dim → Bool
sums ds Differs = true
sums ds (Known n) =
    (list_any differs ds || has_no_place ds) || nat_eq (n + length ds) (sum (map extent_of ds) + 1)

abbrev pub has_extent : List Following → Following → Bool
has_extent all x = sums (map (loop_dim all) x.loops) x.dim

-- all maps give a loop one extent
unfoldable pub extents_fit : List Following → Bool
extents_fit all = list_all (has_extent all) all

-- each operand has as many dimensions as its map
abbrev pub ranks_fit : List LoopMap → List ValueType → Bool
ranks_fit maps types = pointwise (λ map t. nat_eq (length map) (rank_of t)) maps types

abbrev pub maps_of : Structure → List LoopMap
maps_of s = s.inputs ++ s.output ∷ []

-- the operands fit the maps
unfoldable pub follows_maps : Structure → Bool
follows_maps s =
    ranks_fit (maps_of s) (operand_types s.ins_outs)
    && extents_fit (all_following (maps_of s) (operand_types s.ins_outs))

-- ---- widths of structured operations

-- inputs that are extended to the output's width, and no `i1`
unfoldable pub can_multiply : InsOuts → Bool
can_multiply x =
    list_all (λ t. nat_lt 1 (cell_bits t)) (operand_types x)
    && list_all (λ t. nat_le (cell_bits t) (cell_bits (first_type x.outs_types))) x.ins_types

-- inputs of the output's width
unfoldable pub all_of_bits : InsOuts → Bool
all_of_bits x = list_all (same_bits (first_type x.outs_types)) x.ins_types

-- ---- the other operations

-- a test for each cell: `i1` in the same shape
unfoldable pub is_test_of : ValueType → ValueType → Bool
is_test_of condition t =
    is_tensor condition
    && (nat_eq (cell_bits condition) 1 && shapes_agree (dims_of condition) (dims_of t))

-- the tensor that is inserted has the width and the rank of the other, and the sizes as its
-- extents, where these are in order
unfoldable pub is_part_of : declared_insert_slice.InsertSlice → Bool → ValueType → Bool
is_part_of x in_order t =
    same_rank_and_bits x.source_type t
    && (not in_order || shapes_agree (sliced_dims x.slice.sizes (dims_of t)) (dims_of x.source_type))

-- the dimensions of the operands of a join, each followed by its number, but for that of the axis
abbrev pub beside : ℕ → List ValueType → List Following
beside axis types =
    filter (λ x. not (is_alone x.loops axis))
    (all_following (map (λ t. identity_map (rank_of t)) types) types)

-- Operands of one width and one rank, whose extents agree beside the axis, where it is there.
unfoldable pub can_join : ℕ → List ValueType → Bool
can_join axis types =
    list_all (same_rank_and_bits (first_type types)) types
    && (not (has_dim (first_type types) axis) || extents_fit (beside axis types))

-- the operands of a call are of the types of the function's arguments, if it is there
unfoldable pub callee_takes : Scope → declared_call.Call → Bool
callee_takes scope x =
    option_map_or (λ f. pointwise types_agree x.operand_types (argument_types f))
    (func_item scope.funcs x.callee) true

-- ---- kind by kind, by the type of the value

unfoldable pub operands_fit : Scope → OpKind → ValueType → Bool
operands_fit scope (Constant x) result = true
operands_fit scope (Binary x) result = true
operands_fit scope (Compare x) result = true
operands_fit scope (Select x) result = is_test_of x.condition_type result
operands_fit scope (Cast x) result = true
operands_fit scope Empty result = true
operands_fit scope (ExtractSlice x) result = true
operands_fit scope (InsertSlice x) result =
    is_part_of x (numbers_fit scope (InsertSlice x) result) result
operands_fit scope (CollapseShape x) result = true
operands_fit scope (ExpandShape x) result = true
operands_fit scope (Fill x) result = all_of_bits x && is_scalar (first_type x.ins_types)
operands_fit scope (Matmul x) result = can_multiply x && follows_maps (matmul_structure x)
operands_fit scope (BatchMatmul x) result =
    can_multiply x && follows_maps (batch_matmul_structure x)
operands_fit scope (Matvec x) result = can_multiply x && follows_maps (matvec_structure x)
operands_fit scope (Vecmat x) result = can_multiply x && follows_maps (vecmat_structure x)
operands_fit scope (Dot x) result = can_multiply x && follows_maps (dot_structure x)
operands_fit scope (Conv1d x) result = can_multiply x && follows_maps (conv_1d_structure x)
operands_fit scope (Conv2d x) result = can_multiply x && follows_maps (conv_2d_structure x)
operands_fit scope (Transpose x) result =
    all_of_bits x.ins_outs && (nat_eq (input_rank x.ins_outs) (output_rank x.ins_outs)
    && (not (numbers_fit scope (Transpose x) result) || follows_maps (transpose_structure x)))
operands_fit scope (Broadcast x) result =
    all_of_bits x.ins_outs
    && (nat_eq (input_rank x.ins_outs + length x.dimensions) (output_rank x.ins_outs)
    && (not (numbers_fit scope (Broadcast x) result) || follows_maps (broadcast_structure x)))
operands_fit scope (Reduce x) result =
    nat_eq (output_rank x.ins_outs + length x.dimensions) (input_rank x.ins_outs)
    && (not (numbers_fit scope (Reduce x) result) || follows_maps (reduce_structure x))
operands_fit scope (Generic x) result = true
operands_fit scope (Sharding x) result = true
operands_fit scope (Shard x) result = true
operands_fit scope (AllGather x) result = true
operands_fit scope (AllSlice x) result = true
operands_fit scope (AllReduce x) result = true
operands_fit scope (ReduceScatter x) result = true
operands_fit scope (AllToAll x) result = true
operands_fit scope (Shift x) result = true
operands_fit scope (UpdateHalo x) result = true
operands_fit scope (Take x) result = true
operands_fit scope (Pad x) result = true
operands_fit scope (Join x) result =
    can_join x.axis x.operand_types
operands_fit scope (Call x) result = callee_takes scope x
operands_fit scope (Return x) result = true
