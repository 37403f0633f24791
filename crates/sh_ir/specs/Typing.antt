-- Which types the text of an operation writes for its operands.
use Rattle.std.specs.Prelude.{ℕ, List, [], ◌∷◌, ◌++◌, Bool, true, not, ◌&&◌, nat_eq, nat_lt, length, take}
use Rattle.std.specs.List.{list_all}
use Rattle.std.specs.Option.{option_map_or}
use Rattle.sh_ir.specs.declared.linalg_ops.InsOuts.{InsOuts}
use Rattle.sh_ir.specs.declared.operations.Op.{Op}
use Rattle.sh_ir.specs.declared.operations.OpKind.{OpKind}
use Rattle.sh_ir.specs.declared.operations.OpKind.TheVariants.{Constant, Binary, Compare, Select, Cast, Empty, ExtractSlice, InsertSlice, CollapseShape, ExpandShape, Fill, Matmul, BatchMatmul, Matvec, Vecmat, Dot, Conv1d, Conv2d, Transpose, Broadcast, Reduce, Generic, Sharding, Shard, AllGather, AllSlice, AllReduce, ReduceScatter, AllToAll, Shift, UpdateHalo, Take, Pad, Join, Call, Return}
use Rattle.sh_ir.specs.declared.types.ValueType.{ValueType}
use Rattle.sh_ir.specs.declared.types.ValueType.TheVariants as value_type
use Rattle.sh_ir.specs.Agreement.{same_type}
use Rattle.sh_ir.specs.Formed.{is_scalar, types_in}
use Rattle.sh_ir.specs.Scope.{Value, value_named}
use Rattle.sh_ir.specs.Written.{written_by}

-- the operands that the text writes; behind them come those that a region takes
abbrev pub written_operands : Op → List ℕ
written_operands op =
    option_map_or (λ count. take count op.operands) (written_by op.kind).operands op.operands

-- ---- how many

-- so many inputs and one output, each with its type
abbrev pub names_typed : InsOuts → Bool
names_typed x = nat_eq (length x.ins_types) x.ins_count && nat_eq (length x.outs_types) x.outs_count

abbrev pub names : ℕ → InsOuts → Bool
names inputs x = (nat_eq x.ins_count inputs && nat_eq x.outs_count 1) && names_typed x

-- As many operands as the kind has, and a type for each. How many outputs a generic has is asked
-- with its maps; of the other kinds the form leaves no choice.
unfoldable pub counts_fit : OpKind → List ℕ → Bool
counts_fit (Constant x) operands = true
counts_fit (Binary x) operands = true
counts_fit (Compare x) operands = true
counts_fit (Select x) operands = true
counts_fit (Cast x) operands = true
counts_fit Empty operands = true
counts_fit (ExtractSlice x) operands = true
counts_fit (InsertSlice x) operands = true
counts_fit (CollapseShape x) operands = true
counts_fit (ExpandShape x) operands = true
counts_fit (Fill x) operands = names 1 x
counts_fit (Matmul x) operands = names 2 x
counts_fit (BatchMatmul x) operands = names 2 x
counts_fit (Matvec x) operands = names 2 x
counts_fit (Vecmat x) operands = names 2 x
counts_fit (Dot x) operands = names 2 x
counts_fit (Conv1d x) operands = names 2 x
counts_fit (Conv2d x) operands = names 2 x
counts_fit (Transpose x) operands = names 1 x.ins_outs
counts_fit (Broadcast x) operands = names 1 x.ins_outs
counts_fit (Reduce x) operands = names 1 x.ins_outs
counts_fit (Generic x) operands = names_typed x.ins_outs
counts_fit (Sharding x) operands = true
counts_fit (Shard x) operands = true
counts_fit (AllGather x) operands = true
counts_fit (AllSlice x) operands = true
counts_fit (AllReduce x) operands = true
counts_fit (ReduceScatter x) operands = true
counts_fit (AllToAll x) operands = true
counts_fit (Shift x) operands = true
counts_fit (UpdateHalo x) operands = true
counts_fit (Take x) operands = true
counts_fit (Pad x) operands = true
counts_fit (Join x) operands =
    nat_lt 0 (length operands) && nat_eq (length operands) (length x.operand_types)
counts_fit (Call x) operands = nat_eq (length operands) (length x.operand_types)
counts_fit (Return x) operands = nat_eq (length operands) (length x.operand_types)

-- ---- which

abbrev pub operand_types : InsOuts → List ValueType
operand_types x = x.ins_types ++ x.outs_types

-- The types that are written for the operands, in order, by the kind and the type of the value. The
-- operands that a region takes have none: of these it is asked what the region asks.
unfoldable pub typing_of : OpKind → ValueType → List ValueType
typing_of (Constant x) result = []
typing_of (Binary x) result = result ∷ result ∷ []
typing_of (Compare x) result = x.operand_type ∷ x.operand_type ∷ []
typing_of (Select x) result = x.condition_type ∷ result ∷ result ∷ []
typing_of (Cast x) result = x.operand_type ∷ []
typing_of Empty result = []
typing_of (ExtractSlice x) result = x.source_type ∷ []
typing_of (InsertSlice x) result = x.source_type ∷ result ∷ []
typing_of (CollapseShape x) result = x.source_type ∷ []
typing_of (ExpandShape x) result = x.source_type ∷ []
typing_of (Fill x) result = operand_types x
typing_of (Matmul x) result = operand_types x
typing_of (BatchMatmul x) result = operand_types x
typing_of (Matvec x) result = operand_types x
typing_of (Vecmat x) result = operand_types x
typing_of (Dot x) result = operand_types x
typing_of (Conv1d x) result = operand_types x
typing_of (Conv2d x) result = operand_types x
typing_of (Transpose x) result = operand_types x.ins_outs
typing_of (Broadcast x) result = operand_types x.ins_outs
typing_of (Reduce x) result = operand_types x.ins_outs
typing_of (Generic x) result = operand_types x.ins_outs
typing_of (Sharding x) result = []
typing_of (Shard x) result = result ∷ value_type.Sharding ∷ []
typing_of (AllGather x) result = x.operand_type ∷ []
typing_of (AllSlice x) result = x.operand_type ∷ []
typing_of (AllReduce x) result = x.operand_type ∷ []
typing_of (ReduceScatter x) result = x.operand_type ∷ []
typing_of (AllToAll x) result = x.operand_type ∷ []
typing_of (Shift x) result = x.operand_type ∷ []
typing_of (UpdateHalo x) result = result ∷ []
typing_of (Take x) result = x.operand_type ∷ []
typing_of (Pad x) result = x.operand_type ∷ []
typing_of (Join x) result = x.operand_types
typing_of (Call x) result = x.operand_types
typing_of (Return x) result = x.operand_types

-- a value is of the type that is written for it; of one that isn't defined no type is asked
abbrev pub is_of_type : List Value → ValueType → ℕ → Bool
is_of_type values t name =
    option_map_or (λ v. same_type v.value_type t) (value_named values name) true

abbrev pub are_of_types : List Value → List ValueType → List ℕ → Bool
are_of_types values [] names = true
are_of_types values (t ∷ ts) [] = true
are_of_types values (t ∷ ts) (name ∷ names) =
    is_of_type values t name && are_of_types values ts names

-- ---- scalars

-- The types that may be scalar: that of a constant, the input's of a fill, and those of a return.
-- The others are these.
unfoldable pub tensor_types : OpKind → ValueType → List ValueType
tensor_types (Constant x) result = []
tensor_types (Binary x) result = types_in (written_by (Binary x)) result
tensor_types (Compare x) result = types_in (written_by (Compare x)) result
tensor_types (Select x) result = types_in (written_by (Select x)) result
tensor_types (Cast x) result = types_in (written_by (Cast x)) result
tensor_types Empty result = types_in (written_by Empty) result
tensor_types (ExtractSlice x) result = types_in (written_by (ExtractSlice x)) result
tensor_types (InsertSlice x) result = types_in (written_by (InsertSlice x)) result
tensor_types (CollapseShape x) result = types_in (written_by (CollapseShape x)) result
tensor_types (ExpandShape x) result = types_in (written_by (ExpandShape x)) result
tensor_types (Fill x) result = x.outs_types ++ result ∷ []
tensor_types (Matmul x) result = types_in (written_by (Matmul x)) result
tensor_types (BatchMatmul x) result = types_in (written_by (BatchMatmul x)) result
tensor_types (Matvec x) result = types_in (written_by (Matvec x)) result
tensor_types (Vecmat x) result = types_in (written_by (Vecmat x)) result
tensor_types (Dot x) result = types_in (written_by (Dot x)) result
tensor_types (Conv1d x) result = types_in (written_by (Conv1d x)) result
tensor_types (Conv2d x) result = types_in (written_by (Conv2d x)) result
tensor_types (Transpose x) result = types_in (written_by (Transpose x)) result
tensor_types (Broadcast x) result = types_in (written_by (Broadcast x)) result
tensor_types (Reduce x) result = types_in (written_by (Reduce x)) result
tensor_types (Generic x) result = types_in (written_by (Generic x)) result
tensor_types (Sharding x) result = types_in (written_by (Sharding x)) result
tensor_types (Shard x) result = types_in (written_by (Shard x)) result
tensor_types (AllGather x) result = types_in (written_by (AllGather x)) result
tensor_types (AllSlice x) result = types_in (written_by (AllSlice x)) result
tensor_types (AllReduce x) result = types_in (written_by (AllReduce x)) result
tensor_types (ReduceScatter x) result = types_in (written_by (ReduceScatter x)) result
tensor_types (AllToAll x) result = types_in (written_by (AllToAll x)) result
tensor_types (Shift x) result = types_in (written_by (Shift x)) result
tensor_types (UpdateHalo x) result = types_in (written_by (UpdateHalo x)) result
tensor_types (Take x) result = types_in (written_by (Take x)) result
tensor_types (Pad x) result = types_in (written_by (Pad x)) result
tensor_types (Join x) result = types_in (written_by (Join x)) result
tensor_types (Call x) result = types_in (written_by (Call x)) result
tensor_types (Return x) result = []

abbrev pub has_no_scalars : OpKind → ValueType → Bool
has_no_scalars kind result = list_all (λ t. not (is_scalar t)) (tensor_types kind result)
