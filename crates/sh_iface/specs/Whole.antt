-- What an operation gives of whole operands, in the order of its local part.
use Rattle.std.specs.Prelude.{◌≡◌, ℕ, ◌-◌, List, ◌++◌, drop, take, length, Option, Some}
use Rattle.sh_ir.specs.declared.operations.Op.{Op}
use Rattle.sh_ir.specs.declared.operations.OpKind.{OpKind}
use Rattle.sh_ir.specs.declared.operations.OpKind.TheVariants.{Constant, Binary, Compare, Select, Cast, Empty, ExtractSlice, InsertSlice, CollapseShape, ExpandShape, Fill, Matmul, BatchMatmul, Matvec, Vecmat, Dot, Conv1d, Conv2d, Transpose, Broadcast, Reduce, Generic, Sharding, Shard, AllGather, AllSlice, AllReduce, ReduceScatter, AllToAll, Shift, UpdateHalo, Take, Pad, Join, Call, Return}
use Rattle.sh_sem.specs.Given.{alone, given}
use Rattle.sh_tensor.specs.Tensor.{TensorValue}
use Rattle.sh_iface.specs.Meaning.{Meaning, operand_count}
use Rattle.sh_iface.specs.Table.{nest_of}

-- How many operands stand before the tensors: the scalar of a fill. The scalars that a region uses
-- stand behind them.
abbrev pub leading_scalars : OpKind → ℕ
leading_scalars (Fill x) = x.ins_count
leading_scalars (Constant x) = 0
leading_scalars (Binary x) = 0
leading_scalars (Compare x) = 0
leading_scalars (Select x) = 0
leading_scalars (Cast x) = 0
leading_scalars Empty = 0
leading_scalars (ExtractSlice x) = 0
leading_scalars (InsertSlice x) = 0
leading_scalars (CollapseShape x) = 0
leading_scalars (ExpandShape x) = 0
leading_scalars (Matmul x) = 0
leading_scalars (BatchMatmul x) = 0
leading_scalars (Matvec x) = 0
leading_scalars (Vecmat x) = 0
leading_scalars (Dot x) = 0
leading_scalars (Conv1d x) = 0
leading_scalars (Conv2d x) = 0
leading_scalars (Transpose x) = 0
leading_scalars (Broadcast x) = 0
leading_scalars (Reduce x) = 0
leading_scalars (Generic x) = 0
leading_scalars (Sharding x) = 0
leading_scalars (Shard x) = 0
leading_scalars (AllGather x) = 0
leading_scalars (AllSlice x) = 0
leading_scalars (AllReduce x) = 0
leading_scalars (ReduceScatter x) = 0
leading_scalars (AllToAll x) = 0
leading_scalars (Shift x) = 0
leading_scalars (UpdateHalo x) = 0
leading_scalars (Take x) = 0
leading_scalars (Pad x) = 0
leading_scalars (Join x) = 0
leading_scalars (Call x) = 0
leading_scalars (Return x) = 0

-- the names of an operation's operands in the order of its local part: tensors, then scalars
abbrev pub part_operands : Op → List ℕ
part_operands op =
    drop (leading_scalars op.kind) op.operands ++ take (leading_scalars op.kind) op.operands

-- What it gives of whole operands in that order.
unfoldable pub whole_of : Op → List TensorValue → Option TensorValue
whole_of op ts =
    let tensors = length ts - leading_scalars op.kind in
    given op alone (drop tensors ts ++ take tensors ts)

-- The interface is the operation's: its loops are those of the table, and it gives what the
-- operation gives.
pub record IsInterfaceOf (op : Op) (m : Meaning) : Type 0 where
  pub nest : nest_of op.kind op.result ≡ Some m.nest
  pub whole : (ts : List TensorValue) → m.whole ts ≡ whole_of op ts
  pub counted : length (part_operands op) ≡ operand_count m
  pub place : m.place ≡ op.place
