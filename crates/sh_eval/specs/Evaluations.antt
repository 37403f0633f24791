-- On which operands operations can be evaluated.
use Rattle.std.specs.Prelude.{◌≡◌, ◌≤◌, ℕ, List, map, length, Option, option_and_then, IfSome}
use Rattle.sh_base.specs.Shape.{max_rank}
use Rattle.sh_base.specs.declared.numbers.Width.TheVariants.{I1}
use Rattle.sh_eval.specs.declared.evaluation.OpSeat.{OpSeat}
use Rattle.sh_eval.specs.Values.{GivesFew, IsFew, known_value, shapes_of}
use Rattle.sh_int.specs.Elements.{CanCast}
use Rattle.sh_ir.specs.Agreement.{dims_of}
use Rattle.sh_ir.specs.Loops.{structure_of}
use Rattle.sh_ir.specs.Typing.{typing_of}
use Rattle.sh_ir.specs.declared.operations.Op.{Op}
use Rattle.sh_ir.specs.declared.operations.OpKind.{OpKind}
use Rattle.sh_ir.specs.declared.operations.OpKind.TheVariants.{Constant, Binary, Compare, Select, Cast, Empty, ExtractSlice, InsertSlice, CollapseShape, ExpandShape, Fill, Matmul, BatchMatmul, Matvec, Vecmat, Dot, Conv1d, Conv2d, Transpose, Broadcast, Reduce, Generic, Sharding, Shard, AllGather, AllSlice, AllReduce, ReduceScatter, AllToAll, Shift, UpdateHalo, Take, Pad, Join, Call, Return}
use Rattle.sh_ir.specs.declared.types.ValueType.{ValueType}
use Rattle.sh_loops.specs.Cells.{HoldsCellsOf}
use Rattle.sh_loops.specs.Structured.{CanNest, widths_of}
use Rattle.sh_loops.specs.Structures.{HasFewLoops}
use Rattle.sh_ir.specs.declared.shard_ops.Take as declared_take
use Rattle.sh_ir.specs.Numbers.{as_naturals}
use Rattle.sh_sem.specs.Given.{Giving, Seat, gives_piece, giving, shape_given}
use Rattle.sh_sem.specs.Pieces.{listed_piece}
use Rattle.sh_sem.specs.Scalars.{width_of}
use Rattle.std.specs.List.{AllByRecursion}
use Rattle.sh_tensor.specs.Tensor.{TensorValue}

abbrev pub seat_in : OpSeat → Seat
seat_in seat = record { size = seat.size; place = seat.place }

-- the operands have the widths of the types that are written for them
abbrev pub HaveWidths : OpKind → ValueType → List TensorValue → Type 0
HaveWidths kind result ts = widths_of ts ≡ map width_of (typing_of kind result)

-- all operands have the width of the result
abbrev pub HaveWidth : ValueType → List TensorValue → Type 0
HaveWidth result ts = AllByRecursion (λ t. t.width ≡ width_of result) ts

pub record FitsNest (kind : OpKind) (operands : List ℕ) (result : ValueType)
    (ts : List TensorValue) : Type 0 where
  pub few : HasFewLoops kind
  pub fits : IfSome (structure_of kind) (λ s. CanNest s operands (width_of result) ts)

-- The operands have the widths at which the operation works. Collectives, calls, notes, shardings
-- and the return give nothing by themselves.
unfoldable pub FitsKind : OpKind → List ℕ → ValueType → List TensorValue → Type 0
FitsKind (Constant x) operands result ts = HoldsCellsOf (width_of result) x.contents
FitsKind (Binary op) operands result ts = HaveWidths (Binary op) result ts
FitsKind (Compare x) operands result ts =
    HaveWidths (Compare x) result ts × (width_of result ≡ I1)
FitsKind (Select x) operands result ts = HaveWidths (Select x) result ts
FitsKind (Cast x) operands result ts =
    HaveWidths (Cast x) result ts × CanCast x.op (width_of x.operand_type) (width_of result)
FitsKind Empty operands result ts = Unit {0}
FitsKind (ExtractSlice x) operands result ts = HaveWidth result ts
FitsKind (InsertSlice x) operands result ts = HaveWidth result ts
FitsKind (CollapseShape x) operands result ts = HaveWidth result ts
FitsKind (ExpandShape x) operands result ts = HaveWidth result ts
FitsKind (Fill x) operands result ts = FitsNest (Fill x) operands result ts
FitsKind (Matmul x) operands result ts = FitsNest (Matmul x) operands result ts
FitsKind (BatchMatmul x) operands result ts = FitsNest (BatchMatmul x) operands result ts
FitsKind (Matvec x) operands result ts = FitsNest (Matvec x) operands result ts
FitsKind (Vecmat x) operands result ts = FitsNest (Vecmat x) operands result ts
FitsKind (Dot x) operands result ts = FitsNest (Dot x) operands result ts
FitsKind (Conv1d x) operands result ts = FitsNest (Conv1d x) operands result ts
FitsKind (Conv2d x) operands result ts = FitsNest (Conv2d x) operands result ts
FitsKind (Transpose x) operands result ts = FitsNest (Transpose x) operands result ts
FitsKind (Broadcast x) operands result ts = FitsNest (Broadcast x) operands result ts
FitsKind (Reduce x) operands result ts = FitsNest (Reduce x) operands result ts
FitsKind (Generic x) operands result ts = FitsNest (Generic x) operands result ts
FitsKind (Sharding x) operands result ts = Unit {0}
FitsKind (Shard x) operands result ts = Unit {0}
FitsKind (AllGather x) operands result ts = Unit {0}
FitsKind (AllSlice x) operands result ts = HaveWidth result ts
FitsKind (AllReduce x) operands result ts = Unit {0}
FitsKind (ReduceScatter x) operands result ts = Unit {0}
FitsKind (AllToAll x) operands result ts = Unit {0}
FitsKind (Shift x) operands result ts = Unit {0}
FitsKind (UpdateHalo x) operands result ts = Unit {0}
FitsKind (Take x) operands result ts = HaveWidth result ts
FitsKind (Pad x) operands result ts = HaveWidth result ts
FitsKind (Join x) operands result ts = HaveWidth result ts
FitsKind (Call x) operands result ts = Unit {0}
FitsKind (Return x) operands result ts = Unit {0}

-- what an operation gives by its kind, where the operands have the extents that their types know
abbrev pub kind_value : Op → Seat → List TensorValue → Option TensorValue
kind_value op seat ts =
    option_and_then (λ x. known_value x (dims_of op.result) (width_of op.result) ts)
    (giving op.kind op.operands op.result seat)

abbrev pub KindGivesFew : Op → Seat → List TensorValue → Type 0
KindGivesFew op seat ts =
    IfSome (giving op.kind op.operands op.result seat) (λ x. GivesFew x (dims_of op.result) ts)

-- the piece that is listed for a seat
abbrev pub gives_taken : declared_take.Take → Seat → Giving
gives_taken x seat =
    gives_piece x.axis (listed_piece (as_naturals x.starts) (as_naturals x.sizes) seat.place)

-- an operation can be evaluated on these operands at a seat: they have the widths that it takes, and
-- what it gives has few cells
pub record CanEvaluate (op : Op) (seat : Seat) (ts : List TensorValue) : Type 0 where
  pub fits : FitsKind op.kind op.operands op.result ts
  pub rank : length (dims_of op.result) ≤ max_rank
  pub few : IfSome (shape_given op seat (shapes_of ts)) IsFew
