-- Structured operations as memory holds them: their loops and their maps.
use Rattle.std.specs.Prelude.{◌≤◌, ℕ, List, [], ◌∷◌, length}
use Rattle.sh_base.specs.Shape.{max_rank}
use Rattle.sh_loops.specs.declared.loops.Loops as memory
use Rattle.sh_ir.specs.declared.linalg_ops.Transpose as declared_transpose
use Rattle.sh_ir.specs.declared.operations.OpKind.{OpKind}
use Rattle.sh_ir.specs.declared.operations.OpKind.TheVariants.{Constant, Binary, Compare, Select, Cast, Empty, ExtractSlice, InsertSlice, CollapseShape, ExpandShape, Fill, Matmul, BatchMatmul, Matvec, Vecmat, Dot, Conv1d, Conv2d, Transpose, Broadcast, Reduce, Generic, Sharding, Shard, AllGather, AllSlice, AllReduce, ReduceScatter, AllToAll, Shift, UpdateHalo, Take, Pad, Join, Call, Return}
use Rattle.sh_ir.specs.Loops.{LoopMap, Structure, input_rank, output_rank}

-- the loops and the maps of a structure
abbrev pub loops_in : Structure → memory.Loops
loops_in s = record { count = s.loops; inputs = s.inputs; output = s.output }

abbrev pub one_input : ℕ → LoopMap → LoopMap → memory.Loops
one_input count input output = record { count = count; inputs = input ∷ []; output = output }

abbrev pub two_inputs : ℕ → LoopMap → LoopMap → LoopMap → memory.Loops
two_inputs count first second output =
    record { count = count; inputs = first ∷ second ∷ []; output = output }

-- ---- few loops

pub record HasFewPlaces (x : declared_transpose.Transpose) : Type 0 where
  pub input : input_rank x.ins_outs ≤ max_rank
  pub output : output_rank x.ins_outs ≤ max_rank
  pub permutation : length x.permutation ≤ max_rank

-- the loops that its maps are made for are no more than a tensor may have dimensions
unfoldable pub HasFewLoops : OpKind → Type 0
HasFewLoops (Constant x) = Unit {0}
HasFewLoops (Binary x) = Unit {0}
HasFewLoops (Compare x) = Unit {0}
HasFewLoops (Select x) = Unit {0}
HasFewLoops (Cast x) = Unit {0}
HasFewLoops Empty = Unit {0}
HasFewLoops (ExtractSlice x) = Unit {0}
HasFewLoops (InsertSlice x) = Unit {0}
HasFewLoops (CollapseShape x) = Unit {0}
HasFewLoops (ExpandShape x) = Unit {0}
HasFewLoops (Fill x) = output_rank x ≤ max_rank
HasFewLoops (Matmul x) = Unit {0}
HasFewLoops (BatchMatmul x) = Unit {0}
HasFewLoops (Matvec x) = Unit {0}
HasFewLoops (Vecmat x) = Unit {0}
HasFewLoops (Dot x) = Unit {0}
HasFewLoops (Conv1d x) = Unit {0}
HasFewLoops (Conv2d x) = Unit {0}
HasFewLoops (Transpose x) = HasFewPlaces x
HasFewLoops (Broadcast x) = output_rank x.ins_outs ≤ max_rank
HasFewLoops (Reduce x) = input_rank x.ins_outs ≤ max_rank
HasFewLoops (Generic x) = length x.iterator_types ≤ max_rank
HasFewLoops (Sharding x) = Unit {0}
HasFewLoops (Shard x) = Unit {0}
HasFewLoops (AllGather x) = Unit {0}
HasFewLoops (AllSlice x) = Unit {0}
HasFewLoops (AllReduce x) = Unit {0}
HasFewLoops (ReduceScatter x) = Unit {0}
HasFewLoops (AllToAll x) = Unit {0}
HasFewLoops (Shift x) = Unit {0}
HasFewLoops (UpdateHalo x) = Unit {0}
HasFewLoops (Take x) = Unit {0}
HasFewLoops (Pad x) = Unit {0}
HasFewLoops (Join x) = Unit {0}
HasFewLoops (Call x) = Unit {0}
HasFewLoops (Return x) = Unit {0}
