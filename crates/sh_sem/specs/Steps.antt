-- Functions in device form as the machine of turns and the laws of pieces see them: which group an
-- instruction speaks to, and what it gives.
use Rattle.std.specs.Prelude.{ℕ, Bool, true, false, not, List, [], map, filter, flat_map}
use Rattle.sh_base.specs.Shape.{cell_count}
use Rattle.sh_grid.specs.Grid.{group_of, group_size_of, place_in}
use Rattle.sh_ir.specs.declared.classification.OpClass.{OpClass}
use Rattle.sh_ir.specs.declared.classification.OpClass.TheVariants as class
use Rattle.sh_ir.specs.declared.operations.Op.{Op}
use Rattle.sh_ir.specs.declared.operations.OpKind.{OpKind}
use Rattle.sh_ir.specs.declared.operations.OpKind.TheVariants.{Constant, Binary, Compare, Select, Cast, Empty, ExtractSlice, InsertSlice, CollapseShape, ExpandShape, Fill, Matmul, BatchMatmul, Matvec, Vecmat, Dot, Conv1d, Conv2d, Transpose, Broadcast, Reduce, Generic, Sharding, Shard, AllGather, AllSlice, AllReduce, ReduceScatter, AllToAll, Shift, UpdateHalo, Take, Pad, Join, Call, Return}
use Rattle.sh_ir.specs.declared.functions.Func.{Func}
use Rattle.sh_ir.specs.Classes.{class_of, is_return}
use Rattle.sh_ir.specs.Numbers.{as_naturals}
use Rattle.sh_tensor.specs.Tensor.{TensorValue}
use Rattle.sh_turns.specs.Program.{Program}
use Rattle.sh_pieces.specs.Instructions.{Semantics, DeviceFunction, program_by_names}
use Rattle.sh_sem.specs.Collected.{collected}
use Rattle.sh_sem.specs.Given.{Seat, given}
use Rattle.sh_sem.specs.Returned.{returned}

-- ---- groups

-- the axes along which a device's group stands; of an operation without a group none
abbrev pub axes_of : OpKind → List ℕ
axes_of (AllGather x) = as_naturals x.on.grid_axes
axes_of (AllSlice x) = as_naturals x.on.grid_axes
axes_of (AllReduce x) = as_naturals x.on.grid_axes
axes_of (ReduceScatter x) = as_naturals x.on.grid_axes
axes_of (AllToAll x) = as_naturals x.on.grid_axes
axes_of (Shift x) = as_naturals x.on.grid_axes
axes_of (UpdateHalo x) = flat_map as_naturals x.split_axes
axes_of (Take x) = as_naturals x.on.grid_axes
axes_of (Constant x) = []
axes_of (Binary x) = []
axes_of (Compare x) = []
axes_of (Select x) = []
axes_of (Cast x) = []
axes_of Empty = []
axes_of (ExtractSlice x) = []
axes_of (InsertSlice x) = []
axes_of (CollapseShape x) = []
axes_of (ExpandShape x) = []
axes_of (Fill x) = []
axes_of (Matmul x) = []
axes_of (BatchMatmul x) = []
axes_of (Matvec x) = []
axes_of (Vecmat x) = []
axes_of (Dot x) = []
axes_of (Conv1d x) = []
axes_of (Conv2d x) = []
axes_of (Transpose x) = []
axes_of (Broadcast x) = []
axes_of (Reduce x) = []
axes_of (Generic x) = []
axes_of (Sharding x) = []
axes_of (Shard x) = []
axes_of (Pad x) = []
axes_of (Join x) = []
axes_of (Call x) = []
axes_of (Return x) = []

-- where a device stands in its group, on a grid of these extents
abbrev pub seat_of : List ℕ → Op → ℕ → Seat
seat_of grid op device = record {
  size = group_size_of grid (axes_of op.kind);
  place = place_in grid (axes_of op.kind) device;
}

-- ---- instructions

abbrev pub is_collective_class : OpClass → Bool
is_collective_class class.Collective = true
is_collective_class class.Creator = false
is_collective_class class.Element = false
is_collective_class class.Layout = false
is_collective_class class.Structured = false
is_collective_class class.Convolution = false
is_collective_class class.Sharding = false
is_collective_class class.Note = false
is_collective_class class.DeviceLayout = false
is_collective_class class.Call = false
is_collective_class class.Return = false

-- what the operations of device form do on a grid of these extents
unfoldable pub steps_on : List ℕ → Semantics TensorValue Op
steps_on grid = record {
  devices = cell_count grid;
  is_collective = λ op. is_collective_class (class_of op.kind);
  operands = λ op. op.operands;
  defines = λ op. op.defines;
  members = λ op device. group_of grid (axes_of op.kind) device;
  local = λ op device ts. given op (seat_of grid op device) ts;
  collect = λ op device ts. collected op grid ts (place_in grid (axes_of op.kind) device);
}

-- ---- functions

-- a function in device form: the return is no instruction
unfoldable pub device_function : Func → DeviceFunction Op
device_function f = record {
  parameters = map (λ a. a.id) f.args;
  instructions = filter (λ op. not (is_return op.kind)) f.ops;
  results = returned f.ops;
}

-- the program that the devices of a grid of these extents run, each on its own arguments
unfoldable pub device_program : Func → List ℕ → (ℕ → List TensorValue) → Program TensorValue
device_program f grid arguments = program_by_names (steps_on grid) (device_function f) arguments
