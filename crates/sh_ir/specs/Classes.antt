-- What kinds of operations there are.
use Rattle.std.specs.Prelude.{◌≡◌, ◌≢◌, ◌⊎◌, Bool, true, false}
use Rattle.sh_ir.specs.declared.operations.OpKind.{OpKind}
use Rattle.sh_ir.specs.declared.operations.OpKind.TheVariants.{Constant, Binary, Compare, Select, Cast, Empty, ExtractSlice, InsertSlice, CollapseShape, ExpandShape, Fill, Matmul, BatchMatmul, Matvec, Vecmat, Dot, Conv1d, Conv2d, Transpose, Broadcast, Reduce, Generic, Sharding, Shard, AllGather, AllSlice, AllReduce, ReduceScatter, AllToAll, Shift, UpdateHalo, Take, Pad, Join, Call, Return}
use Rattle.sh_ir.specs.declared.classification.OpClass.{OpClass}
use Rattle.sh_ir.specs.declared.classification.OpClass.TheVariants as class

abbrev pub class_of : OpKind → OpClass
class_of (Constant x) = class.Creator
class_of Empty = class.Creator
class_of (Binary x) = class.Element
class_of (Compare x) = class.Element
class_of (Select x) = class.Element
class_of (Cast x) = class.Element
class_of (ExtractSlice x) = class.Layout
class_of (InsertSlice x) = class.Layout
class_of (CollapseShape x) = class.Layout
class_of (ExpandShape x) = class.Layout
class_of (Fill x) = class.Structured
class_of (Matmul x) = class.Structured
class_of (BatchMatmul x) = class.Structured
class_of (Matvec x) = class.Structured
class_of (Vecmat x) = class.Structured
class_of (Dot x) = class.Structured
class_of (Conv1d x) = class.Convolution
class_of (Conv2d x) = class.Convolution
class_of (Transpose x) = class.Structured
class_of (Broadcast x) = class.Structured
class_of (Reduce x) = class.Structured
class_of (Generic x) = class.Structured
class_of (Sharding x) = class.Sharding
class_of (Shard x) = class.Note
class_of (AllGather x) = class.Collective
class_of (AllSlice x) = class.DeviceLayout
class_of (AllReduce x) = class.Collective
class_of (ReduceScatter x) = class.Collective
class_of (AllToAll x) = class.Collective
class_of (Shift x) = class.Collective
class_of (UpdateHalo x) = class.Collective
class_of (Take x) = class.DeviceLayout
class_of (Pad x) = class.DeviceLayout
class_of (Join x) = class.DeviceLayout
class_of (Call x) = class.Call
class_of (Return x) = class.Return

-- the devices of a group do it together
abbrev pub IsCollective : OpKind → Type 0
IsCollective kind = class_of kind ≡ class.Collective

-- a slice, a padding or a join of device form, which a device does alone
abbrev pub IsDeviceLayout : OpKind → Type 0
IsDeviceLayout kind = class_of kind ≡ class.DeviceLayout

-- it makes a value from nothing
abbrev pub IsCreator : OpKind → Type 0
IsCreator kind = class_of kind ≡ class.Creator

-- a sharding or a note
abbrev pub IsAnnotation : OpKind → Type 0
IsAnnotation kind = (class_of kind ≡ class.Sharding) ⊎ (class_of kind ≡ class.Note)

abbrev pub DefinesValue : OpKind → Type 0
DefinesValue kind = class_of kind ≢ class.Return

-- it is the return, which ends a function
abbrev pub is_return_class : OpClass → Bool
is_return_class class.Creator = false
is_return_class class.Element = false
is_return_class class.Layout = false
is_return_class class.Structured = false
is_return_class class.Convolution = false
is_return_class class.Sharding = false
is_return_class class.Note = false
is_return_class class.DeviceLayout = false
is_return_class class.Collective = false
is_return_class class.Call = false
is_return_class class.Return = true

abbrev pub is_return : OpKind → Bool
is_return kind = is_return_class (class_of kind)
