-- What a collective does with the operands of a group, and the tensor dimensions along which it
-- works.
use Rattle.std.specs.Prelude.{◌≡◌, ℕ, ◌<◌, ◌≤◌, List, [], ◌∷◌, All, length, Option, option_and_then, IfSome, min}
use Rattle.sh_base.specs.Limits.{max_devices}
use Rattle.sh_base.specs.Shape.{cell_count}
use Rattle.sh_collectives.specs.declared.ways.Shifting.{Shifting}
use Rattle.sh_collectives.specs.declared.ways.Way.{Way}
use Rattle.sh_collectives.specs.declared.ways.Way.TheVariants as way
use Rattle.sh_ir.specs.declared.operations.OpKind.{OpKind}
use Rattle.sh_ir.specs.declared.operations.OpKind.TheVariants.{Constant, Binary, Compare, Select, Cast, Empty, ExtractSlice, InsertSlice, CollapseShape, ExpandShape, Fill, Matmul, BatchMatmul, Matvec, Vecmat, Dot, Conv1d, Conv2d, Transpose, Broadcast, Reduce, Generic, Sharding, Shard, AllGather, AllSlice, AllReduce, ReduceScatter, AllToAll, Shift, UpdateHalo, Take, Pad, Join, Call, Return}
use Rattle.sh_sem.specs.Collected.{Collecting, gathers, reduces, scatters, exchanges, source_place, shifted_shape, shifted_cell}

-- ---- by way

-- the place from which the operand comes
abbrev pub source_by : Shifting → ℕ → Option ℕ
source_by x p =
    option_and_then (λ along. source_place x.extents along x.rotate x.offset p) x.along

unfoldable pub shifts_by : Shifting → Collecting
shifts_by x = record {
  shape = λ p shapes. shifted_shape (source_by x p) p shapes;
  cell = λ p ts i. shifted_cell (source_by x p) ts i;
}

abbrev pub collecting_by : Way → Collecting
collecting_by (way.Gather axis) = gathers axis
collecting_by (way.Reduce kind) = reduces kind
collecting_by (way.Scatter kind axis) = scatters kind axis
collecting_by (way.Exchange split concat) = exchanges split concat
collecting_by (way.Shift x) = shifts_by x

-- the dimensions along which it works
abbrev pub dims_along : Way → List ℕ
dims_along (way.Gather axis) = axis ∷ []
dims_along (way.Reduce kind) = []
dims_along (way.Scatter kind axis) = axis ∷ []
dims_along (way.Exchange split concat) = split ∷ concat ∷ []
dims_along (way.Shift x) = []

-- of how many places of a group a result is asked, so that all have one if these have: only a shift
-- gives another shape at another place
abbrev pub places_asked : Way → ℕ → ℕ
places_asked (way.Gather axis) n = min n 1
places_asked (way.Reduce kind) n = min n 1
places_asked (way.Scatter kind axis) n = min n 1
places_asked (way.Exchange split concat) n = min n 1
places_asked (way.Shift x) n = n

-- a shift's group of so many members, along whose axes the shift goes
pub record IsGroup (x : Shifting) (n : ℕ) : Type 0 where
  pub counted : cell_count x.extents ≡ n
  pub along : IfSome x.along (λ along. along < length x.extents)

abbrev pub IsOfSize : Way → ℕ → Type 0
IsOfSize (way.Gather axis) n = Unit {0}
IsOfSize (way.Reduce kind) n = Unit {0}
IsOfSize (way.Scatter kind axis) n = Unit {0}
IsOfSize (way.Exchange split concat) n = Unit {0}
IsOfSize (way.Shift x) n = IsGroup x n

-- ---- by kind

-- the dimensions of a tensor along which a collective works
abbrev pub dims_worked : OpKind → List ℕ
dims_worked (AllGather x) = x.gather_axis ∷ []
dims_worked (AllReduce x) = []
dims_worked (ReduceScatter x) = x.scatter_axis ∷ []
dims_worked (AllToAll x) = x.split_axis ∷ x.concat_axis ∷ []
dims_worked (Shift x) = []
dims_worked (UpdateHalo x) = []
dims_worked (Constant x) = []
dims_worked (Binary x) = []
dims_worked (Compare x) = []
dims_worked (Select x) = []
dims_worked (Cast x) = []
dims_worked Empty = []
dims_worked (ExtractSlice x) = []
dims_worked (InsertSlice x) = []
dims_worked (CollapseShape x) = []
dims_worked (ExpandShape x) = []
dims_worked (Fill x) = []
dims_worked (Matmul x) = []
dims_worked (BatchMatmul x) = []
dims_worked (Matvec x) = []
dims_worked (Vecmat x) = []
dims_worked (Dot x) = []
dims_worked (Conv1d x) = []
dims_worked (Conv2d x) = []
dims_worked (Transpose x) = []
dims_worked (Broadcast x) = []
dims_worked (Reduce x) = []
dims_worked (Generic x) = []
dims_worked (Sharding x) = []
dims_worked (Shard x) = []
dims_worked (AllSlice x) = []
dims_worked (Take x) = []
dims_worked (Pad x) = []
dims_worked (Join x) = []
dims_worked (Call x) = []
dims_worked (Return x) = []

-- ---- what is asked

-- A group on which it can work: so many members as the shift's group has, at most as many as a grid
-- has devices, and each shape has the dimensions along which it works
pub record CanWork (w : Way) (shapes : List (List ℕ)) : Type 0 where
  pub size : IsOfSize w (length shapes)
  pub few : length shapes ≤ max_devices
  pub dims : All (λ a. All (λ s. a < length s) shapes) (dims_along w)
