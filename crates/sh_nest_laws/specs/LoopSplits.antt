-- Structured operations each of whose operands' dimensions follows one loop, and how such loops are
-- split among the devices of a grid.
use Rattle.std.specs.Prelude.{◌≡◌, ◌≢◌, ℕ, ◌+◌, ◌<◌, ◌==◌, Bool, true, false, List, [], ◌∷◌, ◌++◌, map, length, drop, flat_map, Option, Some, if◌then◌else◌}
use Rattle.std.specs.List.{AllByRecursion, list_any, range_with_len}
use Rattle.sh_base.specs.Cells.{IsCellOf}
use Rattle.sh_base.specs.declared.numbers.Cell.{Cell}
use Rattle.sh_base.specs.declared.numbers.Width.{Width}
use Rattle.sh_base.specs.Shape.{cell_count}
use Rattle.sh_grid.specs.Grid.{GridValue, AreAxesOf, AreApart}
use Rattle.sh_ir.specs.declared.operations.Op.{Op}
use Rattle.sh_ir.specs.Agreement.{dims_of}
use Rattle.sh_ir.specs.Loops.{Structure, single, structure_of}
use Rattle.sh_ir.specs.Typing.{typing_of}
use Rattle.sh_sem.specs.Given.{have_all_extents}
use Rattle.sh_sem.specs.Nest.{Fixed, step_cell}
use Rattle.sh_sem.specs.Scalars.{width_of}
use Rattle.sh_sem.specs.Types.{have_extents}
use Rattle.sh_sharding.specs.declared.shardings.Dimension.{Dimension}
use Rattle.sh_sharding.specs.Sharding.{ShardingValue, IsDimension, IsSharding, local_shape}
use Rattle.sh_sharding.specs.Splits.{TensorSplit}

-- ---- operations

-- an operand: for each dimension the loop that it follows, and its width
pub record Operand : Type 0 where
  pub dims : List ℕ
  pub width : Width

pub record PlainNest : Type 0 where
  pub loops : ℕ  -- how many
  pub ins : List Operand
  pub out : Operand
  pub captured : List Width  -- of the scalars that its region uses
  -- The next value of the output's cell, by the captured scalars, the input cells and the value so
  -- far; the loop point doesn't matter. None: it is stuck
  pub step : List Cell → List Cell → Cell → Option Cell

abbrev pub widths_of : List Operand → List Width
widths_of operands = map (λ x. x.width) operands

-- the loops of all maps
abbrev pub loops_named : PlainNest → List ℕ
loops_named nest = flat_map (λ x. x.dims) (nest.ins ++ nest.out ∷ [])

abbrev pub names : List ℕ → ℕ → Bool
names loops l = list_any (λ k. k == l) loops

-- The operation is such a nest. The operands are the inputs, the output, and the captured scalars
pub record IsOperationOf (nest : PlainNest) (op : Op) : Type 0 where
  pub structure : Structure
  pub is : structure_of op.kind ≡ Some structure
  pub loops : structure.loops ≡ nest.loops
  pub inputs : structure.inputs ≡ map (λ x. single x.dims) nest.ins
  pub output : structure.output ≡ single nest.out.dims
  pub step : (x : Fixed) → x.widths ≡ widths_of nest.ins → x.width ≡ nest.out.width
      → x.captured ≡ drop (length nest.ins + 1) op.operands
      → (p : List ℕ) (cells : List Cell) (z : Cell)
      → step_cell structure.step x p cells z ≡ nest.step x.scalars cells z
  pub width : width_of op.result ≡ nest.out.width

-- cells of these widths
abbrev pub AreCellsOf : List Width → List Cell → Type 0
AreCellsOf [] [] = Unit {0}
AreCellsOf [] (cell ∷ cells) = ⊥
AreCellsOf (w ∷ ws) [] = ⊥
AreCellsOf (w ∷ ws) (cell ∷ cells) = IsCellOf w cell × AreCellsOf ws cells

-- on cells of the operands' widths a step gives cells of the output's width
abbrev pub KeepsWidth : PlainNest → Type 0
KeepsWidth nest =
    (scalars cells : List Cell) (z y : Cell) → AreCellsOf nest.captured scalars
    → AreCellsOf (widths_of nest.ins) cells → IsCellOf nest.out.width z
    → nest.step scalars cells z ≡ Some y → IsCellOf nest.out.width y

-- ---- splits: D says of each loop how it is divided

abbrev pub sharding_on : GridValue → (ℕ → Dimension) → List ℕ → ShardingValue
sharding_on g D dims = record { grid = g; dimensions = map D dims }

abbrev pub split_by : GridValue → (ℕ → Dimension) → Operand → TensorSplit
split_by g D x = record { sharding = sharding_on g D x.dims; width = x.width }

-- a scalar, which each device has whole
abbrev pub scalar_split : GridValue → Width → TensorSplit
scalar_split g w = record { sharding = record { grid = g; dimensions = [] }; width = w }

-- how the operands are split
abbrev pub splits_by : GridValue → (ℕ → Dimension) → PlainNest → List TensorSplit
splits_by g D nest =
    map (split_by g D) nest.ins ++ split_by g D nest.out ∷ map (scalar_split g) nest.captured

-- a loop divided along axes of the grid, without halos; along no axes it is whole on each device
pub record IsLoop (g : List ℕ) (d : Dimension) : Type 0 where
  pub axes : AreAxesOf (length g) d.axes
  pub dimension : IsDimension g d
  pub low : d.low ≡ 0
  pub high : d.high ≡ 0

-- its dimensions follow loops that are there, and the sharding that it gets is admitted
pub record IsOperand (g : GridValue) (D : ℕ → Dimension) (loops : ℕ) (x : Operand) : Type 0 where
  pub below : AllByRecursion (λ l. l < loops) x.dims
  pub admitted : IsSharding (sharding_on g D x.dims)

pub record AreSplit (g : GridValue) (D : ℕ → Dimension) (nest : PlainNest) : Type 0 where
  pub loop : (l : ℕ) → IsLoop g.extents (D l)
  pub inputs : AllByRecursion (IsOperand g D nest.loops) nest.ins
  pub output : IsOperand g D nest.loops nest.out
  -- the output follows no loop twice, and each loop is followed by some operand
  pub once : AreAxesOf nest.loops nest.out.dims
  pub named : (l : ℕ) → l < nest.loops → names (loops_named nest) l ≡ true

-- the loops that the output doesn't follow aren't split
abbrev pub SplitsParallel : (ℕ → Dimension) → PlainNest → Type 0
SplitsParallel D nest = (l : ℕ) → names nest.out.dims l ≡ false → (D l).axes ≡ []

-- ---- on a device

-- what the types that are written for operands and result know is so of the local tensors
pub record HasLocalTypes (g : GridValue) (D : ℕ → Dimension) (nest : PlainNest) (op : Op)
    : Type 0 where
  pub operands : (c : ℕ) → c < cell_count g.extents
      → have_all_extents (typing_of op.kind op.result)
      (map (λ s. local_shape s.sharding c) (splits_by g D nest)) ≡ true
  pub result : (c : ℕ) → c < cell_count g.extents
      → have_extents (dims_of op.result) (local_shape (sharding_on g D nest.out.dims) c) ≡ true

-- ---- reduction loops

-- the axes along which loops that the output doesn't follow are split, in the order of the loops
abbrev pub reduction_axes : (ℕ → Dimension) → PlainNest → List ℕ
reduction_axes D nest =
    flat_map (λ l. if names nest.out.dims l then [] else (D l).axes) (range_with_len 0 nest.loops)

-- no other loop is split along an axis of a loop that the output doesn't follow
abbrev pub AreLoopsApart : (ℕ → Dimension) → PlainNest → Type 0
AreLoopsApart D nest =
    (l k : ℕ) → names nest.out.dims l ≡ false → l ≢ k → AreApart (D k).axes (D l).axes
