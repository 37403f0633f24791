-- Structured operations in memory: what is done at a loop point, and what may be asked of it.
use Rattle.std.specs.Prelude.{◌≡◌, ◌<◌, ◌≤◌, ◌^◌, ℕ, Bool, ◌&&◌, nat_lt, length, List, [], ◌∷◌, ◌++◌, All, slice_get, get_or, Option, Some, None, option_and_then}
use Rattle.std.specs.List.{AllByRecursion, list_all}
use Rattle.sh_base.specs.Cells.{IsCellOf, bits_of}
use Rattle.sh_base.specs.Shape.{cell_count, IsIndexOf, flat_of, unflat_of}
use Rattle.sh_base.specs.declared.numbers.Cell.{Cell}
use Rattle.sh_base.specs.declared.numbers.Cell.TheVariants.{Undef}
use Rattle.sh_base.specs.declared.numbers.Width.{Width}
use Rattle.sh_base.specs.declared.operations.BinOp.TheVariants.{Addi, Muli}
use Rattle.sh_base.specs.declared.operations.CastOp.TheVariants.{Extsi}
use Rattle.sh_int.specs.Elements.{element_of, cast_of}
use Rattle.sh_ir.specs.Loops.{LoopMap, Structure}
use Rattle.sh_tensor.specs.Tensor.{TensorValue}
use Rattle.sh_sem.specs.Nest.{Fixed, folded_cell, index_at, input_cells, step_cell}
use Rattle.sh_sem.specs.Given.{built_of}
use Rattle.sh_loops.specs.Folds.{visited}
use Rattle.sh_loops.specs.declared.regions.Region.{Region}
use Rattle.sh_loops.specs.Regions.{CanRun, region_given}
use Rattle.sh_loops.specs.declared.steps.PointStep as declared
use Rattle.sh_loops.specs.declared.steps.PointStep.TheVariants.{Copied, ProductAdded, Yielded}
use Rattle.sh_loops.specs.declared.nests.Nest as memory

-- ---- one step

abbrev pub product_added : Width → Cell → Cell → Cell → Option Cell
product_added w a b so_far = option_and_then (element_of Addi w so_far) (element_of Muli w a b)

-- of two inputs of these widths
abbrev pub product_next : Width → Width → Width → List Cell → Cell → Option Cell
product_next first second w (a ∷ b ∷ []) so_far =
    product_added w (cast_of Extsi first w a) (cast_of Extsi second w b) so_far
product_next first second w cells so_far = None

-- the next value of the output's cell, of width w
unfoldable pub next_by : declared.PointStep → Width → List ℕ → List Cell → Cell → Option Cell
next_by Copied w point cells so_far = slice_get cells 0
next_by (ProductAdded first second) w point cells so_far = product_next first second w cells so_far
next_by (Yielded region) w point cells so_far =
    region_given region point (region.scalars ++ cells ++ so_far ∷ [])

-- the inputs' cells are of the widths that the step takes
abbrev pub AreFactors : Width → Width → Width → List Cell → Type 0
AreFactors first second w (a ∷ b ∷ []) =
    ((bits_of first ≤ bits_of w) × (bits_of second ≤ bits_of w))
    × (IsCellOf first a × IsCellOf second b)
AreFactors first second w cells = Unit {0}

-- with these cells of the inputs a region can be run at each point, and yields a cell of width w
pub record TakesRegion (r : Region) (w : Width) (cells : List Cell) : Type 0 where
  pub run : (point : List ℕ) (so_far : Cell) → AllByRecursion (λ k. k < 2 ^ 64) point
      → IsCellOf w so_far → CanRun r.steps point (r.scalars ++ cells ++ so_far ∷ [])
  pub within : (point : List ℕ) (so_far c : Cell) → AllByRecursion (λ k. k < 2 ^ 64) point
      → IsCellOf w so_far → region_given r point (r.scalars ++ cells ++ so_far ∷ []) ≡ Some c
      → IsCellOf w c

abbrev pub TakesCells : declared.PointStep → Width → List Cell → Type 0
TakesCells Copied w cells = All (IsCellOf w) cells
TakesCells (ProductAdded first second) w cells = AreFactors first second w cells
TakesCells (Yielded region) w cells = TakesRegion region w cells

-- ---- all points

-- each operand has the index that its map gives
abbrev pub AreInside : List LoopMap → List TensorValue → List ℕ → Type 0
AreInside [] [] p = Unit {0}
AreInside [] (t ∷ ts) p = ⊥
AreInside (dims ∷ maps) [] p = ⊥
AreInside (dims ∷ maps) (t ∷ ts) p = IsIndexOf t.shape (index_at dims p) × AreInside maps ts p

-- what the point with number k makes of the value of its place
unfoldable pub visit_at : memory.Nest → List ℕ → Width → List TensorValue → ℕ → Option Cell
    → Option Cell
visit_at nest extents w ins k so_far =
    option_and_then
    (next_by nest.step w (unflat_of extents k) (input_cells nest.inputs ins (unflat_of extents k)))
    so_far

-- the place that it changes
unfoldable pub place_at : memory.Nest → List ℕ → List ℕ → ℕ → ℕ
place_at nest extents shape k = flat_of shape (index_at nest.output (unflat_of extents k))

-- at each point all operands have cells, and the step takes them
pub record CanFold (nest : memory.Nest) (extents : List ℕ) (ins : List TensorValue)
    (outs : TensorValue) : Type 0 where
  pub inputs : (k : ℕ) → k < cell_count extents → AreInside nest.inputs ins (unflat_of extents k)
  pub output : (k : ℕ) → k < cell_count extents
      → IsIndexOf outs.shape (index_at nest.output (unflat_of extents k))
  pub cells : (k : ℕ) → k < cell_count extents
      → TakesCells nest.step outs.width (input_cells nest.inputs ins (unflat_of extents k))

-- the output's cell with number j once the points with numbers below n have been visited
unfoldable pub folded_by : memory.Nest → List ℕ → List TensorValue → TensorValue → ℕ → ℕ
    → Option Cell
folded_by nest extents ins outs n j =
    visited (visit_at nest extents outs.width ins) (place_at nest extents outs.shape) j
    (Some (get_or outs.cells j Undef)) n

-- ---- what it stands for

-- a nest in memory, with an output of width w, does what a structured operation does
pub record StandsFor (nest : memory.Nest) (w : Width) (s : Structure) (x : Fixed) : Type 0 where
  pub inputs : nest.inputs ≡ s.inputs
  pub output : nest.output ≡ s.output
  pub step : (point : List ℕ) (cells : List Cell) (so_far : Cell)
      → next_by nest.step w point cells so_far ≡ step_cell s.step x point cells so_far

-- what a structured operation gives, where sizes agree
abbrev pub structured_value : Structure → Fixed → List ℕ → List TensorValue → TensorValue
    → Option TensorValue
structured_value s x extents ins outs =
    built_of outs.shape outs.width (folded_cell s x extents ins outs)

-- each dimension follows some loops, all of which are among the first so many
abbrev pub follows_loops : ℕ → LoopMap → Bool
follows_loops n dims =
    list_all (λ loops. nat_lt 0 (length loops) && list_all (λ l. nat_lt l n) loops) dims

abbrev pub all_follow_loops : ℕ → List LoopMap → Bool
all_follow_loops n maps = list_all (follows_loops n) maps
