-- Rows of loop points: those of the innermost loop, for fixed coordinates along the others.
use Rattle.std.specs.Prelude.{◌≡◌, ℕ, zero, suc, ◌+◌, ◌*◌, ◌-◌, ◌<◌, ◌≤◌, Bool, true, false, List, [], ◌∷◌, length, get_or, min, Option, None}
use Rattle.sh_base.specs.Cells.{IsCellOf}
use Rattle.sh_base.specs.Shape.{cell_count, flat_of, unflat_of}
use Rattle.sh_base.specs.declared.numbers.Cell.{Cell}
use Rattle.sh_base.specs.declared.numbers.Cell.TheVariants.{Undef}
use Rattle.sh_ir.specs.Loops.{LoopMap}
use Rattle.sh_sem.specs.Nest.{index_at, input_cells}
use Rattle.sh_tensor.specs.Tensor.{TensorValue}
use Rattle.sh_loops.specs.Cells.{cells_by}
use Rattle.sh_loops.specs.Folds.{IsVisited}
use Rattle.sh_loops.specs.Nests.{TakesCells, folded_by, place_at, visit_at}
use Rattle.sh_loops.specs.declared.nests.Nest as memory
use Rattle.sh_loops.specs.declared.rows.Row as declared

-- ---- points

-- how many points a row has: one where there is no loop
abbrev pub row_length_of : List ℕ → ℕ
row_length_of [] = 1
row_length_of (n ∷ []) = n
row_length_of (n ∷ m ∷ ns) = row_length_of (m ∷ ns)

-- the point with another coordinate along the innermost loop
abbrev pub with_last : List ℕ → ℕ → List ℕ
with_last [] k = []
with_last (p ∷ []) k = k ∷ []
with_last (p ∷ q ∷ ps) k = p ∷ with_last (q ∷ ps) k

-- ---- operands

-- the numbers of the cells that operands have at a point
abbrev pub numbers_of : List LoopMap → List TensorValue → List ℕ → List ℕ
numbers_of [] ts p = []
numbers_of (dims ∷ maps) [] p = []
numbers_of (dims ∷ maps) (t ∷ ts) p = flat_of t.shape (index_at dims p) ∷ numbers_of maps ts p

-- how far the second numbers lie behind the first, one by one
abbrev pub apart : List ℕ → List ℕ → List ℕ
apart [] firsts = []
apart (b ∷ seconds) [] = []
apart (b ∷ seconds) (a ∷ firsts) = (b - a) ∷ apart seconds firsts

-- the cells of operands k steps behind these numbers
abbrev pub row_cells : List TensorValue → List ℕ → List ℕ → ℕ → List Cell
row_cells [] firsts strides k = []
row_cells (t ∷ ts) [] strides k = []
row_cells (t ∷ ts) (a ∷ firsts) [] k = []
row_cells (t ∷ ts) (a ∷ firsts) (d ∷ strides) k =
    get_or t.cells (a + k * d) Undef ∷ row_cells ts firsts strides k

-- there are such cells
abbrev pub HaveCells : List TensorValue → List ℕ → List ℕ → ℕ → Type 0
HaveCells [] [] [] k = Unit {0}
HaveCells [] [] (d ∷ strides) k = ⊥
HaveCells [] (a ∷ firsts) strides k = ⊥
HaveCells (t ∷ ts) [] strides k = ⊥
HaveCells (t ∷ ts) (a ∷ firsts) [] k = ⊥
HaveCells (t ∷ ts) (a ∷ firsts) (d ∷ strides) k =
    (a + k * d < length t.cells) × HaveCells ts firsts strides k

-- as many points as the innermost loop has, and from each to the next the strides between the first
-- two points of the nest
pub record HasStrides (nest : memory.Nest) (extents : List ℕ) (ins : List TensorValue)
    (outs : TensorValue) (row : declared.Row) : Type 0 where
  pub length_is : row.length ≡ row_length_of extents
  pub strides_are : row.strides.items
      ≡ apart (numbers_of nest.inputs ins (unflat_of extents (min (row_length_of extents - 1) 1)))
      (numbers_of nest.inputs ins (unflat_of extents 0))
  pub stride_is : row.stride
      ≡ place_at nest extents outs.shape (min (row_length_of extents - 1) 1)
      - place_at nest extents outs.shape 0

-- A row of a nest: at each of its points each operand's cell lies a stride behind that at the point
-- before.
pub record IsRow (nest : memory.Nest) (extents : List ℕ) (ins : List TensorValue)
    (outs : TensorValue) (row : declared.Row) : Type 0 where
  pub whole : row.start + row.length ≤ cell_count extents
  pub points : (k : ℕ) → k < row.length
      → unflat_of extents (row.start + k) ≡ with_last (unflat_of extents row.start) k
  pub inputs : (k : ℕ) → k < row.length
      → input_cells nest.inputs ins (unflat_of extents (row.start + k))
      ≡ row_cells ins row.firsts.items row.strides.items k
  pub there : (k : ℕ) → k < row.length → HaveCells ins row.firsts.items row.strides.items k
  pub output : (k : ℕ) → k < row.length
      → place_at nest extents outs.shape (row.start + k) ≡ row.place + k * row.stride
  pub below : (k : ℕ) → k < row.length → row.place + k * row.stride < length outs.cells
  pub takes : (k : ℕ) → k < row.length
      → TakesCells nest.step outs.width (row_cells ins row.firsts.items row.strides.items k)

-- ---- folds

-- the output's cells once the points with numbers below n have been visited
unfoldable pub IsFoldedTo : memory.Nest → List ℕ → List TensorValue → TensorValue → ℕ → List Cell
    → Type 0
IsFoldedTo nest extents ins outs n cells =
    IsVisited (visit_at nest extents outs.width ins) (place_at nest extents outs.shape)
    (IsCellOf outs.width) outs.cells n cells

-- they have been visited, or a point is stuck
abbrev pub GoesOn : memory.Nest → List ℕ → List TensorValue → TensorValue → ℕ → Bool → List Cell
    → Type 0
GoesOn nest extents ins outs n true cells = IsFoldedTo nest extents ins outs n cells
GoesOn nest extents ins outs n false cells =
    cells_by (folded_by nest extents ins outs (cell_count extents)) (cell_count outs.shape) ≡ None
