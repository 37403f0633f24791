-- What an operation gives, apart: the shape by its kind, the extents that its type knows, and the
-- cells.
use Rattle.std.specs.Prelude.{◌≤◌, ℕ, List, map, max, Option, option_and_then, IfSome}
use Rattle.sh_base.specs.Shape.{cell_count, max_cells}
use Rattle.sh_base.specs.declared.numbers.Width.{Width}
use Rattle.sh_ir.specs.declared.types.Dim.{Dim}
use Rattle.sh_tensor.specs.Tensor.{TensorValue}
use Rattle.sh_eval.specs.declared.pieces.TensorPiece.{TensorPiece}
use Rattle.sh_sem.specs.Given.{Giving, built_of, of_dims}
use Rattle.sh_sem.specs.Pieces.{Piece}

-- a tensor of this shape has few cells, an extent of 0 being counted as 1
abbrev pub IsFew : List ℕ → Type 0
IsFew shape = cell_count (map (λ n. max n 1) shape) ≤ max_cells

abbrev pub shapes_of : List TensorValue → List (List ℕ)
shapes_of ts = map (λ t. t.shape) ts

-- the shape that a rule gives, if it has the extents that a type knows
abbrev pub known_shape_by : Giving → List Dim → List TensorValue → Option (List ℕ)
known_shape_by x dims ts = option_and_then (of_dims dims) (x.shape (shapes_of ts))

-- and the tensor of this shape
abbrev pub known_value : Giving → List Dim → Width → List TensorValue → Option TensorValue
known_value x dims w ts =
    option_and_then (λ shape. built_of shape w (x.cell ts shape)) (known_shape_by x dims ts)

-- what a rule gives has few cells
abbrev pub GivesFew : Giving → List Dim → List TensorValue → Type 0
GivesFew x dims ts = IfSome (known_shape_by x dims ts) IsFew

-- ---- pieces

abbrev pub piece_in : TensorPiece → Piece
piece_in x = record { start = x.start; size = x.size }
