-- Runs of cells: the rows of row-major cells, as many as there are indices before an axis.
use Rattle.std.specs.Prelude.{ℕ, ◌+◌, ◌*◌, ◌/◌, List, length, take, drop}
use Rattle.std.specs.List.{range_with_len, flat_map}
use Rattle.sh_base.specs.declared.numbers.Cell.{Cell}
use Rattle.sh_tensor.specs.Tensor.{TensorValue}

-- so many cells from the given one on in the row q
unfoldable pub run_of : List Cell → ℕ → ℕ → ℕ → ℕ → List Cell
run_of cells rows from size q = take size (drop (q * (length cells / rows) + from) cells)

-- such a run of each row
unfoldable pub runs_of : List Cell → ℕ → ℕ → ℕ → List Cell
runs_of cells rows from size = flat_map (run_of cells rows from size) (range_with_len 0 rows)

-- the row q of each tensor, one after the other
unfoldable pub joined_row : List TensorValue → ℕ → ℕ → List Cell
joined_row ts rows q = flat_map (λ t. run_of t.cells rows 0 (length t.cells / rows) q) ts

-- all such rows
unfoldable pub joined_rows : List TensorValue → ℕ → List Cell
joined_rows ts rows = flat_map (joined_row ts rows) (range_with_len 0 rows)
