-- Where the cells of a slice, a reshape, a piece, a padding or a join come from.
use Rattle.std.specs.Prelude.{ℕ, List, get_or}
use Rattle.sh_base.specs.declared.numbers.Cell.{Cell}
use Rattle.sh_ir.specs.Numbers.{as_naturals}
use Rattle.sh_tensor.specs.Tensor.{TensorValue, at, joined_at}
use Rattle.sh_sem.specs.Pieces.{padded_cell}
use Rattle.sh_sem.specs.Reshapes.{reshaped_cell}
use Rattle.sh_sem.specs.Slices.{extracted_cell, inserted_cell}
use Rattle.std.specs.Prelude.{◌+◌, set}
use Rattle.sh_eval.specs.declared.rules.CellRule as memory
use Rattle.sh_eval.specs.declared.rules.CellRule.TheVariants.{Sliced, Inserted, Reshaped, Moved, Padded, Joined}
use Rattle.sh_eval.specs.Slices.{ranges_in}

-- the cell at an index of a result of this shape, by the first operand and by all
unfoldable pub rule_cell : memory.CellRule → TensorValue → List TensorValue → List ℕ → List ℕ → Cell
rule_cell (Sliced ranges) t ts shape i = extracted_cell (ranges_in ranges) t i
rule_cell (Inserted ranges) t ts shape i = inserted_cell (ranges_in ranges) t (get_or ts 1 t) i
rule_cell Reshaped t ts shape i = reshaped_cell t shape i
rule_cell (Moved axis start) t ts shape i = at t (set i axis (start + get_or i axis 0))
rule_cell (Padded low) t ts shape i = padded_cell (as_naturals low) t i
rule_cell (Joined axis) t ts shape i = joined_at axis ts i
