-- Cells by their row-major numbers.
use Rattle.std.specs.Prelude.{ℕ, List, [], map, Option}
use Rattle.std.specs.List.{All, range_with_len}
use Rattle.sh_base.specs.Cells.{IsCellOf}
use Rattle.sh_base.specs.declared.numbers.Width.{Width}
use Rattle.sh_ir.specs.declared.arith_ops.Contents.{Contents}
use Rattle.sh_ir.specs.declared.arith_ops.Contents.TheVariants.{Held, Broken}
use Rattle.sh_base.specs.declared.numbers.Cell.{Cell}
use Rattle.sh_ir.specs.declared.arith_ops.Constant
use Rattle.sh_tensor.specs.Tensor.{TensorValue}
use Rattle.sh_sem.specs.Given.{built_of, gives_constant}
use Rattle.sh_turns.specs.Program.{all_there}

-- the cells with the numbers below n, if none is stuck
unfoldable pub cells_by : (ℕ → Option Cell) → ℕ → Option (List Cell)
cells_by cell n = all_there (map cell (range_with_len 0 n))

-- the tensor of these cells
abbrev pub tensor_of : List ℕ → Width → List Cell → TensorValue
tensor_of shape w cells = record { shape = shape; width = w; cells = cells }

-- the tensor of a shape that a literal stands for
abbrev pub constant_value : Constant.Constant → List ℕ → Width → Option TensorValue
constant_value literal shape w = built_of shape w ((gives_constant literal).cell [] shape)

-- the cells that a literal holds are of this width
abbrev pub HoldsCellsOf : Width → Contents → Type 0
HoldsCellsOf w Broken = Unit {0}
HoldsCellsOf w (Held cells) = All (IsCellOf w) cells
