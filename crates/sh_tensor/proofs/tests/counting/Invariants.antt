use Rattle.std.proofs.Common.{◌≡◌, length}
use Rattle.std.specs.List.{All}
use Rattle.sh_base.specs.declared.numbers.Width.TheVariants.{I64}
use Rattle.sh_base.specs.Cells.{IsCellOf}
use Rattle.sh_tensor.proofs.tests.counting.Given as goal

-- so many cells so far, each of the width
abbrev pub invariant-loop-number : goal.invariant-loop-number
invariant-loop-number l = record {
  counted : length l.cells.items ≡ l.number;
  fitting : All (IsCellOf I64) l.cells.items;
}
