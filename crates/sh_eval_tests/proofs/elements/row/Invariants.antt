use Rattle.std.proofs.Common.{◌≡◌, All, length}
use Rattle.sh_base.specs.Cells.{IsCellOf}
use Rattle.sh_base.specs.declared.numbers.Width.TheVariants.{I32}
use Rattle.sh_eval_tests.proofs.elements.row.Given as goal

abbrev pub invariant-loop-number : goal.invariant-loop-number
invariant-loop-number l = record {
  counted : length l.cells.items ≡ l.number-index;
  fitting : All (IsCellOf I32) l.cells.items;
}
