use Rattle.std.proofs.Common.{◌≡◌, All, length}
use Rattle.sh_base.specs.Cells.{IsCellOf}
use Rattle.sh_iface_tests.proofs.operands.tensor.Given as goal

abbrev pub invariant-loop-number : goal.invariant-loop-number
invariant-loop-number l = record {
  counted : length l.cells.items ≡ l.number;
  fitting : All (IsCellOf l.w) l.cells.items;
}
