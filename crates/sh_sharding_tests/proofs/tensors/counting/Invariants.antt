use Rattle.std.proofs.Common.{◌≡◌, length, map}
use Rattle.std.specs.List.{All, range_with_len}
use Rattle.sh_base.specs.declared.numbers.Cell.TheVariants.{Val}
use Rattle.sh_base.specs.declared.numbers.Width.TheVariants.{I64}
use Rattle.sh_base.specs.Cells.{IsCellOf}
use Rattle.sh_sharding_tests.proofs.tensors.counting.Given as goal

-- the numbers so far, each of the width
abbrev pub invariant-loop-number : goal.invariant-loop-number
invariant-loop-number l = record {
  value : l.cells.items ≡ map Val (range_with_len 0 l.number);
  counted : length l.cells.items ≡ l.number;
  fitting : All (IsCellOf I64) l.cells.items;
}
