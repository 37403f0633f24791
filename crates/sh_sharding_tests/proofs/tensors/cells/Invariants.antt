use Rattle.std.specs.List.{All}
use Rattle.sh_base.specs.declared.numbers.Width.TheVariants.{I64}
use Rattle.sh_base.specs.Cells.{IsCellOf}
use Rattle.sh_sharding_tests.proofs.tensors.cells.Given as goal

abbrev pub invariant-loop-word : goal.invariant-loop-word
invariant-loop-word l = All (IsCellOf I64) l.found.items
