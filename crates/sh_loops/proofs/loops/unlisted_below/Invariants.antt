use Rattle.std.proofs.Common.{◌≡◌}
use Rattle.sh_ir.specs.Loops.{unlisted}
use Rattle.sh_ir.specs.Numbers.{as_naturals}
use Rattle.sh_loops.proofs.loops.unlisted_below.Given as goal

abbrev pub invariant-loop-number : goal.invariant-loop-number
invariant-loop-number l = l.numbers.items ≡ unlisted l.number (as_naturals l.listed)
