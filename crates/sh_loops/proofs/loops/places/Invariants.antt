use Rattle.std.proofs.Common.{◌≡◌}
use Rattle.sh_ir.specs.Loops.{places_in}
use Rattle.sh_ir.specs.Numbers.{as_naturals}
use Rattle.sh_loops.proofs.loops.places.Given as goal

abbrev pub invariant-loop-number : goal.invariant-loop-number
invariant-loop-number l = l.found.items ≡ places_in l.number (as_naturals l.written)
