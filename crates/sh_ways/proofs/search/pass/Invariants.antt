use Rattle.sh_ways.proofs.Passes.{SoFar}
use Rattle.sh_ways.proofs.search.pass.Given as goal

abbrev pub invariant-loop-i : goal.invariant-loop-i
invariant-loop-i g l = SoFar l.rows l.fn.d l.i l.d l.fell
