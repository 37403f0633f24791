use Rattle.std.proofs.Common.{◌≡◌, ◌+◌, length, get_or, sum, cond, false}
use Rattle.sh_ways.specs.Rows.{AllBelow, AreWays}
use Rattle.sh_ways.proofs.search.settle.Given as goal

abbrev pub invariant-loop-fell : goal.invariant-loop-fell
invariant-loop-fell g l = record {
  same : length l.d ≡ length l.rows;
  ways : AreWays l.rows l.goal l.d;
  zero_at : get_or l.d l.goal 0 ≡ 0;
  done : l.fell ≡ false → AllBelow l.rows l.d;
}

abbrev pub decreases-loop-fell : goal.decreases-loop-fell
decreases-loop-fell g l = sum l.d + cond l.fell 1 0
