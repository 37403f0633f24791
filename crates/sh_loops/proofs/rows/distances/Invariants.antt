use Rattle.std.proofs.Common.{◌≡◌, ◌++◌, drop}
use Rattle.sh_loops.specs.Rows.{apart}
use Rattle.sh_loops.proofs.rows.distances.Given as goal

abbrev pub invariant-loop-at : goal.invariant-loop-at
invariant-loop-at l = l.strides.items ++ apart (drop l.at l.seconds) (drop l.at l.firsts) ≡ apart l.seconds l.firsts
