use Rattle.std.proofs.Common.{◌≡◌, ◌++◌}
use Rattle.sh_plan.specs.Moves.{each_m2}
use Rattle.sh_plan.proofs.candidates.push_each_m2.Given as goal

abbrev pub invariant-loop-d : goal.invariant-loop-d
invariant-loop-d l = l.moves ≡ l.fn.moves ++ each_m2 l.axes l.d
