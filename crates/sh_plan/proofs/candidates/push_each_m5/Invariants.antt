use Rattle.std.proofs.Common.{◌≡◌, ◌++◌}
use Rattle.sh_plan.specs.Moves.{each_m5}
use Rattle.sh_plan.proofs.candidates.push_each_m5.Given as goal

abbrev pub invariant-loop-d : goal.invariant-loop-d
invariant-loop-d l = l.moves ≡ l.fn.moves ++ each_m5 l.d
