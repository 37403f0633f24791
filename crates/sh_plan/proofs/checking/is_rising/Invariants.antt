use Rattle.sh_plan.proofs.CheckSteps.{RisesTo}
use Rattle.sh_plan.proofs.checking.is_rising.Given as goal

abbrev pub invariant-loop-at : goal.invariant-loop-at
invariant-loop-at l = RisesTo l.to.grid.extents l.table l.at
