use Rattle.sh_plan.proofs.CostSteps.{IsCostSoFar}
use Rattle.sh_plan.proofs.costs.cost.Given as goal

abbrev pub invariant-loop-device : goal.invariant-loop-device
invariant-loop-device l = IsCostSoFar l.before.grid.extents l.before.dimensions l.after.dimensions l.device l.cost
