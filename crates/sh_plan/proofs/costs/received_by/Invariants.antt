use Rattle.sh_plan.proofs.CostSteps.{IsCounted}
use Rattle.sh_plan.proofs.costs.received_by.Given as goal

abbrev pub invariant-loop-dim : goal.invariant-loop-dim
invariant-loop-dim l = IsCounted l.after.grid.extents l.device l.before.dimensions l.after.dimensions l.dim l.held l.had
