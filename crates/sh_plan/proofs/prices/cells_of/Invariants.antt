use Rattle.sh_plan.proofs.HeldSteps.{IsHeldSoFar}
use Rattle.sh_plan.proofs.prices.cells_of.Given as goal

abbrev pub invariant-loop-dim : goal.invariant-loop-dim
invariant-loop-dim l = IsHeldSoFar l.s.grid.extents l.device l.s.dimensions l.dim l.cells
