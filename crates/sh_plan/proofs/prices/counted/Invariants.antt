use Rattle.sh_plan.proofs.HeldSteps.{AreHeldSoFar}
use Rattle.sh_plan.proofs.prices.counted.Given as goal

abbrev pub invariant-loop-device : goal.invariant-loop-device
invariant-loop-device l = AreHeldSoFar l.s.grid.extents l.s.dimensions l.device l.cells
