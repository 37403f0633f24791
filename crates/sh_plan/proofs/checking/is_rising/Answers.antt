use Rattle.std.proofs.Common.{arith, refl}
use Rattle.sh_plan.proofs.CheckSteps.{rises_all}
use Rattle.sh_plan.proofs.checking.is_rising.Goals as goal

pub returns : goal.returns
returns c = ((λ t. rises_all c.args.to.now.grid.extents c.args.table.now c.loop-at.at (omega arith) c.loop-at.invariant), (λ h. refl))
