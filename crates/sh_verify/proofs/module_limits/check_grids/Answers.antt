use Rattle.sh_verify.specs.LimitFaults.{grid_limits}
use Rattle.sh_verify.proofs.LeastLaws.{found_more}
use Rattle.sh_verify.proofs.module_limits.check_grids.Goals as goal

pub loop-g-preserved : goal.loop-g-preserved
loop-g-preserved c =
    found_more grid_limits c.args.grids.now c.loop-g.g-index c.g-item.result c.loop-g.found c.check_grid-found.result _
    c.loop-g-test.true c.g-item.is c.loop-g.invariant c.check_grid-found.ensures
