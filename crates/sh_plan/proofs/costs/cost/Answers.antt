use Rattle.std.proofs.Common.{◌≡◌, arith}
use Rattle.sh_base.specs.Shape.{cell_count}
use Rattle.sh_plan.proofs.CostSteps.{cost_all, cost_more}
use Rattle.sh_plan.proofs.costs.cost.Goals as goal

pub loop-device-preserved : goal.loop-device-preserved
loop-device-preserved c =
    cost_more c.args.before.now.grid.extents c.args.before.now.dimensions c.args.after.now.dimensions c.loop-device.device c.loop-device.cost c.received_by-cost.result
    c.loop-device.invariant c.received_by-cost.ensures.value c.received_by-cost.ensures.within

pub returns : goal.returns
returns c =
    let count : c.devices-device-end.result ≡ cell_count c.args.before.now.grid.extents = rw c.grid.ensures at c.devices-device-end.ensures.value in
    cost_all c.args.before.now.grid.extents c.args.before.now.dimensions c.args.after.now.dimensions c.loop-device.device c.loop-device.cost c.loop-device.invariant
    (omega (arith, count))
