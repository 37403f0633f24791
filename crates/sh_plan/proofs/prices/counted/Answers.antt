use Rattle.std.proofs.Common.{◌≡◌, arith}
use Rattle.sh_base.specs.Shape.{cell_count}
use Rattle.sh_plan.proofs.HeldSteps.{all_held, are_held_on}
use Rattle.sh_plan.proofs.prices.counted.Goals as goal

pub loop-device-preserved : goal.loop-device-preserved
loop-device-preserved c =
    are_held_on c.args.s.now.grid.extents c.args.s.now.dimensions c.loop-device.device c.loop-device.cells c.cells_of-own.result c.loop-device.invariant
    c.cells_of-own.ensures.value c.cells_of-own.ensures.few

pub returns-clause-value : goal.returns-clause-value
returns-clause-value c =
    let count : c.devices-device-end.result ≡ cell_count c.args.s.now.grid.extents = rw c.grid.ensures at c.devices-device-end.ensures.value in
    all_held c.args.s.now.grid.extents c.args.s.now.dimensions c.loop-device.device c.loop-device.cells c.loop-device.invariant (omega (arith, count))
