use Rattle.std.proofs.Common.{◌+◌, ◌*◌, arith}
use Rattle.sh_plan.proofs.HeldSteps.{held_few, held_on, held_whole}
use Rattle.sh_plan.proofs.prices.cells_of.Goals as goal

pub overflow_mul-cells : goal.overflow_mul-cells
overflow_mul-cells c =
    let next = held_on c.args.s.now.grid.extents c.args.device c.args.s.now.dimensions c.loop-dim.dim c.loop-dim.cells c.size-long.result
    (omega (arith, c.rank-dim-end.ensures.value)) c.loop-dim.invariant c.size-long.ensures in
    let few = held_few c.args.s.now c.args.device (c.loop-dim.dim + 1) (c.loop-dim.cells * c.size-long.result) c.whole-admitted.ensures.admitted c.requires next in
    omega (arith, few)

pub loop-dim-preserved : goal.loop-dim-preserved
loop-dim-preserved c =
    held_on c.args.s.now.grid.extents c.args.device c.args.s.now.dimensions c.loop-dim.dim c.loop-dim.cells c.size-long.result
    (omega (arith, c.rank-dim-end.ensures.value)) c.loop-dim.invariant c.size-long.ensures

pub returns-clause-value : goal.returns-clause-value
returns-clause-value c =
    held_whole c.args.s.now.grid.extents c.args.device c.args.s.now.dimensions c.loop-dim.dim c.loop-dim.cells (omega (arith, c.rank-dim-end.ensures.value)) c.loop-dim.invariant

pub returns-clause-few : goal.returns-clause-few
returns-clause-few c =
    held_few c.args.s.now c.args.device c.loop-dim.dim c.loop-dim.cells c.whole-admitted.ensures.admitted c.requires c.loop-dim.invariant
