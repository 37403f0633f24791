use Rattle.std.proofs.Common.{◌+◌, ◌*◌, ◌<◌, arith}
use Rattle.sh_base.specs.Shape.{cell_count}
use Rattle.sh_plan.proofs.CostSteps.{counted_all, counted_more, counted_small}
use Rattle.sh_plan.proofs.costs.received_by.Goals as goal

pub overflow_mul-held : goal.overflow_mul-held
overflow_mul-held c =
    let here : c.args.device < cell_count c.args.after.now.grid.extents = rw c.requires.grid at c.requires.device in
    let shared = rw c.requires.grid at c.common-shared.ensures in
    let next = counted_more c.args.after.now.grid.extents c.args.device c.args.before.now.dimensions c.args.after.now.dimensions c.loop-dim.dim c.loop-dim.held c.loop-dim.had c.size-long.result c.common-shared.result
    c.requires.rank (omega (arith, c.rank-dim-end.ensures.value)) c.loop-dim.invariant c.size-long.ensures shared in
    let small = counted_small c.args.after.now c.args.device c.args.before.now.dimensions (c.loop-dim.dim + 1) (c.loop-dim.held * c.size-long.result) (c.loop-dim.had * c.common-shared.result)
    c.whole-admitted.ensures.admitted here c.requires.rank next in
    omega (arith, small.most)

pub overflow_mul-had : goal.overflow_mul-had
overflow_mul-had c =
    let here : c.args.device < cell_count c.args.after.now.grid.extents = rw c.requires.grid at c.requires.device in
    let shared = rw c.requires.grid at c.common-shared.ensures in
    let next = counted_more c.args.after.now.grid.extents c.args.device c.args.before.now.dimensions c.args.after.now.dimensions c.loop-dim.dim c.loop-dim.held c.loop-dim.had c.size-long.result c.common-shared.result
    c.requires.rank (omega (arith, c.rank-dim-end.ensures.value)) c.loop-dim.invariant c.size-long.ensures shared in
    let small = counted_small c.args.after.now c.args.device c.args.before.now.dimensions (c.loop-dim.dim + 1) (c.loop-dim.held * c.size-long.result) (c.loop-dim.had * c.common-shared.result)
    c.whole-admitted.ensures.admitted here c.requires.rank next in
    omega (arith, small.most, small.less)

pub loop-dim-preserved : goal.loop-dim-preserved
loop-dim-preserved c =
    let shared = rw c.requires.grid at c.common-shared.ensures in
    let next = counted_more c.args.after.now.grid.extents c.args.device c.args.before.now.dimensions c.args.after.now.dimensions c.loop-dim.dim c.loop-dim.held c.loop-dim.had c.size-long.result c.common-shared.result
    c.requires.rank (omega (arith, c.rank-dim-end.ensures.value)) c.loop-dim.invariant c.size-long.ensures shared in
    next

pub overflow_sub-result : goal.overflow_sub-result
overflow_sub-result c =
    let here : c.args.device < cell_count c.args.after.now.grid.extents = rw c.requires.grid at c.requires.device in
    let small = counted_small c.args.after.now c.args.device c.args.before.now.dimensions c.loop-dim.dim c.loop-dim.held c.loop-dim.had
    c.whole-admitted.ensures.admitted here c.requires.rank c.loop-dim.invariant in
    small.less

pub returns-clause-value : goal.returns-clause-value
returns-clause-value c =
    rw c.requires.grid (counted_all c.args.after.now.grid.extents c.args.device c.args.before.now.dimensions c.args.after.now.dimensions c.loop-dim.dim c.loop-dim.held c.loop-dim.had c.requires.rank
    (omega (arith, c.rank-dim-end.ensures.value)) c.loop-dim.invariant)

pub returns-clause-within : goal.returns-clause-within
returns-clause-within c =
    let here : c.args.device < cell_count c.args.after.now.grid.extents = rw c.requires.grid at c.requires.device in
    let small = counted_small c.args.after.now c.args.device c.args.before.now.dimensions c.loop-dim.dim c.loop-dim.held c.loop-dim.had
    c.whole-admitted.ensures.admitted here c.requires.rank c.loop-dim.invariant in
    omega (arith, small.most)
