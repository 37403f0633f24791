use Rattle.std.proofs.Common.{◌≡◌, arith, take}
use Rattle.sh_base.specs.Shape.{cell_count}
use Rattle.sh_tensor.proofs.SliceLaws.{rows_step, rows_end}
use Rattle.sh_tensor.proofs.shaping.rows_before.Goals as goal

pub overflow_mul-rows : goal.overflow_mul-rows
overflow_mul-rows c =
    let lt = rw c.extents.ensures.value at c.loop-extent-test.true in
    let so_far : c.loop-extent.rows ≡ cell_count (take c.loop-extent.extent-index (take c.args.axis c.args.s.now)) = rw (← c.extents.ensures.value) c.loop-extent.invariant in
    let step = rows_step c.args.s.now c.args.axis c.loop-extent.extent-index c.loop-extent.rows c.requires.some c.requires.small lt so_far in
    rw c.extents.ensures.value (omega (arith, step.few))

pub loop-extent-preserved : goal.loop-extent-preserved
loop-extent-preserved c =
    let lt = rw c.extents.ensures.value at c.loop-extent-test.true in
    let so_far : c.loop-extent.rows ≡ cell_count (take c.loop-extent.extent-index (take c.args.axis c.args.s.now)) = rw (← c.extents.ensures.value) c.loop-extent.invariant in
    let step = rows_step c.args.s.now c.args.axis c.loop-extent.extent-index c.loop-extent.rows c.requires.some c.requires.small lt so_far in
    rw c.extents.ensures.value step.value

pub returns-clause-value : goal.returns-clause-value
returns-clause-value c =
    let le = rw c.extents.ensures.value at c.loop-extent-test.false in
    let so_far : c.loop-extent.rows ≡ cell_count (take c.loop-extent.extent-index (take c.args.axis c.args.s.now)) = rw (← c.extents.ensures.value) c.loop-extent.invariant in
    (rows_end c.args.s.now c.args.axis c.loop-extent.extent-index c.loop-extent.rows c.requires.some c.requires.small le so_far).value

pub returns-clause-some : goal.returns-clause-some
returns-clause-some c =
    let le = rw c.extents.ensures.value at c.loop-extent-test.false in
    let so_far : c.loop-extent.rows ≡ cell_count (take c.loop-extent.extent-index (take c.args.axis c.args.s.now)) = rw (← c.extents.ensures.value) c.loop-extent.invariant in
    (rows_end c.args.s.now c.args.axis c.loop-extent.extent-index c.loop-extent.rows c.requires.some c.requires.small le so_far).some

pub returns-clause-small : goal.returns-clause-small
returns-clause-small c =
    let le = rw c.extents.ensures.value at c.loop-extent-test.false in
    let so_far : c.loop-extent.rows ≡ cell_count (take c.loop-extent.extent-index (take c.args.axis c.args.s.now)) = rw (← c.extents.ensures.value) c.loop-extent.invariant in
    (rows_end c.args.s.now c.args.axis c.loop-extent.extent-index c.loop-extent.rows c.requires.some c.requires.small le so_far).few
