use Rattle.std.proofs.Common.{arith}
use Rattle.sh_tensor.proofs.JoinLaws.{extent_step, whole_more}
use Rattle.sh_tensor.proofs.joins.extent_along.Goals as goal

pub overflow_add-extent : goal.overflow_add-extent
overflow_add-extent c =
    let step = extent_step c.args.axis c.args.parts.now c.loop-part.part-index c.loop-part.extent c.part-item.result c.loop-part-test.true c.part-item.is c.loop-part.invariant.value in
    rw (c.extents.ensures.value, c.shape.ensures.value) (omega (arith, step.few, c.requires.fits))

pub loop-part-preserved : goal.loop-part-preserved
loop-part-preserved c =
    let step = extent_step c.args.axis c.args.parts.now c.loop-part.part-index c.loop-part.extent c.part-item.result c.loop-part-test.true c.part-item.is c.loop-part.invariant.value in
    record {
      value = rw (c.extents.ensures.value, c.shape.ensures.value) step.value;
      whole = whole_more c.args.parts.now c.loop-part.part-index c.part-item.result c.loop-part-test.true c.part-item.is c.loop-part.invariant.whole c.shape.ensures.whole;
    }
