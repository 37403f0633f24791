use Rattle.std.proofs.Common.{◌≡◌, ◌<◌, ◌/◌, get_or, drop, sym, ap, ◌∙◌, arith}
use Rattle.std.proofs.lemmas.Grind.{common_steps}
use Rattle.sh_base.specs.Shape.{cell_count}
use Rattle.sh_base.proofs.ShapeLaws.{is_digit}
use Rattle.sh_loops.proofs.PointLaws.{digit_below}
use Rattle.sh_loops.proofs.points.point_at.Goals as goal

pub overflow_cast-rest : goal.overflow_cast-rest
overflow_cast-rest c =
    let item = c.type_inv.extent-items c.loop-extent.extent-index in
    let digit = digit_below c.extents-extent-items.result.now c.loop-extent.extent-index c.loop-extent.rest c.loop-extent.stride c.from-stride.result
    c.loop-extent-test.true c.loop-extent.invariant.stride c.loop-extent.invariant.rest c.from-stride.ensures in
    omega (arith, item, digit, c.from-stride.ensures)

pub loop-extent-preserved : goal.loop-extent-preserved
loop-extent-preserved c = grind (arith, common_steps, is_digit)
