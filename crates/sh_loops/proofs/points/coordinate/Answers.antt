use Rattle.std.proofs.Common.{◌+◌, sym, ◌∙◌, arith, ap₂}
use Rattle.sh_loops.proofs.PointLaws.{coordinate-more, coordinate-none, coordinate-part}
use Rattle.sh_loops.proofs.points.coordinate.Goals as goal

pub overflow_add-total : goal.overflow_add-total
overflow_add-total c =
    let more = coordinate-more c.args.point.now c.args.loops.now c.loop-at.at-index c.loop-at-test.true in
    let part = coordinate-part c.args.point.now c.args.loops.now (c.loop-at.at-index + 1) in
    let entry = c.entry-total.ensures in
    omega (arith, c.requires, c.loop-at.invariant, entry)

pub loop-at-init : goal.loop-at-init
loop-at-init c = coordinate-none c.args.point.now c.args.loops.now

pub loop-at-preserved : goal.loop-at-preserved
loop-at-preserved c =
    ap₂ (λ a b. a + b) c.loop-at.invariant c.entry-total.ensures
    ∙ sym (coordinate-more c.args.point.now c.args.loops.now c.loop-at.at-index c.loop-at-test.true)
