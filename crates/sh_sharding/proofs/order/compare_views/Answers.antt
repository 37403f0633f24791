use Rattle.std.proofs.Common.{sym, ◌∙◌, arith}
use Rattle.sh_sharding.specs.Order.{dimension_view_order}
use Rattle.sh_sharding.proofs.OrderLaws.{compared_more, compared_apart, compared_lengths, order_of-views}
use Rattle.sh_sharding.proofs.order.compare_views.Goals as goal

pub returns-in_default : goal.returns-in_default
returns-in_default c =
    let R = dimension_view_order c.args.g.now.extents in
    let read = c.compare_dimensions.ensures in
    read
    ∙ compared_apart R c.args.a.now c.args.b.now c.loop-at.at _ _ (omega (arith, c.min-at-end.ensures, c.loop-at-test.true)) (omega (arith, c.min-at-end.ensures, c.loop-at-test.true)) c.loop-at.invariant (λ e. c.in_default.not-Equal (read ∙ e))
    ∙ order_of-views c.args.g.now.extents c.args.a.now c.args.b.now

pub loop-at-preserved : goal.loop-at-preserved
loop-at-preserved c =
    let R = dimension_view_order c.args.g.now.extents in
    compared_more R c.args.a.now c.args.b.now c.loop-at.at _ _ (omega (arith, c.min-at-end.ensures, c.loop-at-test.true)) (omega (arith, c.min-at-end.ensures, c.loop-at-test.true)) c.loop-at.invariant (sym c.compare_dimensions.ensures ∙ c.in-Equal.is)

pub returns : goal.returns
returns c =
    let R = dimension_view_order c.args.g.now.extents in
    c.cmp.ensures
    ∙ compared_lengths R c.args.a.now c.args.b.now c.loop-at.at c.loop-at.invariant (omega (arith, c.min-at-end.ensures, c.loop-at-test.false))
    ∙ order_of-views c.args.g.now.extents c.args.a.now c.args.b.now
