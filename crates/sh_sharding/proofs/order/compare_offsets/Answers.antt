use Rattle.std.proofs.Common.{ap₂, sym, ◌∙◌, arith}
use Rattle.std.specs.Ordering.{nat_cmp}
use Rattle.sh_sharding.specs.Order.{viewed_offsets}
use Rattle.sh_sharding.proofs.OrderLaws.{compared_start, compared_more, compared_apart, compared_end, read_offset, offsets_long}
use Rattle.sh_sharding.proofs.order.compare_offsets.Goals as goal

pub loop-part-init : goal.loop-part-init
loop-part-init c = compared_start nat_cmp (viewed_offsets c.args.parts c.args.a.now) (viewed_offsets c.args.parts c.args.b.now)

pub returns-in_default : goal.returns-in_default
returns-in_default c =
    let p = c.args.parts in
    let part = c.loop-part.part in
    let read = c.cmp.ensures ∙ ap₂ nat_cmp (c.offset-mine.ensures.value ∙ read_offset p part c.args.a.now (omega (arith, c.loop-part-test.true))) (c.offset-other.ensures.value ∙ read_offset p part c.args.b.now (omega (arith, c.loop-part-test.true))) in
    read
    ∙ compared_apart nat_cmp (viewed_offsets p c.args.a.now) (viewed_offsets p c.args.b.now) part 0 0 (omega (arith, offsets_long p c.args.a.now, c.loop-part-test.true)) (omega (arith, offsets_long p c.args.b.now, c.loop-part-test.true)) c.loop-part.invariant
    (λ e. c.in_default.not-Equal (read ∙ e))

pub loop-part-preserved : goal.loop-part-preserved
loop-part-preserved c =
    let p = c.args.parts in
    let part = c.loop-part.part in
    let read = c.cmp.ensures ∙ ap₂ nat_cmp (c.offset-mine.ensures.value ∙ read_offset p part c.args.a.now (omega (arith, c.loop-part-test.true))) (c.offset-other.ensures.value ∙ read_offset p part c.args.b.now (omega (arith, c.loop-part-test.true))) in
    compared_more nat_cmp (viewed_offsets p c.args.a.now) (viewed_offsets p c.args.b.now) part 0 0 (omega (arith, offsets_long p c.args.a.now, c.loop-part-test.true)) (omega (arith, offsets_long p c.args.b.now, c.loop-part-test.true)) c.loop-part.invariant
    (sym read ∙ c.in-Equal.is)

pub returns : goal.returns
returns c =
    let p = c.args.parts in
    compared_end nat_cmp (viewed_offsets p c.args.a.now) (viewed_offsets p c.args.b.now) c.loop-part.part c.loop-part.invariant (omega (arith, offsets_long p c.args.a.now, c.loop-part-test.false)) (omega (arith, offsets_long p c.args.b.now, c.loop-part-test.false))
