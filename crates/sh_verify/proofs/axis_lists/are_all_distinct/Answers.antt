use mathlib.Core.Path.{◌∙◌, ap, sym}
use Rattle.std.proofs.Common.{◌+◌, ◌&&◌, drop}
use Rattle.sh_ir.specs.Numbers.{are_distinct, as_naturals}
use Rattle.sh_verify.specs.Lists.{all_axes}
use Rattle.sh_verify.proofs.DistinctLaws.{alone_next}
use Rattle.sh_verify.proofs.axis_lists.are_all_distinct.Goals as goal

pub returns-then-not-stands_alone : goal.returns-then-not-stands_alone
returns-then-not-stands_alone c =
    let more = are_distinct (as_naturals (all_axes (drop (c.loop-at.at + 1) c.args.lists.now))) in
    ap (λ b. b && more) (sym c.if-not-stands_alone.true)
    ∙ alone_next c.args.lists.now c.loop-at.at c.index-lists-at.result c.as_slice.result.now c.split_at.result.1.now c.stands_alone.result _
    c.loop-at-test.true c.index-lists-at.is c.as_slice.ensures c.split_at.ensures.back c.stands_alone.ensures c.loop-at.invariant

pub loop-at-preserved : goal.loop-at-preserved
loop-at-preserved c =
    let more = are_distinct (as_naturals (all_axes (drop (c.loop-at.at + 1) c.args.lists.now))) in
    ap (λ b. b && more) (sym c.if-not-stands_alone.false)
    ∙ alone_next c.args.lists.now c.loop-at.at c.index-lists-at.result c.as_slice.result.now c.split_at.result.1.now c.stands_alone.result _
    c.loop-at-test.true c.index-lists-at.is c.as_slice.ensures c.split_at.ensures.back c.stands_alone.ensures c.loop-at.invariant
