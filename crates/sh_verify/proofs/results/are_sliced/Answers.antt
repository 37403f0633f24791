use Rattle.std.proofs.Common.{sym, ◌∙◌}
use Rattle.sh_verify.proofs.SlicedLaws.{sliced_done, sliced_short}
use Rattle.sh_verify.proofs.results.are_sliced.Goals as goal

pub returns-then-min-part : goal.returns-then-min-part
returns-then-min-part c =
    sym (sliced_short c.args.sizes.now c.args.whole.now c.args.part.now
    (λ e. c.if-min-part.true (c.min.ensures ∙ e)))

pub returns : goal.returns
returns c =
    sym (sliced_done c.loop-at.at c.args.sizes.now c.args.whole.now c.args.part.now
    (sym c.min.ensures ∙ c.if-min-part.false) c.loop-at-test.false)
    ∙ c.loop-at.invariant
