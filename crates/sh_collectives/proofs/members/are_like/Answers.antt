use Rattle.std.proofs.Common.{sym, ◌∙◌}
use Rattle.sh_sem.specs.Pieces.{is_like}
use Rattle.sh_collectives.proofs.ListLaws.{all_fail, all_pass, all_end}
use Rattle.sh_collectives.proofs.members.are_like.Goals as goal

pub returns-then-not-is_like : goal.returns-then-not-is_like
returns-then-not-is_like c =
    all_fail (is_like c.args.axis c.args.first.now) (λ s. s.now) c.args.others.now c.loop-other.other-index _ _ _ c.loop-other-test.true c.other-item.is
    (sym c.is_like.ensures ∙ c.if-not-is_like.true) c.loop-other.invariant

pub loop-other-preserved : goal.loop-other-preserved
loop-other-preserved c =
    all_pass (is_like c.args.axis c.args.first.now) (λ s. s.now) c.args.others.now c.loop-other.other-index _ _ _ c.loop-other-test.true c.other-item.is
    (sym c.is_like.ensures ∙ c.if-not-is_like.false) c.loop-other.invariant

pub returns : goal.returns
returns c = all_end (is_like c.args.axis c.args.first.now) (λ s. s.now) c.args.others.now c.loop-other.other-index _ c.loop-other-test.false c.loop-other.invariant
