use Rattle.std.proofs.Common.{sym, ◌∙◌}
use Rattle.std.specs.Prelude.{nat_eq}
use Rattle.std.specs.Cmp.Lexicographic.{pointwise}
use Rattle.sh_collectives.proofs.ListLaws.{all_fail, all_pass, all_end}
use Rattle.sh_collectives.proofs.members.are_same.Goals as goal

pub returns-then-not-is_same : goal.returns-then-not-is_same
returns-then-not-is_same c =
    all_fail (pointwise nat_eq c.args.first.now) (λ s. s.now) c.args.others.now c.loop-other.other-index _ _ _ c.loop-other-test.true c.other-item.is
    (sym c.is_same.ensures ∙ c.if-not-is_same.true) c.loop-other.invariant

pub loop-other-preserved : goal.loop-other-preserved
loop-other-preserved c =
    all_pass (pointwise nat_eq c.args.first.now) (λ s. s.now) c.args.others.now c.loop-other.other-index _ _ _ c.loop-other-test.true c.other-item.is
    (sym c.is_same.ensures ∙ c.if-not-is_same.false) c.loop-other.invariant

pub returns : goal.returns
returns c = all_end (pointwise nat_eq c.args.first.now) (λ s. s.now) c.args.others.now c.loop-other.other-index _ c.loop-other-test.false c.loop-other.invariant
