use Rattle.std.proofs.Common.{sym, ◌∙◌}
use Rattle.sh_collectives.proofs.GroupLaws.{not_common, are_common, first_of}
use Rattle.sh_collectives.proofs.shapes.common.Goals as goal

pub returns-then-not-are_same-clause-value : goal.returns-then-not-are_same-clause-value
returns-then-not-are_same-clause-value c = not_common (λ s. s.now) c.args.shapes.now c.index-shapes-0.result _ c.requires c.index-shapes-0.is (sym c.are_same.ensures ∙ c.if-not-are_same.true)

pub returns-clause-value : goal.returns-clause-value
returns-clause-value c = are_common (λ s. s.now) c.args.shapes.now c.index-shapes-0.result _ c.requires c.index-shapes-0.is (sym c.are_same.ensures ∙ c.if-not-are_same.false)

pub returns-clause-first : goal.returns-clause-first
returns-clause-first c = first_of (λ s. s.now) c.args.shapes.now c.index-shapes-0.result _ c.requires c.index-shapes-0.is
