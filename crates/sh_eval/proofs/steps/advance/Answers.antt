use Rattle.std.proofs.Common.{sym, ◌∙◌, inl, inr}
use Rattle.sh_ir.specs.Classes.{class_of}
use Rattle.sh_eval.specs.Stores.{values_in}
use Rattle.sh_eval.proofs.WorkLaws.{idle_done, other_class, other_stuck}
use Rattle.sh_eval.proofs.steps.advance.Goals as goal

pub returns-in-Sharding : goal.returns-in-Sharding
returns-in-Sharding c =
    idle_done c.args.op.now (values_in c.args.store.now) c.args.so_far c.requires.small
    (elim c.in-Sharding.is [
      | inl e ↦ inl (sym c.class.ensures ∙ e)
      | inr e ↦ inr (sym c.class.ensures ∙ e)
    ])

pub returns-in_default : goal.returns-in_default
returns-in_default c =
    other_stuck c.args.op.now (values_in c.args.store.now) c.args.so_far c.requires.small
    (other_class (class_of c.args.op.now.kind) (λ e. c.in_default.not-Creator (c.class.ensures ∙ e)) (λ e. c.in_default.not-Element (c.class.ensures ∙ e)) (λ e. c.in_default.not-Layout (c.class.ensures ∙ e)) (λ e. c.in_default.not-Structured (c.class.ensures ∙ e)) (λ e. c.in_default.not-Convolution (c.class.ensures ∙ e)) (λ e. c.in_default.not-Sharding (c.class.ensures ∙ e)) (λ e. c.in_default.not-Note (c.class.ensures ∙ e)) (λ e. c.in_default.not-Return (c.class.ensures ∙ e)) c.requires.can.source)
