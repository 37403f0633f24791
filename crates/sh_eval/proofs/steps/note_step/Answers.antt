use Rattle.std.proofs.Common.{ap, sym, ◌∙◌}
use Rattle.std.specs.Prelude.{option_map}
use Rattle.sh_eval.specs.Stores.{values_in}
use Rattle.sh_eval.proofs.WorkLaws.{note_done, note_stuck}
use Rattle.sh_eval.proofs.steps.note_step.Goals as goal

pub returns-in_ok-define-in-Some : goal.returns-in_ok-define-in-Some
returns-in_ok-define-in-Some c =
    note_done c.args.op.now (values_in c.args.store.now) (values_in c.define.new.self) c.args.so_far c.in-Some.t.value c.requires.small c.requires.class
    (ap (option_map (λ t. t.value)) (sym c.in-Some.is) ∙ c.in_ok-t.ensures) c.in_ok-define-in-Some.ensures

pub returns-in-None : goal.returns-in-None
returns-in-None c = note_stuck c.args.op.now (values_in c.args.store.now) c.args.so_far c.requires.small c.requires.class (ap (option_map (λ t. t.value)) (sym c.in-None.is) ∙ c.in_ok-t.ensures)
