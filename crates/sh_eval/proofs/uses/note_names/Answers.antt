use Rattle.std.proofs.Common.{get_or, Some, refl}
use Rattle.sh_eval.specs.Uses.{uses_in}
use Rattle.sh_eval.proofs.UseLaws.{changed_all, next_changed}
use Rattle.sh_eval.proofs.uses.note_names.Goals as goal

pub loop-name-preserved : goal.loop-name-preserved
loop-name-preserved c =
    next_changed c.args.names.now c.loop-name.name-index (get_or c.args.names.now c.loop-name.name-index 0) 0 (uses_in c.loop-name.uses) (uses_in c.note.new.self) _ c.loop-name-test.true refl (Some c.args.at) c.in_ok-note.ensures c.loop-name.invariant

pub returns : goal.returns
returns c = changed_all c.args.names.now c.loop-name.name-index (Some c.args.at) (uses_in c.loop-name.uses) _ c.loop-name-test.false c.loop-name.invariant
