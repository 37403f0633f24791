use Rattle.std.proofs.Common.{get_or, refl}
use Rattle.sh_eval.specs.Stores.{values_in}
use Rattle.sh_eval.specs.Uses.{uses_in}
use Rattle.sh_eval.proofs.UseLaws.{ended_all_names, next_ended}
use Rattle.sh_eval.proofs.uses.forget_names.Goals as goal

pub loop-name-preserved : goal.loop-name-preserved
loop-name-preserved c =
    next_ended c.args.names.now c.loop-name.name-index (get_or c.args.names.now c.loop-name.name-index 0) 0 (values_in c.loop-name.store) (values_in c.forget_last.new.store) _ c.loop-name-test.true refl (uses_in c.args.uses.now) c.args.at c.forget_last.ensures c.loop-name.invariant

pub returns : goal.returns
returns c = ended_all_names c.args.names.now c.loop-name.name-index (uses_in c.args.uses.now) c.args.at (values_in c.loop-name.store) _ c.loop-name-test.false c.loop-name.invariant
