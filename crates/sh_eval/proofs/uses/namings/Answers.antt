use Rattle.std.proofs.Common.{ap, ◌∙◌}
use Rattle.sh_eval.specs.Uses.{uses_in}
use Rattle.sh_eval.proofs.UseLaws.{namings_all, namings_at_start, namings_from, next_namings}
use Rattle.sh_eval.proofs.uses.namings.Goals as goal

pub loop-at-init : goal.loop-at-init
loop-at-init c = ap (namings_from 0 c.args.ops.now) c.new-uses.ensures ∙ namings_at_start c.args.ops.now

pub loop-at-preserved : goal.loop-at-preserved
loop-at-preserved c =
    next_namings c.args.ops.now c.loop-at.at c.index-ops-at.result (uses_in c.loop-at.uses) (uses_in c.note_op.new.uses) _ c.loop-at-test.true c.index-ops-at.is c.in_ok-note_op.ensures c.loop-at.invariant

pub returns : goal.returns
returns c = namings_all c.args.ops.now c.loop-at.at (uses_in c.loop-at.uses) _ c.loop-at-test.false c.loop-at.invariant
