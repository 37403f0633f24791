use Rattle.std.proofs.Common.{Some, sym, ap, ◌∙◌}
use Rattle.sh_turns_demo.proofs.Gather.{gather_more, gather_none}
use Rattle.sh_pieces.specs.Runs.{argument_under}
use Rattle.sh_pieces_demo.proofs.values_of.Goals as goal

pub returns-in_default : goal.returns-in_default
returns-in_default c =
    sym (gather_none (argument_under c.args.names.now c.args.values.now) c.args.wanted.now c.loop-name.name-index 0 c.loop-name-test.true (sym c.value_of.ensures ∙ c.in_default.is))

pub loop-name-preserved : goal.loop-name-preserved
loop-name-preserved c =
    gather_more (argument_under c.args.names.now c.args.values.now) c.args.wanted.now c.loop-name.name-index 0 c.loop-name-test.true c.loop-name.found.items c.in-Some.value c.loop-name.invariant (sym c.value_of.ensures ∙ c.in-Some.is)
    ∙ sym (ap (λ l. Some l) c.in_ok-push.ensures.items)
