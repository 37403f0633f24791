use Rattle.std.proofs.Common.{length}
use Rattle.sh_names.specs.Tables.{IsAlong}
use Rattle.sh_names.proofs.mentions.number_names.Given as goal

abbrev pub invariant-loop-event : goal.invariant-loop-event
invariant-loop-event l = IsAlong l.fn.text l.fn.tokens l.fn.events l.pass l.scope l.events l.tokens

abbrev pub decreases-loop-event : goal.decreases-loop-event
decreases-loop-event l = length l.events
