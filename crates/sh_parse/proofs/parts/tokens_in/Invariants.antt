use Rattle.std.proofs.Common.{◌≡◌, ◌≤◌, ◌+◌, length}
use Rattle.sh_names.specs.Tables.{tooks}
use Rattle.sh_parse.proofs.parts.tokens_in.Given as goal

abbrev pub invariant-loop-event : goal.invariant-loop-event
invariant-loop-event l = record {
  count : l.count + tooks l.rest ≡ tooks l.events;
  within : l.count + length l.rest ≤ length l.events;
}

abbrev pub decreases-loop-event : goal.decreases-loop-event
decreases-loop-event l = length l.rest
