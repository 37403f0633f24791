use Rattle.std.proofs.Common.{◌≡◌, ◌+◌, length}
use Rattle.std.specs.List.{prefix_len}
use Rattle.sh_parse.specs.Answers.{is_before}
use Rattle.sh_parse.proofs.parts.steps_before.Given as goal

abbrev pub invariant-loop-event : goal.invariant-loop-event
invariant-loop-event l = record {
  count : l.count + prefix_len is_before l.rest ≡ prefix_len is_before l.events;
  within : l.count + length l.rest ≡ length l.events;
}

abbrev pub decreases-loop-event : goal.decreases-loop-event
decreases-loop-event l = length l.rest
