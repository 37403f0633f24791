use Rattle.std.proofs.Common.{◌≡◌, ◌≤◌, length, take}
use Rattle.sh_grammar.specs.Predictive.{may_begin_operation}
use Rattle.sh_grammar.specs.Views.{stack_of}
use Rattle.sh_grammar.proofs.machine.is_operation_due.Given as goal

abbrev pub invariant-loop-at : goal.invariant-loop-at
invariant-loop-at g l = record {
  within : l.at ≤ length l.stack;
  same : may_begin_operation g.facts (stack_of l.stack) ≡ may_begin_operation g.facts (stack_of (take l.at l.stack));
}

abbrev pub decreases-loop-at : goal.decreases-loop-at
decreases-loop-at g l = l.at
