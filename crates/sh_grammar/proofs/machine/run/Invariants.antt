use Rattle.std.proofs.Common.{[], take}
use Rattle.sh_grammar.specs.Lexemes.{lexemes}
use Rattle.sh_grammar.specs.Machine.{IsMoved, whole}
use Rattle.sh_grammar.specs.Layout.{rules_of}
use Rattle.sh_grammar.specs.Views.{stack_of}
use Rattle.sh_grammar.proofs.machine.run.Given as goal

abbrev pub ghost-is_operation_due : goal.ghost-is_operation_due
ghost-is_operation_due g a = g.facts

abbrev pub ghost-take_token : goal.ghost-take_token
ghost-take_token g a = g.facts

abbrev pub invariant-loop-i : goal.invariant-loop-i
invariant-loop-i g l =
    IsMoved (rules_of l.table) g.facts (whole l.fn.start 10) (take l.i (lexemes l.text l.tokens)) [] (stack_of l.stack.items) l.events.items
