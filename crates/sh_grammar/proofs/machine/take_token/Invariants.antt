use Rattle.sh_grammar.specs.Lexemes.{lexeme_of}
use Rattle.sh_grammar.specs.Layout.{rules_of}
use Rattle.sh_grammar.specs.Views.{stack_of}
use Rattle.sh_grammar.specs.Machine.{IsOpened}
use Rattle.sh_grammar.specs.Predictive.{weight_of}
use Rattle.sh_grammar.proofs.machine.take_token.Given as goal

abbrev pub invariant-loop-symbol : goal.invariant-loop-symbol
invariant-loop-symbol g l =
    IsOpened (rules_of l.table) g.facts (stack_of l.fn.stack.items) (lexeme_of l.text l.token) l.fn.events.items (stack_of l.stack.items) l.events.items

abbrev pub decreases-loop-symbol : goal.decreases-loop-symbol
decreases-loop-symbol g l = weight_of g.facts (stack_of l.stack.items)
