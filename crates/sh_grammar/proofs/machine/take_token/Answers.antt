use Rattle.std.proofs.Common.{sym, ◌∙◌}
use Rattle.sh_grammar.proofs.StackSteps.{class_taken, class_stuck, empty_stuck, no_items, form_stuck, form_opened, form_lighter}
use Rattle.sh_grammar.specs.Lexemes.{lexeme_of}
use Rattle.sh_grammar.specs.Layout.{rules_of, choices_of}
use Rattle.sh_grammar.specs.Views.{stack_of}
use Rattle.sh_grammar.proofs.machine.take_token.Goals as goal

pub returns-in-None-clause-stuck : goal.returns-in-None-clause-stuck
returns-in-None-clause-stuck g c =
    form_stuck (rules_of c.args.table.now) (choices_of c.args.table.now) g.facts (stack_of c.args.stack.now.items) (lexeme_of c.args.text.now c.args.token.now) c.args.events.now.items c.loop-symbol.events.items
    c.requires.1.1.0 c.in-Part.form c.loop-symbol.stack.items c.pop.new.self.items
    (rw c.in-Part.is at c.in-Some.ensures.items) c.loop-symbol.invariant (rw c.class_of_token-class.ensures at c.in-None.ensures.none)

pub loop-symbol-smaller : goal.loop-symbol-smaller
loop-symbol-smaller g c =
    form_lighter (rules_of c.args.table.now) (choices_of c.args.table.now) g.facts (stack_of c.args.stack.now.items) (lexeme_of c.args.text.now c.args.token.now) c.args.events.now.items c.loop-symbol.events.items
    c.requires.1.1.0 c.in-Part.form c.in-Some-chosen.alternative c.in-Some-chosen.body.now c.loop-symbol.stack.items c.pop.new.self.items c.push_body.new.stack.items
    (rw c.in-Part.is at c.in-Some.ensures.items) c.in-Some-chosen.ensures.some c.in_ok-push_body-in-Some-chosen.ensures

pub loop-symbol-preserved : goal.loop-symbol-preserved
loop-symbol-preserved g c =
    form_opened (rules_of c.args.table.now) (choices_of c.args.table.now) g.facts (stack_of c.args.stack.now.items) (lexeme_of c.args.text.now c.args.token.now) c.args.events.now.items c.loop-symbol.events.items
    c.requires.1.1.0 c.in-Part.form c.in-Some-chosen.alternative c.in-Some-chosen.body.now c.loop-symbol.stack.items c.pop.new.self.items c.push_body.new.stack.items
    (rw c.in-Part.is at c.in-Some.ensures.items) c.loop-symbol.invariant c.in-Some-chosen.ensures.some (rw c.class_of_token-class.ensures at c.in-Some-chosen.ensures.taken) c.in_ok-push_body-in-Some-chosen.ensures
    c.push-in-Some-chosen.new.self.items c.in_ok-push-in-Some-chosen.ensures.items

pub returns-then-wanted-class-clause-stuck : goal.returns-then-wanted-class-clause-stuck
returns-then-wanted-class-clause-stuck g c =
    class_stuck (rules_of c.args.table.now) (choices_of c.args.table.now) g.facts (stack_of c.args.stack.now.items) (lexeme_of c.args.text.now c.args.token.now) c.args.events.now.items c.loop-symbol.events.items
    c.in-Class.wanted c.loop-symbol.stack.items c.pop.new.self.items
    (rw c.in-Class.is at c.in-Some.ensures.items) c.loop-symbol.invariant (λ e. c.if-wanted-class.true (sym (c.class_of_token-class.ensures ∙ e)))

pub returns-in-Class-clause-taken : goal.returns-in-Class-clause-taken
returns-in-Class-clause-taken g c =
    class_taken (rules_of c.args.table.now) (choices_of c.args.table.now) g.facts (stack_of c.args.stack.now.items) (lexeme_of c.args.text.now c.args.token.now) c.args.events.now.items c.loop-symbol.events.items
    c.in-Class.wanted c.loop-symbol.stack.items c.pop.new.self.items
    (rw c.in-Class.is at c.in-Some.ensures.items) c.loop-symbol.invariant (sym (c.if-wanted-class.false ∙ c.class_of_token-class.ensures)) c.push.new.self.items c.in_ok-push-in-Class.ensures.items

pub returns-clause-stuck : goal.returns-clause-stuck
returns-clause-stuck g c =
    empty_stuck (rules_of c.args.table.now) (choices_of c.args.table.now) g.facts (stack_of c.args.stack.now.items) (lexeme_of c.args.text.now c.args.token.now) c.args.events.now.items c.loop-symbol.events.items
    c.loop-symbol.stack.items (no_items c.loop-symbol.stack.items _ c.loop-symbol.stack.ok.0 c.in_default.ensures.cases.0) c.loop-symbol.invariant
