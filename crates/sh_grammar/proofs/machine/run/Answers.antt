use Rattle.std.proofs.Common.{◌+◌, ◌∙◌, ap, arith}
use Rattle.sh_grammar.specs.declared.symbols.Symbol.TheVariants.{Part}
use Rattle.sh_grammar.specs.Predictive.{may_begin_operation}
use Rattle.sh_grammar.specs.Layout.{rules_of, choices_of}
use Rattle.sh_grammar.specs.Views.{stack_of}
use Rattle.sh_grammar.proofs.StackSteps.{pop_stack}
use Rattle.sh_grammar.proofs.Lexed.{span_at, closed}
use Rattle.sh_grammar.proofs.Answered.{predictive, moved_none, moved_on, refused, accepted, kept}
use Rattle.sh_grammar.proofs.machine.run.Goals as goal

pub loop-i-init : goal.loop-i-init
loop-i-init g c =
    rw c.new-events.ensures.items (moved_none (rules_of c.args.table.now) (choices_of c.args.table.now) g.facts c.args.start c.requires.1.1
    (stack_of c.push-2.new.self.items)
    (rw (pop_stack c.push-2.new.self.items c.push.new.self.items (Part c.args.start) c.in_ok-push-2.ensures.items, c.in_ok-push.ensures.items, c.new-stack.ensures.items)))

pub take_token-requires : goal.take_token-requires
take_token-requires g c =
    let span = span_at c.requires.0 c.loop-i.i _ c.loop-i-test.true in
    (span.0, (span.1, (predictive (rules_of c.args.table.now) (choices_of c.args.table.now) g.facts c.args.start c.requires.1.1, c.loop-i.invariant.apt)))

pub rule_of-rule-requires-clause-order : goal.rule_of-rule-requires-clause-order
rule_of-rule-requires-clause-order g c = (span_at c.requires.0 c.loop-i.i _ c.loop-i-test.true).0

pub rule_of-rule-requires-clause-within : goal.rule_of-rule-requires-clause-within
rule_of-rule-requires-clause-within g c = (span_at c.requires.0 c.loop-i.i _ c.loop-i-test.true).1

pub returns-then-not-branch : goal.returns-then-not-branch
returns-then-not-branch g c =
    refused (rules_of c.args.table.now) (choices_of c.args.table.now) g.facts c.args.start c.requires.1.1
    c.args.text.now c.args.tokens.now c.loop-i.i _ (stack_of c.loop-i.stack.items) c.loop-i.events.items c.truncate.new.self.items c.rule_of-rule.result c.is_operation_due-due.result
    c.loop-i-test.true c.loop-i.invariant (rw c.if-not-branch.true at c.in_ok-take_token.ensures.stuck)
    (c.is_operation_due-due.ensures ∙ ap (λ items. may_begin_operation g.facts (stack_of items)) c.deref.ensures.value)
    c.rule_of-rule.ensures
    (c.truncate.ensures.items
    ∙ kept c.loop-i.events.items c.in_ok-take_token.ensures.grown.0 c.take_token.new.events.items c.len-before.result (c.len-before.ensures ∙ c.loop-i.events.ok.0) c.in_ok-take_token.ensures.grown.1)

pub loop-i-preserved : goal.loop-i-preserved
loop-i-preserved g c =
    moved_on (rules_of c.args.table.now) (choices_of c.args.table.now) g.facts c.args.start c.requires.1.1
    c.args.text.now c.args.tokens.now c.loop-i.i (c.loop-i.i + 1) _ (stack_of c.loop-i.stack.items) (stack_of c.take_token.new.stack.items) c.loop-i.events.items c.take_token.new.events.items
    (omega arith) c.loop-i-test.true c.loop-i.invariant (rw c.if-not-branch.false at c.in_ok-take_token.ensures.taken)

pub returns : goal.returns
returns g c =
    accepted (rules_of c.args.table.now) (choices_of c.args.table.now) g.facts c.args.start c.requires.1.1
    c.args.text.now c.args.tokens.now c.loop-i.i (stack_of c.loop-i.stack.items) c.loop-i.events.items
    (omega arith) (closed c.requires.0) c.loop-i.invariant
