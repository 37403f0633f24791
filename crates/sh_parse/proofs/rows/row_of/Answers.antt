use Rattle.std.proofs.Common.{[]}
use Rattle.std.proofs.lemmas.List.{append-nil}
use Rattle.sh_parse.proofs.RowSteps.{its_size, its_span, part_put, row_opened, row_took, token_left}
use Rattle.sh_parse.proofs.rows.row_of.Goals as goal

pub loop-event-init : goal.loop-event-init
loop-event-init c = record {
  behind = [];
  later = [];
  numbers = [];
  steps = append-nil _;
  lexed = append-nil _;
  named = append-nil _;
  counted = c.requires.tokens;
  paired = c.requires.ids;
  within = c.requires.within;
  made = λ aliases known. c.new-row.ensures;
}

pub open-requires : goal.open-requires
open-requires c =
    its_size c.args.text.now c.args.tokens.now c.args.ids.now c.args.maps.now c.args.events.now c.loop-event.row c.loop-event.events.now
    c.loop-event.tokens.now c.loop-event.ids.now c.loop-event.invariant c.in-Some.front.now c.in-Some.event.now c.in-Some.ensures.cases.0
    c.in-Opened.form c.in-Opened.alternative c.in-Opened.size c.in-Opened.is c.requires.sized

pub loop-event-preserved-in-Opened : goal.loop-event-preserved-in-Opened
loop-event-preserved-in-Opened c =
    row_opened c.args.text.now c.args.tokens.now c.args.ids.now c.args.maps.now c.args.events.now c.loop-event.row c.loop-event.events.now
    c.loop-event.tokens.now c.loop-event.ids.now c.loop-event.invariant c.in-Some.front.now c.in-Some.event.now c.in-Some.ensures.cases.0
    c.in-Opened.form c.in-Opened.alternative c.in-Opened.size c.in_ok-row-in-Opened.row c.in-Opened.is c.in_ok-row-in-Opened.ensures

pub unreachable-requires : goal.unreachable-requires
unreachable-requires c =
    token_left c.args.text.now c.args.tokens.now c.args.ids.now c.args.maps.now c.args.events.now c.loop-event.row c.loop-event.events.now
    c.loop-event.tokens.now c.loop-event.ids.now c.loop-event.invariant c.in-Some.front.now c.in-Some.event.now c.in-Some.ensures.cases.0
    c.in-Took.is c.in_default-split_last.ensures.cases

pub leaf-requires-clause-order : goal.leaf-requires-clause-order
leaf-requires-clause-order c =
    (its_span c.args.text.now c.args.tokens.now c.args.ids.now c.args.maps.now c.args.events.now c.loop-event.row c.loop-event.events.now
    c.loop-event.tokens.now c.loop-event.ids.now c.loop-event.invariant c.in-Some.front.now c.in-Some.event.now c.in-Some.ensures.cases.0
    c.in-Took.is c.in-Some-split_last.before.now c.in-Some-split_last.token.now c.in-Some-split_last-2.earlier.now c.in-Some-split_last-2.id.now
    c.in-Some-split_last.ensures.cases.0 c.in-Some-split_last-2.ensures.cases.0).0

pub leaf-requires-clause-within : goal.leaf-requires-clause-within
leaf-requires-clause-within c =
    (its_span c.args.text.now c.args.tokens.now c.args.ids.now c.args.maps.now c.args.events.now c.loop-event.row c.loop-event.events.now
    c.loop-event.tokens.now c.loop-event.ids.now c.loop-event.invariant c.in-Some.front.now c.in-Some.event.now c.in-Some.ensures.cases.0
    c.in-Took.is c.in-Some-split_last.before.now c.in-Some-split_last.token.now c.in-Some-split_last-2.earlier.now c.in-Some-split_last-2.id.now
    c.in-Some-split_last.ensures.cases.0 c.in-Some-split_last-2.ensures.cases.0).1

pub loop-event-preserved : goal.loop-event-preserved
loop-event-preserved c =
    let p = part_put c.leaf.result c.in_ok-row-in-Took.ensures.ok c.in_ok-row-in-Took.ensures.put c.leaf.ensures in
    row_took c.args.text.now c.args.tokens.now c.args.ids.now c.args.maps.now c.args.events.now c.loop-event.row c.loop-event.events.now
    c.loop-event.tokens.now c.loop-event.ids.now c.loop-event.invariant c.in-Some.front.now c.in-Some.event.now c.in-Some.ensures.cases.0
    c.in-Took.is c.in-Some-split_last.before.now c.in-Some-split_last.token.now c.in-Some-split_last-2.earlier.now c.in-Some-split_last-2.id.now
    c.in-Some-split_last.ensures.cases.0 c.in-Some-split_last-2.ensures.cases.0 p.part c.in_ok-row-in-Took.row p.put p.stands
