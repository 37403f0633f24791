use Rattle.sh_grammar.specs.Lexemes.{lexemes}
use Rattle.sh_parse.proofs.Answering.{all_within, front_within, passed_so, stopped_broken, stopped_kept, stopped_within}
use Rattle.sh_parse.proofs.reader.stopped.Goals as goal

pub number_names-requires : goal.number_names-requires
number_names-requires c =
    front_within c.args.text.now c.args.stop.now.token c.args.tokens.now c.split_at.result.0.now c.split_at.ensures.front
    (all_within c.requires.tokens)

pub refusal_at-requires : goal.refusal_at-requires
refusal_at-requires c =
    stopped_within c.args.text.now c.args.tokens.now c.split_at.result.0.now c.args.stop.now.token c.args.stop.now.rule c.args.stop.now.events.items
    c.requires.stop c.split_at.ensures.front c.in-Ok-Broken.at
    (passed_so (lexemes c.args.text.now c.split_at.result.0.now) c.as_slice.ensures.value c.in-Ok-Broken.field-0-is c.in-Ok-Broken.ensures)

pub returns-in-Ok-Broken : goal.returns-in-Ok-Broken
returns-in-Ok-Broken c =
    stopped_broken c.args.text.now c.args.tokens.now c.split_at.result.0.now c.args.stop.now.token c.args.stop.now.rule c.args.stop.now.events.items
    c.requires.stop c.split_at.ensures.front c.refusal_at.result c.in-Ok-Broken.at
    (passed_so (lexemes c.args.text.now c.split_at.result.0.now) c.as_slice.ensures.value c.in-Ok-Broken.field-0-is c.in-Ok-Broken.ensures)
    c.refusal_at.ensures

pub returns-in-Ok-Kept : goal.returns-in-Ok-Kept
returns-in-Ok-Kept c =
    stopped_kept c.args.text.now c.args.tokens.now c.split_at.result.0.now c.args.stop.now.token c.args.stop.now.rule c.args.stop.now.events.items
    c.requires.stop c.split_at.ensures.front c.refusal_at-in-Ok-Kept.result c.in-Ok-Kept.field-0-0.items
    (passed_so (lexemes c.args.text.now c.split_at.result.0.now) c.as_slice.ensures.value c.in-Ok-Kept.field-0-is c.in-Ok-Kept.ensures)
    c.refusal_at-in-Ok-Kept.ensures
