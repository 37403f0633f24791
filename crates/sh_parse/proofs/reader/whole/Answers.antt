use Rattle.std.proofs.Common.{◌∙◌, ap, sym, length, subst}
use Rattle.sh_grammar.specs.Lexemes.{lexemes}
use Rattle.sh_names.specs.Tables.{IsPassed}
use Rattle.sh_parse.proofs.Answering.{all_within, broken_within, count_lexemes, file_by, ids_counted, module_read, whole_broken}
use Rattle.sh_parse.proofs.FileParts.{by_tooks}
use Rattle.sh_parse.proofs.reader.whole.Goals as goal

pub number_names-requires : goal.number_names-requires
number_names-requires c = all_within c.requires.tokens

pub refusal_at-requires : goal.refusal_at-requires
refusal_at-requires c =
    broken_within c.args.text.now c.args.tokens.now c.args.events.now c.in-Broken.at
    (subst (IsPassed c.args.events.now (lexemes c.args.text.now c.args.tokens.now)) c.in-Broken.is c.in_ok-at.ensures)

pub returns-in-Broken-clause-refused : goal.returns-in-Broken-clause-refused
returns-in-Broken-clause-refused c =
    whole_broken c.args.text.now c.args.tokens.now c.args.events.now c.in-Broken.at c.refusal_at.result c.requires.file
    (subst (IsPassed c.args.events.now (lexemes c.args.text.now c.args.tokens.now)) c.in-Broken.is c.in_ok-at.ensures) c.refusal_at.ensures

pub module_of-requires-clause-within : goal.module_of-requires-clause-within
module_of-requires-clause-within c = all_within c.requires.tokens

pub module_of-requires-clause-ids : goal.module_of-requires-clause-ids
module_of-requires-clause-ids c =
    let passed = subst (IsPassed c.args.events.now (lexemes c.args.text.now c.args.tokens.now)) c.in-Kept.is c.in_ok-at.ensures in
    let file = file_by (lexemes c.args.text.now c.args.tokens.now) c.args.events.now c.requires.file in
    ap length c.as_slice.ensures.value
    ∙ ids_counted c.in-Kept.ids.items c.args.events.now (lexemes c.args.text.now c.args.tokens.now)
    (by_tooks c.args.text.now c.args.tokens.now c.args.events.now file ∙ sym (count_lexemes c.args.text.now c.args.tokens.now)) passed.1
    ∙ count_lexemes c.args.text.now c.args.tokens.now

pub returns-in_ok-module_of-in-Kept-clause-module : goal.returns-in_ok-module_of-in-Kept-clause-module
returns-in_ok-module_of-in-Kept-clause-module c =
    let passed = subst (IsPassed c.args.events.now (lexemes c.args.text.now c.args.tokens.now)) c.in-Kept.is c.in_ok-at.ensures in
    module_read (lexemes c.args.text.now c.args.tokens.now) c.args.events.now c.as_slice.result.now c.in_ok-module_of-in-Kept.field-0 c.requires.file
    (passed.0, c.as_slice.ensures.value ∙ passed.1) c.in_ok-module_of-in-Kept.ensures
