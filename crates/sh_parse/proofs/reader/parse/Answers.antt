use Rattle.sh_grammar.specs.Lexemes.{lexemes}
use Rattle.sh_parse.proofs.Answering.{answer_modules, answer_read, answer_refusals, tokens_read}
use Rattle.sh_parse.proofs.formed.FilesFormed.{formed_answer}
use Rattle.sh_parse.proofs.reader.parse.Goals as goal

pub returns-clause-module : goal.returns-clause-module
returns-clause-module c = answer_read c.args.text.now c.args.tokens.now c.requires c.answer.result c.answer.ensures.module

pub returns-clause-formed : goal.returns-clause-formed
returns-clause-formed c = formed_answer c.args.text.now c.answer.result
    (answer_read c.args.text.now c.args.tokens.now c.requires c.answer.result c.answer.ensures.module)

pub returns-clause-all_modules : goal.returns-clause-all_modules
returns-clause-all_modules c = λ m read.
    answer_modules (lexemes c.args.text.now c.args.tokens.now) c.answer.result c.answer.ensures.module c.answer.ensures.refused m
    (tokens_read c.args.text.now c.args.tokens.now m c.requires read)

pub returns-clause-all_refusals : goal.returns-clause-all_refusals
returns-clause-all_refusals c =
    answer_refusals (lexemes c.args.text.now c.args.tokens.now) c.answer.result c.answer.ensures.module c.answer.ensures.refused
