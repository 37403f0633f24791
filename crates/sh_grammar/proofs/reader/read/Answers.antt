use Rattle.std.proofs.Common.{◌∙◌, subst, IfOk}
use Rattle.sh_grammar.specs.Answer.{IsReading}
use Rattle.sh_grammar.specs.Grammar.{Grammar}
use Rattle.sh_grammar.specs.Language.{text_of_file}
use Rattle.sh_grammar.specs.Lexemes.{lexemes}
use Rattle.sh_grammar.proofs.Served.{grammar_by, served_by, beginnings_known}
use Rattle.sh_grammar.proofs.reader.read.Goals as goal

pub run-requires : goal.run-requires
run-requires c =
    let t = c.language_table.ensures in
    (c.requires, (t.beginnings ∙ beginnings_known, served_by _ _ _ _ _ t.symbols t.starts t.firsts t.choices t.rows))

pub returns : goal.returns
returns c =
    let t = c.language_table.ensures in
    let P : Grammar → Type 0 = λ g. IfOk c.run.result (IsReading g text_of_file (lexemes c.args.text.now c.args.tokens.now)) in
    subst P (grammar_by _ _ _ t.symbols t.starts t.firsts) c.run.ensures
