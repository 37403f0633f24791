-- The grammar that a table has, and its choices.
use Rattle.std.specs.Prelude.{ℕ, List}
use Rattle.sh_grammar.specs.declared.table.Table.{Table}
use Rattle.sh_grammar.specs.Grammar.{Grammar}
use Rattle.sh_grammar.specs.Views.{grammar_of, pieces}

abbrev pub rules_of : Table → Grammar
rules_of table = grammar_of table.symbols.now table.starts.now table.firsts.now

abbrev pub choices_of : Table → List (List ℕ)
choices_of table = pieces table.choices.now table.rows.now
