-- The tables of the code by names that don't unfold.
use Rattle.std.specs.Prelude.{ℕ, List, map}
use Rattle.sh_grammar.specs.declared.symbols.Symbol.{Symbol}
use Rattle.sh_grammar.specs.declared.symbols.Beginning.{Beginning}
use Rattle.sh_grammar.specs.declared.tables.TheConstants.{SPELLINGS, CLASSES, SPELLING_ROWS, SYMBOLS, STARTS, FIRSTS, CHOICES, ROWS, BEGINNINGS}

unfoldable pub the_spellings : List (List ℕ)
the_spellings = map (λ w. w.now) SPELLINGS

unfoldable pub the_classes : List ℕ
the_classes = CLASSES

unfoldable pub the_spelling_rows : List ℕ
the_spelling_rows = SPELLING_ROWS

unfoldable pub the_symbols : List Symbol
the_symbols = SYMBOLS

unfoldable pub the_starts : List ℕ
the_starts = STARTS

unfoldable pub the_firsts : List ℕ
the_firsts = FIRSTS

unfoldable pub the_choices : List ℕ
the_choices = CHOICES

unfoldable pub the_rows : List ℕ
the_rows = ROWS

unfoldable pub the_beginnings : List Beginning
the_beginnings = BEGINNINGS
