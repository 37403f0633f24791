-- The tables of the code as the lists that the definitions speak of.
use Rattle.std.specs.Prelude.{nat_lt, if◌then◌else◌, ℕ, ◌-◌, List, [], ◌∷◌, reverse, take, drop, get_or, Bool, true, cond, nat_le}
use Rattle.sh_grammar.specs.declared.symbols.Symbol.{Symbol}
use Rattle.sh_lex.specs.declared.tokens.TokenKind.{TokenKind}
use Rattle.sh_lex.specs.declared.tokens.TokenKind.TheVariants.{Word, Sign, Dim, Bang, Hash}
use Rattle.sh_grammar.specs.Forms.{number}
use Rattle.sh_grammar.specs.Lexemes.{Spelling}
use Rattle.sh_grammar.specs.Grammar.{Grammar}
use Rattle.sh_grammar.specs.declared.symbols.Beginning.{Beginning}
use Rattle.sh_grammar.specs.declared.symbols.Beginning.TheVariants.{Operation, Empty, Other}
use Rattle.sh_grammar.specs.Predictive.{Facts, ◌&◌}

-- the pieces of a list: the first begins at the place a, and each ends at the next of these places
abbrev pub pieces_from : {X : Type 0} → List X → ℕ → List ℕ → List (List X)
pieces_from xs a [] = []
pieces_from xs a (b ∷ cuts) = take (b - a) (drop a xs) ∷ pieces_from xs b cuts

-- a list cut at these places: one piece from each place to the next
abbrev pub pieces : {X : Type 0} → List X → List ℕ → List (List X)
pieces xs [] = []
pieces xs (a ∷ cuts) = pieces_from xs a cuts

-- the places are in order, and the last is within n
abbrev pub rise_from : ℕ → ℕ → List ℕ → Bool
rise_from n a [] = nat_le a n
rise_from n a (b ∷ cuts) = nat_le a b & rise_from n b cuts

abbrev pub rise : ℕ → List ℕ → Bool
rise n [] = true
rise n (a ∷ cuts) = rise_from n a cuts

-- the grammar of a table: the symbols, where each alternative begins, and where the alternatives of
-- each form begin
abbrev pub grammar_of : List Symbol → List ℕ → List ℕ → Grammar
grammar_of symbols starts firsts n = get_or (pieces (pieces symbols starts) firsts) (number n) []

-- a stack in a vector, whose top is its last item
abbrev pub stack_of : List Symbol → List Symbol
stack_of items = reverse items

-- how a form begins, by what is known of it
abbrev pub beginning_of : Facts → Beginning
beginning_of f = cond f.begins Operation (cond f.empty Empty Other)

-- the row in which the spellings of a kind and a length stand: words by their length, row 32 empty
abbrev pub row_of : TokenKind → ℕ → ℕ
row_of Word n = if nat_lt n 32 then n else 32
row_of Sign n = 33
row_of Dim n = 34
row_of Bang n = 35
row_of Hash n = 36
row_of _ n = 32

-- texts and their classes
abbrev pub spelled : List (List ℕ) → List ℕ → List Spelling
spelled [] classes = []
spelled (text ∷ texts) [] = []
spelled (text ∷ texts) (class ∷ classes) =
    record { text = text; class = class } ∷ spelled texts classes
