-- That a text has exactly the tokens that it is laid out of.
use Rattle.std.specs.Prelude.{◌≡◌, ◌≢◌, ℕ, ◌-◌, ◌^◌, ◌<◌, List, [], ◌∷◌, ◌++◌, codes, drop, map, take}
use Rattle.std.specs.List.{AllByRecursion}
use Rattle.sh_lex.specs.Tokens.{HasTokens, Spells, leading_value}
use Rattle.sh_lex.specs.declared.tokens.Token.{Token}
use Rattle.sh_lex.specs.declared.tokens.TokenKind.{TokenKind}
use Rattle.sh_lex.specs.declared.tokens.TokenKind.TheVariants.{End, Sign}
use Rattle.sh_print.specs.Layout.{Piece, bytes_of, layout}
use Rattle.sh_print.specs.Layout.Piece.{apart, closing, line_end, opening, token}
use Rattle.sh_print.specs.Tokens.{text_of, tokens_of}
use Rattle.sh_ir.specs.Formed.{IsFormed}
use Rattle.sh_ir.specs.declared.modules.Module.{Module}

-- A token by its kind and its bytes, wherever it stands.
pub record Spelling : Type 0 where
  pub kind : TokenKind
  pub text : List ℕ

abbrev pub spelling : TokenKind → List ℕ → Spelling
spelling kind text = record { kind = kind; text = text }

-- the tokens of these pieces
abbrev pub spellings_of : List Piece → List Spelling
spellings_of [] = []
spellings_of (token kind text ∷ pieces) = spelling kind text ∷ spellings_of pieces
spellings_of (apart ∷ pieces) = spelling Sign (codes "<") ∷ spellings_of pieces
spellings_of (opening ∷ pieces) = spelling Sign (codes "{") ∷ spellings_of pieces
spellings_of (closing ∷ pieces) = spelling Sign (codes "}") ∷ spellings_of pieces
spellings_of (line_end ∷ pieces) = spellings_of pieces

-- the bytes are those of a token of the kind, and its number fits
abbrev pub IsSpelled : Spelling → Type 0
IsSpelled x = Spells x.kind x.text × (leading_value x.text < 2 ^ 64)

-- `>` may not stand behind `-`, since the two would be one sign
abbrev pub MayFollow : Piece → Piece → Type 0
MayFollow before piece = bytes_of before ≡ codes "-" → bytes_of piece ≢ codes ">"

abbrev pub EachMayFollow : List Piece → Type 0
EachMayFollow [] = Unit {0}
EachMayFollow (piece ∷ []) = Unit {0}
EachMayFollow (piece ∷ next ∷ pieces) = MayFollow piece next × EachMayFollow (next ∷ pieces)

-- the pieces can be told apart once they are laid out
pub record CanBeRead (pieces : List Piece) : Type 0 where
  pub spelled : AllByRecursion IsSpelled (spellings_of pieces)
  pub follow : EachMayFollow pieces

-- a token of a text
abbrev pub spelling_in : List ℕ → Token → Spelling
spelling_in text t = spelling t.kind (take (t.end - t.start) (drop t.start text))

-- the text has these tokens, and then the end
pub record HasSpellings (text : List ℕ) (spellings : List Spelling) : Type 0 where
  pub tokens : List Token
  pub has : HasTokens text tokens
  pub same : map (spelling_in text) tokens ≡ spellings ++ spelling End [] ∷ []

abbrev pub LayoutLaw : Type 0
LayoutLaw =
    (pieces : List Piece) → CanBeRead pieces
    → HasSpellings (layout pieces) (spellings_of pieces)

-- so has the text of each formed module
abbrev pub PrintedLaw : Type 0
PrintedLaw = (m : Module) → IsFormed m → HasSpellings (text_of m) (spellings_of (tokens_of m))
