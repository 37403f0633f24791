-- When lexemes are those of printed pieces.
use Rattle.std.specs.Prelude.{ℕ, List, [], ◌∷◌, codes}
use Rattle.sh_base.specs.declared.places.Place.{Place}
use Rattle.sh_grammar.specs.Lexemes.{Lexeme}
use Rattle.sh_lex.specs.declared.tokens.TokenKind.{TokenKind}
use Rattle.sh_lex.specs.declared.tokens.TokenKind.TheVariants.{Sign}
use Rattle.sh_print.specs.Layout.{Piece}
use Rattle.sh_print.specs.Layout.Piece.{apart as piece_apart, closing as piece_closing, line_end as piece_line_end, opening as piece_opening, token as piece_token}

abbrev pub lexeme : TokenKind → List ℕ → Place → Lexeme
lexeme kind text place = record { kind = kind; text = text; place = place }

-- The lexemes are the tokens of these pieces, each at some place.
pub data AreTokensOf : List Piece → List Lexeme → Type 0 where
  none : AreTokensOf [] []
  a_token : {kind : TokenKind} {text : List ℕ} {place : Place} {pieces : List Piece}
      {ts : List Lexeme} → AreTokensOf pieces ts
      → AreTokensOf (piece_token kind text ∷ pieces) (lexeme kind text place ∷ ts)
  an_apart : {place : Place} {pieces : List Piece} {ts : List Lexeme}
      → AreTokensOf pieces ts
      → AreTokensOf (piece_apart ∷ pieces) (lexeme Sign (codes "<") place ∷ ts)
  an_opening : {place : Place} {pieces : List Piece} {ts : List Lexeme}
      → AreTokensOf pieces ts
      → AreTokensOf (piece_opening ∷ pieces) (lexeme Sign (codes "{") place ∷ ts)
  a_closing : {place : Place} {pieces : List Piece} {ts : List Lexeme}
      → AreTokensOf pieces ts
      → AreTokensOf (piece_closing ∷ pieces) (lexeme Sign (codes "}") place ∷ ts)
  a_line_end : {pieces : List Piece} {ts : List Lexeme}
      → AreTokensOf pieces ts
      → AreTokensOf (piece_line_end ∷ pieces) ts
