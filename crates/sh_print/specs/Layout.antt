-- How a list of tokens is laid out as a text.
use Rattle.std.specs.Prelude.{ℕ, suc, ◌*◌, ◌-◌, Bool, false, ◌||◌, if◌then◌else◌, nat_eq, List, [], ◌∷◌, ◌++◌, replicate, codes}
use Rattle.std.specs.List.{list_any}
use Rattle.sh_lex.specs.declared.tokens.TokenKind.{TokenKind}
use Rattle.sh_lex.specs.declared.tokens.TokenKind.TheVariants.{Word, Val, At, Hash, Block, Bang, Number, Dim, Str, Sign, End}
use Rattle.sh_print.specs.declared.behind.Behind.{Behind}
use Rattle.sh_print.specs.declared.behind.Behind.TheVariants.{LineStart, Joint, Arrow, Other}

-- What a text is made of: tokens, and marks of where lines and blocks begin and end.
pub data Piece : Type 0 where
  token : TokenKind → List ℕ → Piece  -- a token of this kind, with this text
  apart : Piece  -- a `<` with a blank before it
  opening : Piece  -- the `{` of a module, a function or a region
  closing : Piece  -- its `}`
  line_end : Piece  -- the line ends here

abbrev pub blank : List ℕ
blank = codes " "

-- whether the token is one of these signs of one byte
abbrev pub is_sign_in : List ℕ → TokenKind → List ℕ → Bool
is_sign_in signs Sign (b ∷ []) = list_any (nat_eq b) signs
is_sign_in signs Sign [] = false
is_sign_in signs Sign (b ∷ c ∷ bytes) = false
is_sign_in signs Word text = false
is_sign_in signs Val text = false
is_sign_in signs At text = false
is_sign_in signs Hash text = false
is_sign_in signs Block text = false
is_sign_in signs Bang text = false
is_sign_in signs Number text = false
is_sign_in signs Dim text = false
is_sign_in signs Str text = false
is_sign_in signs End text = false

-- no blank stands before these, and none before `(` unless after `->`
abbrev pub joins : TokenKind → List ℕ → Bool
joins = is_sign_in (codes ")]>,<")

abbrev pub opens_list : TokenKind → List ℕ → Bool
opens_list = is_sign_in (codes "(")

-- no blank stands after these signs, nor after the extent of a dimension
abbrev pub behind_sign : List ℕ → Behind
behind_sign [] = Other
behind_sign (b ∷ []) = if list_any (nat_eq b) (codes "([<-") then Joint else Other
behind_sign (b ∷ c ∷ bytes) = Arrow

abbrev pub behind_token : TokenKind → List ℕ → Behind
behind_token Word text = Other
behind_token Val text = Other
behind_token At text = Other
behind_token Hash text = Other
behind_token Block text = Other
behind_token Bang text = Other
behind_token Number text = Other
behind_token Dim text = Joint
behind_token Str text = Other
behind_token Sign text = behind_sign text
behind_token End text = Other

-- what the next token stands behind, by the piece before it
abbrev pub behind_piece : Piece → Behind
behind_piece (token kind text) = behind_token kind text
behind_piece apart = Joint
behind_piece opening = LineStart
behind_piece closing = Other
behind_piece line_end = LineStart

-- two blanks for each open brace
abbrev pub indent : ℕ → List ℕ
indent depth = replicate (2 * depth) 32

-- what stands before a token, by what it stands behind, the indentation, whether it joins, and
-- whether it is `(`
abbrev pub gap_behind : Behind → List ℕ → Bool → Bool → List ℕ
gap_behind LineStart indentation joins opens = indentation
gap_behind Joint indentation joins opens = []
gap_behind Arrow indentation joins opens = if joins then [] else blank
gap_behind Other indentation joins opens = if joins || opens then [] else blank

-- what stands before a piece, by the number of open braces and the piece before it; the closing
-- brace is indented as the line with the opening one
abbrev pub gap : ℕ → Piece → Piece → List ℕ
gap depth before (token kind text) =
    gap_behind (behind_piece before) (indent depth) (joins kind text) (opens_list kind text)
gap depth before apart = blank
gap depth before opening = gap_behind (behind_piece before) (indent depth) false false
gap depth before closing = indent (depth - 1)
gap depth before line_end = []

abbrev pub bytes_of : Piece → List ℕ
bytes_of (token kind text) = text
bytes_of apart = codes "<"
bytes_of opening = codes "{\n"
bytes_of closing = codes "}"
bytes_of line_end = codes "\n"

-- how many braces are open behind a piece
abbrev pub depth_behind : ℕ → Piece → ℕ
depth_behind depth (token kind text) = depth
depth_behind depth apart = depth
depth_behind depth opening = suc depth
depth_behind depth closing = depth - 1
depth_behind depth line_end = depth

-- the text of these pieces, by the number of open braces and the piece before them
unfoldable pub layout_behind : ℕ → Piece → List Piece → List ℕ
layout_behind depth before [] = []
layout_behind depth before (piece ∷ pieces) =
    gap depth before piece
    ++ (bytes_of piece ++ layout_behind (depth_behind depth piece) piece pieces)

-- the text of these pieces, which begins a line
abbrev pub layout : List Piece → List ℕ
layout pieces = layout_behind 0 line_end pieces
