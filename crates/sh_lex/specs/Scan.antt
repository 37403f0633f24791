-- How the lexer sorts bytes, and what it finds at the front of a text.
use Rattle.std.specs.Prelude.{◌≡◌, ℕ, ◌+◌, ◌<◌, ◌≤◌, ◌^◌, Bool, if◌then◌else◌, nat_eq, List, [], ◌∷◌, length, Result, MatchResult}
use Rattle.sh_base.specs.declared.places.Place.{Place}
use Rattle.sh_lex.specs.declared.tokens.TokenKind.{TokenKind}
use Rattle.sh_lex.specs.declared.tokens.TokenKind.TheVariants.{Val, At, Hash, Block, Bang}
use Rattle.sh_lex.specs.declared.tokens.LexRefusal.{LexRefusal}
use Rattle.sh_lex.specs.declared.bytes.Class.{Class}
use Rattle.sh_lex.specs.declared.bytes.Class.TheVariants.{Name, ValueName, Digits, Inside, Line}
use Rattle.sh_lex.specs.declared.bytes.Lead.{Lead}
use Rattle.sh_lex.specs.declared.bytes.Lead.TheVariants.{Letter, Mark, Digit, Question, Quote, Punctuation, Other}
use Rattle.sh_lex.specs.declared.positions.Position.{Position}
use Rattle.sh_lex.specs.Tokens.{is_letter, is_digit, is_name_byte, is_value_byte, is_string_byte, is_line_byte, is_line_feed, is_sign_byte, place_at, IsFront, IsFault, leading_value}

-- whether a byte is of the class
abbrev pub is_in : Class → ℕ → Bool
is_in Name = is_name_byte
is_in ValueName = is_value_byte
is_in Digits = is_digit
is_in Inside = is_string_byte
is_in Line = is_line_byte

-- what can begin with a byte
unfoldable pub lead_of : ℕ → Lead
lead_of b =
    if is_letter b then Letter
    else (if is_digit b then Digit
    else (if nat_eq b 37 then Mark Val
    else (if nat_eq b 64 then Mark At
    else (if nat_eq b 35 then Mark Hash
    else (if nat_eq b 94 then Mark Block
    else (if nat_eq b 33 then Mark Bang
    else (if nat_eq b 63 then Question
    else (if nat_eq b 34 then Quote
    else (if is_sign_byte b then Punctuation
    else Other)))))))))

-- the bytes begin with a byte of this sort
abbrev pub Leads : Lead → List ℕ → Type 0
Leads lead [] = ⊥
Leads lead (b ∷ bytes) = lead_of b ≡ lead

-- the bytes of the name behind a mark
abbrev pub class_of : TokenKind → Class
class_of Val = ValueName
class_of _ = Name

-- the kind and the length of the token at the front of the rest, or what is wrong there
abbrev pub IsReading : List ℕ → Place → Result (TokenKind × ℕ) LexRefusal → Type 0
IsReading rest place found =
    MatchResult found (λ t. IsFront rest t.0 t.1 × (leading_value rest < 2 ^ 64)) (λ why. IsFault rest place why)

-- the place behind a byte
abbrev pub place_past : Place → ℕ → Place
place_past place b = if is_line_feed b then record { line = place.line + 1; column = 1 } else record { line = place.line; column = place.column + 1 }

-- the position is a byte of the text, or its end, and the place there
pub record IsAt (text : List ℕ) (position : Position) : Type 0 where
  pub within : position.offset ≤ length text
  pub place : position.place ≡ place_at text position.offset
