-- The tokens of a text: the bytes of each kind, what stands between tokens, and that the longest token is taken.
use Rattle.std.specs.Prelude.{◌≡◌, ◌≢◌, ℕ, ◌+◌, ◌-◌, ◌*◌, ◌^◌, ◌<◌, ◌≤◌, ◌⊎◌, Bool, true, false, not, ◌||◌, nat_eq, List, [], ◌∷◌, ◌++◌, length, take, drop, reverse, codes, count_by, fold, slice_range}
use Rattle.std.specs.List.{AllByRecursion, list_any, prefix_len, starts_with, take_while}
use Rattle.std.specs.Char.{is_ascii_alphabetic, is_ascii_digit}
use Rattle.sh_base.specs.declared.places.Place.{Place}
use Rattle.sh_lex.specs.declared.tokens.TokenKind.{TokenKind}
use Rattle.sh_lex.specs.declared.tokens.TokenKind.TheVariants.{Word, Val, At, Hash, Block, Bang, Number, Dim, Str, Sign, End}
use Rattle.sh_lex.specs.declared.tokens.Token.{Token}
use Rattle.sh_lex.specs.declared.tokens.LexRefusal.{LexRefusal}
use Rattle.sh_lex.specs.declared.tokens.LexRefusal.TheVariants.{BadByte, OpenString, NumberTooWide, Mem}

-- ## Bytes

-- a space, a tab, a carriage return or a line feed
unfoldable pub is_blank : ℕ → Bool
is_blank b = list_any (nat_eq b) (32 ∷ 9 ∷ 13 ∷ 10 ∷ [])

unfoldable pub is_line_feed : ℕ → Bool
is_line_feed b = nat_eq b 10

-- a byte that stays on the line
unfoldable pub is_line_byte : ℕ → Bool
is_line_byte b = not (nat_eq b 10)

-- a letter or `_`
unfoldable pub is_letter : ℕ → Bool
is_letter b = is_ascii_alphabetic b || nat_eq b 95

unfoldable pub is_digit : ℕ → Bool
is_digit b = is_ascii_digit b

-- a letter, a digit, `_`, `.` or `$`
unfoldable pub is_name_byte : ℕ → Bool
is_name_byte b = is_letter b || is_digit b || nat_eq b 46 || nat_eq b 36

-- in the name of a value `-` may stand too
unfoldable pub is_value_byte : ℕ → Bool
is_value_byte b = is_name_byte b || nat_eq b 45

-- a byte inside a string: no `"`, no `\` and no line feed
unfoldable pub is_string_byte : ℕ → Bool
is_string_byte b = not (list_any (nat_eq b) (34 ∷ 92 ∷ 10 ∷ []))

-- a sign of one byte
unfoldable pub is_sign_byte : ℕ → Bool
is_sign_byte b = list_any (nat_eq b) (codes "(){}[]<>,:=+*-")

-- every byte passes
abbrev pub Each : (ℕ → Bool) → List ℕ → Type 0
Each p bytes = AllByRecursion (λ b. p b ≡ true) bytes

-- the first byte, if there is one, doesn't pass
abbrev pub Stops : (ℕ → Bool) → List ℕ → Type 0
Stops p [] = Unit {0}
Stops p (b ∷ bytes) = p b ≡ false

-- ## Between tokens

-- `//`, and bytes that stay on the line
abbrev pub IsComment : List ℕ → Type 0
IsComment line = (starts_with nat_eq line (codes "//") ≡ true) × Each is_line_byte line

-- A blank, or a comment: `//` and what follows up to the line's end, or up to the end of the text.
pub data IsGapPart : List ℕ → List ℕ → Type 0 where
  blank : {b : ℕ} {after : List ℕ} → is_blank b ≡ true → IsGapPart (b ∷ []) after
  comment : {line after : List ℕ} → IsComment line → Stops is_line_byte after → IsGapPart line after

-- whether a blank or a comment begins here
abbrev pub begins_gap : List ℕ → Bool
begins_gap [] = false
begins_gap (b ∷ bytes) = is_blank b || starts_with nat_eq (b ∷ bytes) (codes "//")

-- These bytes are blanks and comments, and the bytes after them begin with neither.
pub data IsGap (after : List ℕ) : List ℕ → Type 0 where
  nothing : begins_gap after ≡ false → IsGap after []
  more : {part gap bytes : List ℕ} → IsGapPart part (gap ++ after) → IsGap after gap → bytes ≡ part ++ gap → IsGap after bytes

-- ## The bytes of a token

-- one or more bytes, and all pass
abbrev pub IsRun : (ℕ → Bool) → List ℕ → Type 0
IsRun p [] = ⊥
IsRun p (b ∷ bytes) = Each p (b ∷ bytes)

-- a letter, and then bytes of names
abbrev pub IsWord : List ℕ → Type 0
IsWord [] = ⊥
IsWord (b ∷ bytes) = (is_letter b ≡ true) × Each is_name_byte bytes

-- the mark, and then one or more bytes that pass
abbrev pub IsNamed : ℕ → (ℕ → Bool) → List ℕ → Type 0
IsNamed mark p [] = ⊥
IsNamed mark p (b ∷ name) = (b ≡ mark) × IsRun p name

-- digits and `x`, or `?x`
abbrev pub IsDim : List ℕ → Type 0
IsDim bytes = ((digits : List ℕ) × IsRun is_digit digits × (bytes ≡ digits ++ codes "x")) ⊎ (bytes ≡ codes "?x")

-- bytes of strings between two quotes, which are byte 34
abbrev pub IsString : List ℕ → Type 0
IsString bytes = (inside : List ℕ) × Each is_string_byte inside × (bytes ≡ 34 ∷ (inside ++ 34 ∷ []))

-- a byte that is a sign, or `->`
abbrev pub IsSign : List ℕ → Type 0
IsSign bytes = ((b : ℕ) × (is_sign_byte b ≡ true) × (bytes ≡ b ∷ [])) ⊎ (bytes ≡ codes "->")

-- These bytes are a token of this kind. The marks are `%`, `@`, `#`, `^` and `!`. `End` has no bytes, and stands where the text ends.
abbrev pub Spells : TokenKind → List ℕ → Type 0
Spells Word bytes = IsWord bytes
Spells Val bytes = IsNamed 37 is_value_byte bytes
Spells At bytes = IsNamed 64 is_name_byte bytes
Spells Hash bytes = IsNamed 35 is_name_byte bytes
Spells Block bytes = IsNamed 94 is_name_byte bytes
Spells Bang bytes = IsNamed 33 is_name_byte bytes
Spells Number bytes = IsRun is_digit bytes
Spells Dim bytes = IsDim bytes
Spells Str bytes = IsString bytes
Spells Sign bytes = IsSign bytes
Spells End bytes = ⊥

-- The first `len` bytes are a token of this kind, and no longer front is a token of any kind.
pub record IsFront (rest : List ℕ) (kind : TokenKind) (len : ℕ) : Type 0 where
  pub within : len ≤ length rest
  pub spelled : Spells kind (take len rest)
  pub longest : (other : TokenKind) (n : ℕ) → n ≤ length rest → Spells other (take n rest) → n ≤ len

-- no front is a token
abbrev pub StartsNone : List ℕ → Type 0
StartsNone rest = (kind : TokenKind) (n : ℕ) → n ≤ length rest → Spells kind (take n rest) → ⊥

-- the number that decimal digits stand for
abbrev pub decimal_of : List ℕ → ℕ
decimal_of digits = fold (λ n d. n * 10 + (d - 48)) 0 digits

-- the value of the digits at the front, 0 where there are none
abbrev pub leading_value : List ℕ → ℕ
leading_value rest = decimal_of (take_while is_digit rest)

-- ## The tokens of a text

-- the place behind these bytes: lines and columns count from 1, columns in bytes
abbrev pub place_behind : List ℕ → Place
place_behind before = record {
  line = count_by is_line_feed before + 1;
  column = prefix_len is_line_byte (reverse before) + 1;
}

-- the place of byte n
abbrev pub place_at : List ℕ → ℕ → Place
place_at text n = place_behind (take n text)

-- only a gap stands between byte `from` and byte `to`
pub record AreGap (text : List ℕ) (from to : ℕ) : Type 0 where
  pub order : from ≤ to
  pub within : to ≤ length text
  pub gap : IsGap (drop to text) (slice_range text from to)

-- From byte `from` on, the token is the next.
pub record IsNext (text : List ℕ) (from : ℕ) (token : Token) : Type 0 where
  pub gap : AreGap text from token.start
  pub place : token.place ≡ place_at text token.start
  pub order : token.start ≤ token.end
  pub front : IsFront (drop token.start text) token.kind (token.end - token.start)
  pub narrow : leading_value (drop token.start text) < 2 ^ 64

-- From byte `from` on there is no token, and this one marks the end of the text.
pub record IsEnd (text : List ℕ) (from : ℕ) (token : Token) : Type 0 where
  pub gap : AreGap text from (length text)
  pub marks_end : token ≡ record { kind = End; start = length text; end = length text; place = place_at text (length text) }

-- From byte `from` on, the text has these tokens.
pub data HasTokensFrom (text : List ℕ) : ℕ → List Token → Type 0 where
  at_end : {from : ℕ} {token : Token} → IsEnd text from token → HasTokensFrom text from (token ∷ [])
  at_token : {from : ℕ} {token : Token} {tokens : List Token}
      → IsNext text from token → HasTokensFrom text token.end tokens → HasTokensFrom text from (token ∷ tokens)

-- The text has these tokens.
abbrev pub HasTokens : List ℕ → List Token → Type 0
HasTokens text tokens = HasTokensFrom text 0 tokens

-- From byte `from` on, the spans stand in order, each token's bytes are its slice, and `End` is last and only there.
abbrev pub AreSpans : List ℕ → ℕ → List Token → Type 0
AreSpans text from [] = ⊥
AreSpans text from (t ∷ []) = (from ≤ t.start) × (t.kind ≡ End) × (t.start ≡ length text) × (t.end ≡ length text)
AreSpans text from (t ∷ u ∷ tokens) =
    (from ≤ t.start) × (t.start < t.end) × (t.end ≤ length text) × Spells t.kind (slice_range text t.start t.end) × AreSpans text t.end (u ∷ tokens)

-- ## Texts without tokens

-- what is wrong where a token is due, and its place
abbrev pub IsFault : List ℕ → Place → LexRefusal → Type 0
IsFault [] due why = ⊥
IsFault (b ∷ bytes) due (BadByte place) = (place ≡ due) × StartsNone (b ∷ bytes) × (b ≢ 34)
IsFault (b ∷ bytes) due (OpenString place) = (place ≡ due) × StartsNone (b ∷ bytes) × (b ≡ 34)
IsFault (b ∷ bytes) due (NumberTooWide place) = (place ≡ due) × (2 ^ 64 ≤ leading_value (b ∷ bytes))
IsFault (b ∷ bytes) due Mem = ⊥

-- From byte `from` on, the next token is due at a byte where this is wrong.
pub record IsStopped (text : List ℕ) (from : ℕ) (why : LexRefusal) : Type 0 where
  pub due : ℕ
  pub gap : AreGap text from due
  pub fault : IsFault (drop due text) (place_at text due) why

-- From byte `from` on, the text has tokens up to a byte where this is wrong.
pub data IsRefusedFrom (text : List ℕ) : ℕ → LexRefusal → Type 0 where
  at_fault : {from : ℕ} {why : LexRefusal} → IsStopped text from why → IsRefusedFrom text from why
  behind_token : {from : ℕ} {token : Token} {why : LexRefusal}
      → IsNext text from token → IsRefusedFrom text token.end why → IsRefusedFrom text from why

-- The text has no tokens: this is the first fault.
abbrev pub IsRefused : List ℕ → LexRefusal → Type 0
IsRefused text why = IsRefusedFrom text 0 why
