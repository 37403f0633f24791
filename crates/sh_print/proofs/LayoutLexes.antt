-- The text of pieces that can be read has exactly their tokens.
use Rattle.std.proofs.Common.{◌≡◌, ◌≢◌, ℕ, zero, suc, ◌+◌, ◌*◌, ◌-◌, ◌^◌, ◌<◌, ◌≤◌, inl, inr, Bool, true, false, ◌||◌, if◌then◌else◌, nat_eq, List, [], ◌∷◌, ◌++◌, length, take, drop, get_or, map, replicate, codes, slice_range, Ok, refl, sym, ap, ap₂, ◌∙◌, subst, arith, append_assoc, length-append, length-drop, le_refl, lit<}
use Rattle.std.specs.List.{AllByRecursion, list_any, starts_with}
use Rattle.std.proofs.Math.Seq.{take-append_seam, drop-append_seam}
use Rattle.std.proofs.lemmas.Bool.{cases_Bool, eqb-true}
use Rattle.std.proofs.lemmas.List.{drop-drop}
use Rattle.sh_lex.specs.declared.tokens.Token.{Token}
use Rattle.sh_lex.specs.declared.tokens.TokenKind.{TokenKind}
use Rattle.sh_lex.specs.declared.tokens.TokenKind.TheVariants.{Word, Val, At, Hash, Block, Bang, Number, Dim, Str, Sign, End}
use Rattle.sh_lex.specs.Tokens.{is_blank, is_value_byte, is_name_byte, is_letter, is_digit, is_sign_byte, begins_gap, Each, Stops, IsGapPart, blank, IsGap, Spells, leading_value, place_at, AreGap, IsNext, IsEnd, HasTokensFrom, at_end, at_token}
use Rattle.sh_lex.specs.Scan.{lead_of}
use Rattle.sh_lex.proofs.GapLemmas.{gap_ends, gap_more}
use Rattle.sh_lex.proofs.LeadLemmas.{Suits, suits}
use Rattle.sh_lex.proofs.FrontLemmas.{spells_some}
use Rattle.sh_print.specs.declared.behind.Behind.{Behind}
use Rattle.sh_print.specs.declared.behind.Behind.TheVariants.{LineStart, Joint, Arrow, Other as OtherToken}
use Rattle.sh_print.specs.Layout.{Piece, behind_piece, bytes_of, depth_behind, gap, gap_behind, indent, is_sign_in, joins, layout, layout_behind, opens_list}
use Rattle.sh_print.specs.Layout.Piece.{apart, closing, line_end, opening, token}
use Rattle.sh_print.specs.LayoutLaw.{Spelling, spelling, spellings_of, IsSpelled, MayFollow, EachMayFollow, CanBeRead, spelling_in, HasSpellings}
use Rattle.sh_print.proofs.TokenReadings.{Ends, no_gap_at, one_of, read_at_front}

-- ## Where a part of a text stands

-- from byte `at` on, the text is this
record Stands (text : List ℕ) (at : ℕ) (rest : List ℕ) : Type 0 where
  within : at ≤ length text
  here : drop at text ≡ rest

stands_behind : (text : List ℕ) (at : ℕ) (front rest : List ℕ) → Stands text at (front ++ rest) → Stands text (at + length front) rest
stands_behind text at front rest is =
    let len : length (drop at text) ≡ length front + length rest = ap length is.here ∙ length-append front rest in
    let past : drop (at + length front) text ≡ rest =
    sym (drop-drop (length front) at text) ∙ ap (drop (length front)) is.here ∙ drop-append_seam front rest in
    record { within = omega (arith, len, length-drop at text, is.within); here = past }

-- ## Blanks before tokens

gap_behind_blank : (text : List ℕ) (at b : ℕ) (rest : List ℕ) (to : ℕ) → is_blank b ≡ true → Stands text at (b ∷ rest) → AreGap text (at + 1) to → AreGap text at to
gap_behind_blank text at b rest to is_b is g =
    let part : IsGapPart (take 1 (drop at text)) (drop 1 (drop at text)) = rw is.here (blank is_b) in
    let order : at + 1 ≤ to = g.order in
    record { order = omega arith; within = g.within; gap = gap_more text at 1 to order part g.gap }

tokens_behind_blank : {text : List ℕ} {from : ℕ} {tokens : List Token} (at b : ℕ) (rest : List ℕ) → is_blank b ≡ true → Stands text at (b ∷ rest) → from ≡ at + 1
    → HasTokensFrom text from tokens → HasTokensFrom text at tokens
tokens_behind_blank {text = text} at b rest is_b is same (at_end {from = from} {token = t} e) =
    let g : AreGap text (at + 1) (length text) = rw (← same) e.gap in
    at_end (record { gap = gap_behind_blank text at b rest (length text) is_b is g; marks_end = e.marks_end })
tokens_behind_blank {text = text} at b rest is_b is same (at_token {from = from} {token = t} {tokens = tokens} next more) =
    let g : AreGap text (at + 1) t.start = rw (← same) next.gap in
    at_token (record {
      gap = gap_behind_blank text at b rest t.start is_b is g;
      place = next.place;
      order = next.order;
      front = next.front;
      narrow = next.narrow;
    }) more

tokens_behind_blanks : (text : List ℕ) (tokens : List Token) (blanks : List ℕ) (at : ℕ) (rest : List ℕ) → Each is_blank blanks → Stands text at (blanks ++ rest)
    → HasTokensFrom text (at + length blanks) tokens → HasTokensFrom text at tokens
tokens_behind_blanks text tokens [] at rest each is h =
    let same : at + 0 ≡ at = omega arith in
    subst (λ (n : ℕ). HasTokensFrom text n tokens) same h
tokens_behind_blanks text tokens (b ∷ blanks) at rest each is h =
    let same : at + length (b ∷ blanks) ≡ (at + 1) + length blanks = omega arith in
    let behind : Stands text (at + 1) (blanks ++ rest) = stands_behind text at (b ∷ []) (blanks ++ rest) is in
    let moved : HasTokensFrom text ((at + 1) + length blanks) tokens = subst (λ (n : ℕ). HasTokensFrom text n tokens) same h in
    tokens_behind_blank at b (blanks ++ rest) each.0 is refl (tokens_behind_blanks text tokens blanks (at + 1) rest each.1 behind moved)

-- ## One token

abbrev token_at : List ℕ → TokenKind → ℕ → ℕ → Token
token_at text kind at len = record { kind = kind; start = at; end = at + len; place = place_at text at }

-- no blank or comment begins here
no_gap_here : (text : List ℕ) (at : ℕ) → at ≤ length text → begins_gap (drop at text) ≡ false → AreGap text at at
no_gap_here text at within ends = record { order = le_refl at; within = within; gap = gap_ends text at ends }

token_begins : (kind : TokenKind) (bytes rest : List ℕ) → Spells kind bytes → begins_gap (bytes ++ rest) ≡ false
token_begins kind [] rest s = absurd (spells_some kind s)
token_begins kind (b ∷ bytes) rest s = no_gap_at kind b bytes rest s

next_here : (text : List ℕ) (at : ℕ) (x : Spelling) (rest : List ℕ) → IsSpelled x → Ends x.kind x.text rest → Stands text at (x.text ++ rest)
    → IsNext text at (token_at text x.kind at (length x.text))
next_here text at x rest is_spelled ends is =
    let len : at + length x.text - at ≡ length x.text = omega arith in
    let reading = read_at_front x.kind x.text rest (place_at text at) is_spelled.0 is_spelled.1 ends in
    record {
      gap = no_gap_here text at is.within (rw is.here (token_begins x.kind x.text rest is_spelled.0));
      place = refl;
      order = omega arith;
      front = rw (is.here, len) reading.0;
      narrow = rw is.here reading.1;
    }

-- ## Tokens in order

-- from byte `at` on, the text has these tokens, and then the end
record HasFrom (text : List ℕ) (at : ℕ) (spellings : List Spelling) : Type 0 where
  tokens : List Token
  has : HasTokensFrom text at tokens
  same : map (spelling_in text) tokens ≡ spellings ++ spelling End [] ∷ []

ends_here : (text : List ℕ) (at : ℕ) → Stands text at [] → HasFrom text at []
ends_here text at is =
    let none : length (drop at text) ≡ 0 = ap length is.here in
    let end : at ≡ length text = omega (arith, none, length-drop at text, is.within) in
    let gap : AreGap text at at = no_gap_here text at is.within (rw is.here refl) in
    let len : length text - length text ≡ 0 = omega arith in
    record {
      tokens = record { kind = End; start = length text; end = length text; place = place_at text (length text) } ∷ [];
      has = at_end (record { gap = subst (λ (n : ℕ). AreGap text at n) end gap; marks_end = refl });
      same = rw len refl;
    }

behind_blanks : (text : List ℕ) (at : ℕ) (blanks rest : List ℕ) (spellings : List Spelling) → Each is_blank blanks → Stands text at (blanks ++ rest)
    → HasFrom text (at + length blanks) spellings → HasFrom text at spellings
behind_blanks text at blanks rest spellings each is h =
    record { tokens = h.tokens; has = tokens_behind_blanks text h.tokens blanks at rest each is h.has; same = h.same }

token_here : (text : List ℕ) (at : ℕ) (x : Spelling) (rest : List ℕ) (spellings : List Spelling) → IsSpelled x → Ends x.kind x.text rest → Stands text at (x.text ++ rest)
    → HasFrom text (at + length x.text) spellings → HasFrom text at (x ∷ spellings)
token_here text at x rest spellings is_spelled ends is h =
    let len : at + length x.text - at ≡ length x.text = omega arith in
    let front : take (length x.text) (drop at text) ≡ x.text = rw is.here (take-append_seam x.text rest) in
    let same : spelling_in text (token_at text x.kind at (length x.text)) ≡ x = rw len (ap (spelling x.kind) front) in
    record {
      tokens = token_at text x.kind at (length x.text) ∷ h.tokens;
      has = at_token (next_here text at x rest is_spelled ends is) h.has;
      same = ap₂ (λ (y : Spelling) (ys : List Spelling). y ∷ ys) same h.same;
    }

-- ## What follows a token

-- the bytes that begin the pieces that are no tokens
abbrev Passes : (ℕ → Bool) → Type 0
Passes p = AllByRecursion (λ b. p b ≡ false) (codes " {}<\n")

indent_stops : (p : ℕ → Bool) (n : ℕ) (rest : List ℕ) → p 32 ≡ false → Stops p rest → Stops p (replicate n 32 ++ rest)
indent_stops p zero rest e stops = stops
indent_stops p (suc n) rest e stops = e

-- what begins with one of the marks stops, whatever stands before it
marks_stop : (p : ℕ → Bool) (depth : ℕ) (before piece : Piece) (rest : List ℕ) → Passes p → (behind_piece before ≡ LineStart → ⊥)
    → ((kind : TokenKind) (text : List ℕ) → piece ≡ token kind text → Stops p (gap depth before piece ++ (bytes_of piece ++ rest)))
    → Stops p (gap depth before piece ++ (bytes_of piece ++ rest))
marks_stop p depth before (token kind text) rest passes behind h = h kind text refl
marks_stop p depth before apart rest passes behind h = passes.0
marks_stop p depth before opening rest passes behind h = go (behind_piece before) refl
  where
    go : (b : Behind) → behind_piece before ≡ b → Stops p (gap_behind b (indent depth) false false ++ (codes "{\n" ++ rest))
    go LineStart e = absurd (behind e)
    go Joint e = passes.1.0
    go Arrow e = passes.0
    go OtherToken e = passes.0
marks_stop p depth before closing rest passes behind h = indent_stops p (2 * (depth - 1)) (codes "}" ++ rest) passes.0 passes.1.1.0
marks_stop p depth before line_end rest passes behind h = passes.1.1.1.1.0

-- a sign among these stops where each of them does
sign_stops : (p : ℕ → Bool) (signs : List ℕ) (kind : TokenKind) (text rest : List ℕ) → AllByRecursion (λ b. p b ≡ false) signs → is_sign_in signs kind text ≡ true
    → Stops p (text ++ rest)
sign_stops p signs Sign [] rest each e = absurd (cc)
sign_stops p signs Sign (b ∷ []) rest each e = one_of (λ c. p c ≡ false) b signs e each
sign_stops p signs Sign (b ∷ c ∷ text) rest each e = absurd (cc)
sign_stops p signs Word text rest each e = absurd (cc)
sign_stops p signs Val text rest each e = absurd (cc)
sign_stops p signs At text rest each e = absurd (cc)
sign_stops p signs Hash text rest each e = absurd (cc)
sign_stops p signs Block text rest each e = absurd (cc)
sign_stops p signs Bang text rest each e = absurd (cc)
sign_stops p signs Number text rest each e = absurd (cc)
sign_stops p signs Dim text rest each e = absurd (cc)
sign_stops p signs Str text rest each e = absurd (cc)
sign_stops p signs End text rest each e = absurd (cc)

gap_stops : (p : ℕ → Bool) (indentation rest : List ℕ) (j o : Bool) → p 32 ≡ false → (j ≡ true → Stops p rest) → (o ≡ true → Stops p rest)
    → Stops p (gap_behind OtherToken indentation j o ++ rest)
gap_stops p indentation rest true o e f g = f refl
gap_stops p indentation rest false true e f g = g refl
gap_stops p indentation rest false false e f g = e

abbrev value_stop : ℕ → Type 0
value_stop b = is_value_byte b ≡ false

no_value_signs : AllByRecursion value_stop (codes ")]>,<")
unfolding is_value_byte is_name_byte is_letter is_digit
no_value_signs = (refl, (refl, (refl, (refl, (refl, tt)))))

no_value_opens : AllByRecursion value_stop (codes "(")
unfolding is_value_byte is_name_byte is_letter is_digit
no_value_opens = (refl, tt)

no_value_marks : Passes is_value_byte
unfolding is_value_byte is_name_byte is_letter is_digit
no_value_marks = (refl, (refl, (refl, (refl, (refl, tt)))))

no_arrow_marks : Passes (nat_eq 62)
no_arrow_marks = (refl, (refl, (refl, (refl, (refl, tt)))))

-- behind a word, a name or a number stands what doesn't go on with it
stops_behind_other : (depth : ℕ) (before : Piece) (pieces : List Piece) → behind_piece before ≡ OtherToken → Stops is_value_byte (layout_behind depth before pieces)
unfolding layout_behind
stops_behind_other depth before [] other = tt
stops_behind_other depth before (token kind text ∷ pieces) other =
    let rest : List ℕ = text ++ layout_behind depth (token kind text) pieces in
    let here : Stops is_value_byte (gap_behind OtherToken (indent depth) (joins kind text) (opens_list kind text) ++ rest) =
    gap_stops is_value_byte (indent depth) rest (joins kind text) (opens_list kind text) no_value_marks.0
    (λ j. sign_stops is_value_byte (codes ")]>,<") kind text (layout_behind depth (token kind text) pieces) no_value_signs j)
    (λ o. sign_stops is_value_byte (codes "(") kind text (layout_behind depth (token kind text) pieces) no_value_opens o) in
    rw other here
stops_behind_other depth before (apart ∷ pieces) other = marks_stop is_value_byte depth before apart (layout_behind depth apart pieces) no_value_marks (λ q. cc) (λ kind text e. absurd (cc))
stops_behind_other depth before (opening ∷ pieces) other = marks_stop is_value_byte depth before opening (layout_behind (suc depth) opening pieces) no_value_marks (λ q. cc) (λ kind text e. absurd (cc))
stops_behind_other depth before (closing ∷ pieces) other = marks_stop is_value_byte depth before closing (layout_behind (depth - 1) closing pieces) no_value_marks (λ q. cc) (λ kind text e. absurd (cc))
stops_behind_other depth before (line_end ∷ pieces) other = marks_stop is_value_byte depth before line_end (layout_behind depth line_end pieces) no_value_marks (λ q. cc) (λ kind text e. absurd (cc))

greater_is_sign : (kind : TokenKind) (text : List ℕ) → Spells kind (62 ∷ text) → 62 ∷ text ≡ codes ">"
unfolding lead_of is_letter is_digit is_sign_byte
greater_is_sign kind text s =
    let sign : kind ≡ Sign = suits kind 62 text s in
    let is_sign : Spells Sign (62 ∷ text) = subst (λ k. Spells k (62 ∷ text)) sign s in
    elim is_sign [
      | inl one ↦ let tail : text ≡ [] = cc (one.2) in ap (λ l. 62 ∷ l) tail
      | inr arrow ↦ absurd (cc)
    ]

no_greater : (kind : TokenKind) (text rest : List ℕ) → Spells kind text → text ≢ codes ">" → Stops (nat_eq 62) (text ++ rest)
no_greater kind [] rest s other = absurd (spells_some kind s)
no_greater kind (b ∷ text) rest s other =
    elim (cases_Bool (nat_eq 62 b)) [
      | inl same ↦
          let greater : 62 ≡ b = eqb-true 62 b same in
          let begins : Spells kind (62 ∷ text) = subst (λ c. Spells kind (c ∷ text)) (sym greater) s in
          absurd (other (ap (λ c. c ∷ text) (sym greater) ∙ greater_is_sign kind text begins))
      | inr none ↦ none
    ]

-- behind `-` stands no `>`
stops_behind_minus : (depth : ℕ) (before : Piece) (pieces : List Piece) → bytes_of before ≡ codes "-" → behind_piece before ≡ Joint
    → AllByRecursion IsSpelled (spellings_of pieces) → EachMayFollow (before ∷ pieces) → Stops (nat_eq 62) (layout_behind depth before pieces)
unfolding layout_behind
stops_behind_minus depth before [] minus joint each follow = tt
stops_behind_minus depth before (token kind text ∷ pieces) minus joint each follow =
    let here : Stops (nat_eq 62) (text ++ layout_behind depth (token kind text) pieces) = no_greater kind text (layout_behind depth (token kind text) pieces) each.0.0 (follow.0 minus) in
    rw joint here
stops_behind_minus depth before (apart ∷ pieces) minus joint each follow = marks_stop (nat_eq 62) depth before apart (layout_behind depth apart pieces) no_arrow_marks (λ q. cc) (λ kind text e. absurd (cc))
stops_behind_minus depth before (opening ∷ pieces) minus joint each follow = marks_stop (nat_eq 62) depth before opening (layout_behind (suc depth) opening pieces) no_arrow_marks (λ q. cc) (λ kind text e. absurd (cc))
stops_behind_minus depth before (closing ∷ pieces) minus joint each follow = marks_stop (nat_eq 62) depth before closing (layout_behind (depth - 1) closing pieces) no_arrow_marks (λ q. cc) (λ kind text e. absurd (cc))
stops_behind_minus depth before (line_end ∷ pieces) minus joint each follow = marks_stop (nat_eq 62) depth before line_end (layout_behind depth line_end pieces) no_arrow_marks (λ q. cc) (λ kind text e. absurd (cc))

-- what is laid out behind a token doesn't go on with it
ends_behind : (kind : TokenKind) (text : List ℕ) (depth : ℕ) (pieces : List Piece) → AllByRecursion IsSpelled (spellings_of pieces)
    → EachMayFollow (token kind text ∷ pieces) → Ends kind text (layout_behind depth (token kind text) pieces)
ends_behind Word text depth pieces each follow = stops_behind_other depth (token Word text) pieces refl
ends_behind Val text depth pieces each follow = stops_behind_other depth (token Val text) pieces refl
ends_behind At text depth pieces each follow = stops_behind_other depth (token At text) pieces refl
ends_behind Hash text depth pieces each follow = stops_behind_other depth (token Hash text) pieces refl
ends_behind Block text depth pieces each follow = stops_behind_other depth (token Block text) pieces refl
ends_behind Bang text depth pieces each follow = stops_behind_other depth (token Bang text) pieces refl
ends_behind Number text depth pieces each follow = stops_behind_other depth (token Number text) pieces refl
ends_behind Dim text depth pieces each follow = tt
ends_behind Str text depth pieces each follow = tt
ends_behind Sign text depth pieces each follow = λ minus. stops_behind_minus depth (token Sign text) pieces minus (ap (λ t. behind_piece (token Sign t)) minus) each follow
ends_behind End text depth pieces each follow = tt

-- ## Gaps are blank

blanks : (n : ℕ) → Each is_blank (replicate n 32)
unfolding is_blank
blanks zero = tt
blanks (suc n) = (refl, blanks n)

either_blank : (v : Bool) → Each is_blank (if v then [] else codes " ")
unfolding is_blank
either_blank true = tt
either_blank false = (refl, tt)

gap_is_blank : (b : Behind) (depth : ℕ) (j o : Bool) → Each is_blank (gap_behind b (indent depth) j o)
gap_is_blank LineStart depth j o = blanks (2 * depth)
gap_is_blank Joint depth j o = tt
gap_is_blank Arrow depth j o = either_blank j
gap_is_blank OtherToken depth j o = either_blank (j || o)

piece_gap_is_blank : (depth : ℕ) (before piece : Piece) → Each is_blank (gap depth before piece)
unfolding is_blank
piece_gap_is_blank depth before (token kind text) = gap_is_blank (behind_piece before) depth (joins kind text) (opens_list kind text)
piece_gap_is_blank depth before apart = (refl, tt)
piece_gap_is_blank depth before opening = gap_is_blank (behind_piece before) depth false false
piece_gap_is_blank depth before closing = blanks (2 * (depth - 1))
piece_gap_is_blank depth before line_end = tt

-- ## All tokens

follow_rest : (piece : Piece) (pieces : List Piece) → EachMayFollow (piece ∷ pieces) → EachMayFollow pieces
follow_rest piece [] follow = tt
follow_rest piece (next ∷ pieces) follow = follow.1

less_spelled : IsSpelled (spelling Sign (60 ∷ []))
unfolding is_sign_byte is_digit
less_spelled = (inl (60, refl, refl), lit< tt)

opening_spelled : IsSpelled (spelling Sign (123 ∷ []))
unfolding is_sign_byte is_digit
opening_spelled = (inl (123, refl, refl), lit< tt)

closing_spelled : IsSpelled (spelling Sign (125 ∷ []))
unfolding is_sign_byte is_digit
closing_spelled = (inl (125, refl, refl), lit< tt)

feed_is_blank : Each is_blank (10 ∷ [])
unfolding is_blank
feed_is_blank = (refl, tt)

sign_here : (text : List ℕ) (at b : ℕ) (rest : List ℕ) (spellings : List Spelling) → IsSpelled (spelling Sign (b ∷ [])) → (b ≡ 45 → ⊥)
    → Stands text at (b ∷ rest) → HasFrom text (at + 1) spellings → HasFrom text at (spelling Sign (b ∷ []) ∷ spellings)
sign_here text at b rest spellings is_spelled other is h =
    token_here text at (spelling Sign (b ∷ [])) rest spellings is_spelled (λ e. absurd (other (ap (λ (l : List ℕ). get_or l 0 0) e))) is h

feed_here : (text : List ℕ) (at : ℕ) (rest : List ℕ) (spellings : List Spelling) → Stands text at (10 ∷ rest) → HasFrom text (at + 1) spellings → HasFrom text at spellings
feed_here text at rest spellings is h = behind_blanks text at (10 ∷ []) rest spellings feed_is_blank is h

opening_here : (text : List ℕ) (at : ℕ) (rest : List ℕ) (spellings : List Spelling) → Stands text at (123 ∷ (10 ∷ rest)) → HasFrom text (at + 2) spellings
    → HasFrom text at (spelling Sign (123 ∷ []) ∷ spellings)
opening_here text at rest spellings is h =
    let behind : Stands text (at + 1) (10 ∷ rest) = stands_behind text at (123 ∷ []) (10 ∷ rest) is in
    let two : at + 2 ≡ (at + 1) + 1 = omega arith in
    let moved : HasFrom text ((at + 1) + 1) spellings = subst (λ (n : ℕ). HasFrom text n spellings) two h in
    sign_here text at 123 (10 ∷ rest) spellings opening_spelled (λ q. cc) is (feed_here text (at + 1) rest spellings behind moved)

apart_here : (text : List ℕ) (at : ℕ) (rest : List ℕ) (spellings : List Spelling) → Stands text at (60 ∷ rest) → HasFrom text (at + 1) spellings
    → HasFrom text at (spelling Sign (60 ∷ []) ∷ spellings)
apart_here text at rest spellings is h = sign_here text at 60 rest spellings less_spelled (λ q. cc) is h

closing_here : (text : List ℕ) (at : ℕ) (rest : List ℕ) (spellings : List Spelling) → Stands text at (125 ∷ rest) → HasFrom text (at + 1) spellings
    → HasFrom text at (spelling Sign (125 ∷ []) ∷ spellings)
closing_here text at rest spellings is h = sign_here text at 125 rest spellings closing_spelled (λ q. cc) is h

token_piece_here : (text : List ℕ) (at depth : ℕ) (kind : TokenKind) (bytes : List ℕ) (pieces : List Piece) → IsSpelled (spelling kind bytes) → AllByRecursion IsSpelled (spellings_of pieces)
    → EachMayFollow (token kind bytes ∷ pieces) → Stands text at (bytes ++ layout_behind depth (token kind bytes) pieces)
    → HasFrom text (at + length bytes) (spellings_of pieces) → HasFrom text at (spelling kind bytes ∷ spellings_of pieces)
token_piece_here text at depth kind bytes pieces is_spelled each follow is h =
    token_here text at (spelling kind bytes) (layout_behind depth (token kind bytes) pieces) (spellings_of pieces) is_spelled (ends_behind kind bytes depth pieces each follow) is h

-- what one piece adds
piece_here : (text : List ℕ) (at depth : ℕ) (piece : Piece) (pieces : List Piece) → AllByRecursion IsSpelled (spellings_of (piece ∷ pieces))
    → EachMayFollow (piece ∷ pieces) → Stands text at (bytes_of piece ++ layout_behind (depth_behind depth piece) piece pieces)
    → HasFrom text (at + length (bytes_of piece)) (spellings_of pieces) → HasFrom text at (spellings_of (piece ∷ pieces))
piece_here text at depth (token kind bytes) pieces each follow is h = token_piece_here text at depth kind bytes pieces each.0 each.1 follow is h
piece_here text at depth apart pieces each follow is h = apart_here text at (layout_behind depth apart pieces) (spellings_of pieces) is h
piece_here text at depth opening pieces each follow is h = opening_here text at (layout_behind (suc depth) opening pieces) (spellings_of pieces) is h
piece_here text at depth closing pieces each follow is h = closing_here text at (layout_behind (depth - 1) closing pieces) (spellings_of pieces) is h
piece_here text at depth line_end pieces each follow is h = feed_here text at (layout_behind depth line_end pieces) (spellings_of pieces) is h

each_rest : (piece : Piece) (pieces : List Piece) → AllByRecursion IsSpelled (spellings_of (piece ∷ pieces)) → AllByRecursion IsSpelled (spellings_of pieces)
each_rest (token kind text) pieces each = each.1
each_rest apart pieces each = each.1
each_rest opening pieces each = each.1
each_rest closing pieces each = each.1
each_rest line_end pieces each = each

pieces_from : (text : List ℕ) (at depth : ℕ) (before : Piece) (pieces : List Piece) → AllByRecursion IsSpelled (spellings_of pieces) → EachMayFollow pieces
    → Stands text at (layout_behind depth before pieces) → HasFrom text at (spellings_of pieces)
unfolding layout_behind
pieces_from text at depth before [] each follow is = ends_here text at is
pieces_from text at depth before (piece ∷ pieces) each follow is =
    let rest : List ℕ = layout_behind (depth_behind depth piece) piece pieces in
    let front : List ℕ = gap depth before piece in
    let here : Stands text (at + length front) (bytes_of piece ++ rest) = stands_behind text at front (bytes_of piece ++ rest) is in
    let behind : Stands text ((at + length front) + length (bytes_of piece)) rest = stands_behind text (at + length front) (bytes_of piece) rest here in
    let more = pieces_from text ((at + length front) + length (bytes_of piece)) (depth_behind depth piece) piece pieces (each_rest piece pieces each) (follow_rest piece pieces follow) behind in
    behind_blanks text at front (bytes_of piece ++ rest) (spellings_of (piece ∷ pieces)) (piece_gap_is_blank depth before piece) is
    (piece_here text (at + length front) depth piece pieces each follow here more)

pub layout_lexes : (pieces : List Piece) → CanBeRead pieces → HasSpellings (layout pieces) (spellings_of pieces)
layout_lexes pieces can =
    let all : HasFrom (layout pieces) 0 (spellings_of pieces) = pieces_from (layout pieces) 0 0 line_end pieces can.spelled can.follow (record { within = omega arith; here = refl }) in
    record { tokens = all.tokens; has = all.has; same = all.same }
