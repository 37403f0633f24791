-- Each text has tokens or a first fault.
--
-- From a byte on the blanks and comments end somewhere. There the text ends, or a front is a token and a longest
-- one is, or none is; and the text behind a token is shorter.
use mathlib.Core.Path.{ap, refl, subst}
use Rattle.std.proofs.Common.{◌≡◌, ◌⊎◌, inl, inr, ℕ, zero, suc, ◌+◌, ◌-◌, ◌^◌, ◌<◌, ◌≤◌, Bool, true, false, ◌||◌, nat_eq, List, [], ◌∷◌, length, take, drop, codes, arith, length-drop}
use Rattle.std.specs.List.{prefix_len, starts_with}
use Rattle.std.proofs.lemmas.Bool.{cases_lt}
use Rattle.std.proofs.lemmas.Bool.Decides.{nat_tests}
use Rattle.std.proofs.lemmas.List.{drop_all}
use Rattle.std.proofs.lemmas.List.Sums.{prefix_len-le-length}
use Rattle.sh_base.specs.declared.places.Place.{Place}
use Rattle.sh_lex.specs.Tokens.{AreGap, HasTokensFrom, IsFault, IsFront, IsGapPart, IsNext, IsRefusedFrom, Spells, StartsNone, at_end, at_fault, at_token, begins_gap, behind_token, is_blank, is_line_byte, leading_value, place_at}
use Rattle.sh_lex.specs.declared.tokens.LexRefusal.{LexRefusal}
use Rattle.sh_lex.specs.declared.tokens.LexRefusal.TheVariants.{BadByte, NumberTooWide, OpenString}
use Rattle.sh_lex.specs.declared.tokens.Token.{Token}
use Rattle.sh_lex.specs.declared.tokens.TokenKind.{TokenKind}
use Rattle.sh_lex.proofs.FrontLemmas.{spells_some}
use Rattle.sh_lex.proofs.GapLemmas.{blank_part, comment_part, gap_ends, gap_more}
use Rattle.sh_answers.proofs.Irrefutable.{Greatest, greatest}

-- ## Between tokens

-- where a gap ends
record GapEnd (text : List ℕ) (from : ℕ) : Type 0 where
  to : ℕ
  gap : AreGap text from to

-- a blank or a comment that begins a gap
record GapFront (rest : List ℕ) : Type 0 where
  part : ℕ
  some : 0 < part
  within : part ≤ length rest
  is_part : IsGapPart (take part rest) (drop part rest)

gap_front : (rest : List ℕ) → begins_gap rest ≡ true → GapFront rest
gap_front [] begins = absurd (cc)
gap_front (b ∷ bytes) begins = by (is_blank b) refl begins
  where
    by : (v : Bool) → is_blank b ≡ v → (v || starts_with nat_eq (b ∷ bytes) (codes "//")) ≡ true → GapFront (b ∷ bytes)
    by true is_so e = record { part = 1; some = omega arith; within = omega arith; is_part = blank_part (b ∷ bytes) b refl is_so }
    by false isnt e =
        let comment = comment_part (b ∷ bytes) e in
        record {
          part = prefix_len is_line_byte (b ∷ bytes);
          some = comment.0;
          within = prefix_len-le-length is_line_byte (b ∷ bytes);
          is_part = comment.1;
        }

ends_here : (text : List ℕ) (from : ℕ) → from ≤ length text → begins_gap (drop from text) ≡ false → GapEnd text from
ends_here text from within none =
    record { to = from; gap = record { order = omega arith; within = within; gap = gap_ends text from none } }

ends_later : (text : List ℕ) (from : ℕ) (f : GapFront (drop from text)) → GapEnd text (from + f.part) → GapEnd text from
ends_later text from f end =
    let order = end.gap.order in
    record {
      to = end.to;
      gap = record {
        order = omega (arith, order);
        within = end.gap.within;
        gap = gap_more text from f.part end.to order f.is_part end.gap.gap;
      };
    }

gap_end : (text : List ℕ) (left from : ℕ) → from ≤ length text → length text ≤ from + left → GapEnd text from
gap_end text zero from within enough =
    ends_here text from within (ap begins_gap (drop_all from text (omega (arith, enough))))
gap_end text (suc left) from within enough =
    by (begins_gap (drop from text)) refl (λ further. gap_end text left further)
  where
    by : (v : Bool) → begins_gap (drop from text) ≡ v
        → ((further : ℕ) → further ≤ length text → length text ≤ further + left → GapEnd text further) → GapEnd text from
    by false none rest = ends_here text from within none
    by true begins rest =
        let f = gap_front (drop from text) begins in
        let some = f.some in
        let short = f.within in
        ends_later text from f
        (rest (from + f.part) (omega (arith, within, short, length-drop from text)) (omega (arith, enough, some)))

-- ## Where a token is due

-- the longest front that is a token
record Front (rest : List ℕ) : Type 0 where
  kind : TokenKind
  len : ℕ
  front : IsFront rest kind len

-- a front of this length is a token
abbrev IsSpelled : List ℕ → ℕ → Type 0
IsSpelled rest n = (kind : TokenKind) × (n ≤ length rest) × Spells kind (take n rest)

front_by : (rest : List ℕ) → Greatest (IsSpelled rest) → Front rest
front_by rest g = record {
  kind = g.holds.0;
  len = g.number;
  front = record {
    within = g.holds.1;
    spelled = g.holds.2;
    longest = λ other n within spelled. g.greatest n (other, within, spelled);
  };
}

-- where not none is a token, a longest one is
longest_front : (rest : List ℕ) → ¬ (StartsNone rest) → ¬ (¬ (Front rest))
longest_front rest some none = some (λ kind n within spelled.
    greatest (IsSpelled rest) (length rest) (length rest) n (λ m s. s.1) (omega arith) (kind, within, spelled)
    (λ g. none (front_by rest g)))

-- a token has bytes
some_bytes : (rest : List ℕ) (kind : TokenKind) (len : ℕ) → IsFront rest kind len → 0 < len
some_bytes rest kind zero front = absurd (spells_some kind front.spelled)
some_bytes rest kind (suc len) front = omega arith

-- the fault of a byte with which no token begins
fault_of : (rest : List ℕ) (due : Place) → 0 < length rest → StartsNone rest → (why : LexRefusal) × IsFault rest due why
fault_of [] due some none = absurd (omega arith)
fault_of (b ∷ bytes) due some none = by (nat_eq b 34) refl
  where
    by : (v : Bool) → nat_eq b 34 ≡ v → (why : LexRefusal) × IsFault (b ∷ bytes) due why
    by true quote = (OpenString due, (refl, none, grind (arith, nat_tests, quote)))
    by false other = (BadByte due, (refl, none, λ same. grind (arith, nat_tests, other, same)))

too_wide : (rest : List ℕ) (due : Place) → 0 < length rest → 2 ^ 64 ≤ leading_value rest → IsFault rest due (NumberTooWide due)
too_wide [] due some wide = absurd (omega arith)
too_wide (b ∷ bytes) due some wide = (refl, wide)

-- ## The whole text

-- from byte `from` on it has tokens, or a first fault
abbrev pub IsLexed : List ℕ → ℕ → Type 0
IsLexed text from =
    ((tokens : List Token) × HasTokensFrom text from tokens) ⊎ ((why : LexRefusal) × IsRefusedFrom text from why)

end_here : (text : List ℕ) (from to : ℕ) → AreGap text from to → length text ≤ to → IsLexed text from
end_here text from to gap past =
    let within = gap.within in
    let end : to ≡ length text = omega (arith, past, within) in
    inl (_ ∷ [], at_end (record { gap = subst (AreGap text from) end gap; marks_end = refl }))

next_of : (text : List ℕ) (from to : ℕ) → AreGap text from to → (f : Front (drop to text)) → leading_value (drop to text) < 2 ^ 64
    → IsNext text from (record { kind = f.kind; start = to; end = to + f.len; place = place_at text to })
next_of text from to gap f narrow =
    let len : f.len ≡ (to + f.len) - to = omega arith in
    record {
      gap = gap;
      place = refl;
      order = omega arith;
      front = subst (IsFront (drop to text) f.kind) len f.front;
      narrow = narrow;
    }

behind : (text : List ℕ) (from : ℕ) (token : Token) → IsNext text from token → IsLexed text token.end → IsLexed text from
behind text from token next (inl (tokens, has)) = inl (token ∷ tokens, at_token next has)
behind text from token next (inr (why, refused)) = inr (why, behind_token next refused)

-- the same from each byte on that has fewer behind it
abbrev AreLexedBehind : List ℕ → ℕ → Type 0
AreLexedBehind text left =
    (further : ℕ) → further ≤ length text → length text ≤ further + left → ¬ (¬ (IsLexed text further))

module _ (text : List ℕ) (left from : ℕ) (enough : length text ≤ from + suc left) (g : GapEnd text from) where
  behind_front : (f : Front (drop g.to text)) → g.to < length text → leading_value (drop g.to text) < 2 ^ 64
      → AreLexedBehind text left → ¬ (¬ (IsLexed text from))
  behind_front f inside narrow rest none =
      let some = some_bytes (drop g.to text) f.kind f.len f.front in
      let short = f.front.within in
      let order = g.gap.order in
      rest (g.to + f.len) (omega (arith, short, inside, length-drop g.to text)) (omega (arith, enough, order, some))
      (λ lexed. none (behind text from _ (next_of text from g.to g.gap f narrow) lexed))

  token_due : g.to < length text → AreLexedBehind text left → ¬ (¬ (IsLexed text from))
  token_due inside rest none =
      longest_front (drop g.to text) starts (λ f. by f (cases_lt (leading_value (drop g.to text)) (2 ^ 64)))
    where
      some : 0 < length (drop g.to text)
      some = omega (arith, inside, length-drop g.to text)

      starts : ¬ (StartsNone (drop g.to text))
      starts nothing =
          let f = fault_of (drop g.to text) (place_at text g.to) some nothing in
          none (inr (f.0, at_fault (record { due = g.to; gap = g.gap; fault = f.1 })))

      by : (f : Front (drop g.to text)) → (leading_value (drop g.to text) < 2 ^ 64) ⊎ (2 ^ 64 ≤ leading_value (drop g.to text)) → ⊥
      by f (inl narrow) = behind_front f inside narrow rest none
      by f (inr wide) =
          let fault = too_wide (drop g.to text) (place_at text g.to) some wide in
          none (inr (_, at_fault (record { due = g.to; gap = g.gap; fault = fault })))

  lexed_step : AreLexedBehind text left → ¬ (¬ (IsLexed text from))
  lexed_step rest none = by (cases_lt g.to (length text))
    where
      by : (g.to < length text) ⊎ (length text ≤ g.to) → ⊥
      by (inl inside) = token_due inside rest none
      by (inr past) = none (end_here text from g.to g.gap past)

lexed_from : (text : List ℕ) (left from : ℕ) → from ≤ length text → length text ≤ from + left → ¬ (¬ (IsLexed text from))
lexed_from text zero from within enough none =
    let g = gap_end text zero from within enough in
    let order = g.gap.order in
    none (end_here text from g.to g.gap (omega (arith, enough, order)))
lexed_from text (suc left) from within enough none =
    lexed_step text left from enough (gap_end text (suc left) from within enough) (λ further. lexed_from text left further) none

pub lexed : (text : List ℕ) → ¬ (¬ (IsLexed text 0))
lexed text = lexed_from text (length text) 0 (omega arith) (omega arith)
