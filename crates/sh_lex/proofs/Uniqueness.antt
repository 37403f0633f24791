-- A text has at most one list of tokens, or one first fault, and not both.
use Rattle.std.proofs.Common.{◌≡◌, ℕ, zero, suc, ◌-◌, ◌^◌, ◌<◌, ◌≤◌, inl, inr, true, false, List, [], ◌∷◌, ◌++◌, length, take, drop, codes, slice_range, refl, sym, ap, ◌∙◌, subst, arith, append_assoc, length-drop}
use Rattle.std.proofs.lemmas.Bool.{cases_Bool}
use Rattle.std.proofs.lemmas.List.{drop_all}
use Rattle.std.proofs.lemmas.List.Folds.{drop_split}
use Rattle.std.proofs.Math.Seq.{drop-length}
use Rattle.sh_base.specs.declared.places.Place.{Place}
use Rattle.sh_lex.specs.declared.tokens.TokenKind.{TokenKind}
use Rattle.sh_lex.specs.declared.tokens.TokenKind.TheVariants.{Number, Dim}
use Rattle.sh_lex.specs.declared.tokens.Token.{Token}
use Rattle.sh_lex.specs.declared.tokens.LexRefusal.{LexRefusal}
use Rattle.sh_lex.specs.declared.tokens.LexRefusal.TheVariants.{BadByte, OpenString, NumberTooWide, Mem}
use Rattle.sh_lex.specs.declared.bytes.Lead.{Lead}
use Rattle.sh_lex.specs.declared.bytes.Lead.TheVariants.{Letter, Mark, Digit, Question, Quote, Punctuation, Other}
use Rattle.sh_lex.specs.Tokens.{is_blank, is_line_byte, is_digit, Each, IsComment, IsGapPart, blank, comment, begins_gap, IsGap, nothing, more, IsRun, Spells, IsFront, StartsNone, leading_value, place_at, AreGap, IsNext, IsEnd, HasTokensFrom, at_end, at_token, IsFault, IsStopped, IsRefusedFrom, at_fault, behind_token}
use Rattle.sh_lex.specs.Scan.{lead_of}
use Rattle.sh_lex.proofs.Runs.{same_run, each_of_run, begins_with_two}
use Rattle.sh_lex.proofs.LeadLemmas.{Suits, suits}
use Rattle.sh_lex.proofs.FrontLemmas.{spells_some}

-- ## Gaps

slash_is_no_blank : is_blank 47 ≡ false
unfolding is_blank
slash_is_no_blank = refl

begins_with_blank : (b : ℕ) (bytes : List ℕ) → is_blank b ≡ true → begins_gap (b ∷ bytes) ≡ true
begins_with_blank b bytes e = rw e refl

begins_with_comment : (bytes : List ℕ) → begins_gap (47 ∷ (47 ∷ bytes)) ≡ true
unfolding is_blank
begins_with_comment bytes = refl

part_begins : {part after : List ℕ} → IsGapPart part after → begins_gap (part ++ after) ≡ true
part_begins (blank {b = b} {after = after} e) = begins_with_blank b after e
part_begins (comment {line = line} {after = after} is_comment stops) =
    let whole = begins_with_two 47 47 line is_comment.0 in
    ap (λ l. begins_gap (l ++ after)) whole.1 ∙ begins_with_comment (whole.0 ++ after)

blank_or_comment : (b : ℕ) (line us vs : List ℕ) → is_blank b ≡ true → IsComment line → b ∷ us ≡ line ++ vs → ⊥
blank_or_comment b line us vs e is_comment same =
    let whole = begins_with_two 47 47 line is_comment.0 in
    let first : b ∷ us ≡ 47 ∷ (47 ∷ (whole.0 ++ vs)) = same ∙ ap (λ l. l ++ vs) whole.1 in
    let slash : b ≡ 47 = cc in
    let none : is_blank b ≡ false = rw slash slash_is_no_blank in
    cc

same_part : {part us other vs : List ℕ} → IsGapPart part us → IsGapPart other vs → part ++ us ≡ other ++ vs → (part ≡ other) × (us ≡ vs)
same_part (blank {b = b} {after = us} e) (blank {b = c} {after = vs} f) same = (cc, cc)
same_part (blank {b = b} {after = us} e) (comment {line = line} {after = vs} is_comment stops) same = absurd (blank_or_comment b line us vs e is_comment same)
same_part (comment {line = line} {after = us} is_comment stops) (blank {b = b} {after = vs} f) same = absurd (blank_or_comment b line vs us f is_comment (sym same))
same_part (comment {line = line} {after = us} is_comment stops) (comment {line = other} {after = vs} is_other others) same =
    same_run is_line_byte line other us vs is_comment.1 is_other.1 stops others same

same_gap : {us vs gap other : List ℕ} → IsGap us gap → IsGap vs other → gap ++ us ≡ other ++ vs → us ≡ vs
same_gap (nothing e) (nothing f) same = same
same_gap {us = us} {vs = vs} (nothing e) (more {part = part} {gap = gap} {bytes = bytes} is_part rest joined) same =
    let whole : us ≡ part ++ (gap ++ vs) = same ∙ ap (λ l. l ++ vs) joined ∙ append_assoc part gap vs in
    let begins : begins_gap us ≡ true = ap begins_gap whole ∙ part_begins is_part in
    absurd (cc)
same_gap {us = us} {vs = vs} (more {part = part} {gap = gap} {bytes = bytes} is_part rest joined) (nothing f) same =
    let whole : vs ≡ part ++ (gap ++ us) = sym same ∙ ap (λ l. l ++ us) joined ∙ append_assoc part gap us in
    let begins : begins_gap vs ≡ true = ap begins_gap whole ∙ part_begins is_part in
    absurd (cc)
same_gap {us = us} {vs = vs} (more {part = part} {gap = gap} {bytes = bytes} is_part rest joined) (more {part = other} {gap = behind} {bytes = others} is_other others_rest others_joined) same =
    let whole : part ++ (gap ++ us) ≡ other ++ (behind ++ vs) =
    sym (append_assoc part gap us) ∙ ap (λ l. l ++ us) (sym joined) ∙ same ∙ ap (λ l. l ++ vs) others_joined ∙ append_assoc other behind vs in
    same_gap rest others_rest (same_part is_part is_other whole).1

-- a gap ends in one place
pub same_gap_end : (text : List ℕ) (from a b : ℕ) → AreGap text from a → AreGap text from b → a ≡ b
same_gap_end text from a b g h =
    let whole : slice_range text from a ++ drop a text ≡ slice_range text from b ++ drop b text =
    sym (drop_split text from a g.order) ∙ drop_split text from b h.order in
    let same : drop a text ≡ drop b text = same_gap g.gap h.gap whole in
    omega (arith, ap length same, length-drop a text, length-drop b text, g.within, h.within)

-- ## Tokens

digits_before_x : (digits : List ℕ) → Each is_digit (digits ++ codes "x") → ⊥
unfolding is_digit
digits_before_x [] each = cc (each.0)
digits_before_x (d ∷ digits) each = digits_before_x digits each.1

question_is_no_digit : IsRun is_digit (codes "?x") → ⊥
unfolding is_digit
question_is_no_digit run = cc (run.0)

digits_or_dim : (bytes : List ℕ) → IsRun is_digit bytes → Spells Dim bytes → ⊥
digits_or_dim bytes run dim =
    elim dim [
      | inl digits ↦ digits_before_x digits.0 (subst (Each is_digit) digits.2 (each_of_run is_digit bytes run))
      | inr unknown ↦ question_is_no_digit (subst (IsRun is_digit) unknown run)
    ]

one_kind : (lead : Lead) (kind other : TokenKind) (bytes : List ℕ) → Suits lead kind → Suits lead other → Spells kind bytes → Spells other bytes → kind ≡ other
one_kind Letter kind other bytes h f s t = cc
one_kind (Mark mark) kind other bytes h f s t = cc
one_kind Digit kind other bytes h f s t =
    elim h [
      | inl number ↦ elim f [
        | inl too ↦ cc
        | inr dim ↦ absurd (digits_or_dim bytes (subst (λ k. Spells k bytes) number s) (subst (λ k. Spells k bytes) dim t))
      ]
      | inr dim ↦ elim f [
        | inl number ↦ absurd (digits_or_dim bytes (subst (λ k. Spells k bytes) number t) (subst (λ k. Spells k bytes) dim s))
        | inr too ↦ cc
      ]
    ]
one_kind Question kind other bytes h f s t = cc
one_kind Quote kind other bytes h f s t = cc
one_kind Punctuation kind other bytes h f s t = cc
one_kind Other kind other bytes h f s t = absurd h

-- bytes have one kind
pub same_kind : (kind other : TokenKind) (bytes : List ℕ) → Spells kind bytes → Spells other bytes → kind ≡ other
same_kind kind other [] s t = absurd (spells_some kind s)
same_kind kind other (b ∷ bytes) s t = one_kind (lead_of b) kind other (b ∷ bytes) (suits kind b bytes s) (suits other b bytes t) s t

same_front : (rest : List ℕ) (kind other : TokenKind) (m n : ℕ) → IsFront rest kind m → IsFront rest other n → (kind ≡ other) × (m ≡ n)
same_front rest kind other m n g h =
    let up : m ≤ n = h.longest kind m g.within g.spelled in
    let down : n ≤ m = g.longest other n h.within h.spelled in
    let same : m ≡ n = omega arith in
    let spelled : Spells kind (take n rest) = rw (← same) g.spelled in
    (same_kind kind other (take n rest) spelled h.spelled, same)

abbrev token_of : TokenKind → ℕ → ℕ → Place → Token
token_of kind start end place = record { kind = kind; start = start; end = end; place = place }

-- the next token is one
pub same_next : (text : List ℕ) (from : ℕ) (token other : Token) → IsNext text from token → IsNext text from other → token ≡ other
same_next text from token other g h =
    let start : token.start ≡ other.start = same_gap_end text from token.start other.start g.gap h.gap in
    let order : token.start ≤ other.end = rw start h.order in
    let others : IsFront (drop token.start text) other.kind (other.end - token.start) = rw start h.front in
    let front = same_front (drop token.start text) token.kind other.kind (token.end - token.start) (other.end - token.start) g.front others in
    let end : token.end ≡ other.end = omega (arith, g.order, order, front.1) in
    let place : token.place ≡ other.place = g.place ∙ ap (place_at text) start ∙ sym h.place in
    let kind : token.kind ≡ other.kind = front.0 in
    let whole : token_of token.kind token.start token.end token.place ≡ token_of other.kind other.start other.end other.place = cc in
    whole

no_front : (kind : TokenKind) (len : ℕ) → IsFront [] kind len → ⊥
no_front kind zero front = spells_some kind front.spelled
no_front kind (suc len) front = spells_some kind front.spelled

no_front_at_end : (text : List ℕ) (at : ℕ) (kind : TokenKind) (len : ℕ) → length text ≤ at → IsFront (drop at text) kind len → ⊥
no_front_at_end text at kind len past front =
    let none : drop at text ≡ [] = drop_all at text past in
    no_front kind len (rw none at front)

end_or_next : (text : List ℕ) (from : ℕ) (token other : Token) → IsEnd text from token → IsNext text from other → ⊥
end_or_next text from token other g h =
    let start : length text ≡ other.start = same_gap_end text from (length text) other.start g.gap h.gap in
    no_front_at_end text other.start other.kind (other.end - other.start) (omega arith) h.front

pub same_tokens : {text : List ℕ} {from : ℕ} {tokens others : List Token} → HasTokensFrom text from tokens → HasTokensFrom text from others → tokens ≡ others
same_tokens {text = text} (at_end {from = from} {token = token} e) (at_end {token = other} f) = ap (λ t. t ∷ []) (e.marks_end ∙ sym f.marks_end)
same_tokens {text = text} (at_end {from = from} {token = token} e) (at_token {token = other} next rest) = absurd (end_or_next text from token other e next)
same_tokens {text = text} (at_token {from = from} {token = token} next rest) (at_end {token = other} f) = absurd (end_or_next text from other token f next)
same_tokens {text = text} (at_token {from = from} {token = token} {tokens = tokens} next rest) (at_token {token = other} {tokens = others} too others_rest) =
    let same : token ≡ other = same_next text from token other next too in
    let moved : HasTokensFrom text token.end others = rw same others_rest in
    let tails : tokens ≡ others = same_tokens rest moved in
    cc

-- ## Faults

no_fault_at_token : (rest : List ℕ) (due : Place) (why : LexRefusal) (kind : TokenKind) (len : ℕ)
    → IsFault rest due why → IsFront rest kind len → leading_value rest < 2 ^ 64 → ⊥
no_fault_at_token [] due why kind len fault front narrow = fault
no_fault_at_token (b ∷ bytes) due (BadByte place) kind len fault front narrow = fault.1 kind len front.within front.spelled
no_fault_at_token (b ∷ bytes) due (OpenString place) kind len fault front narrow = fault.1 kind len front.within front.spelled
no_fault_at_token (b ∷ bytes) due (NumberTooWide place) kind len fault front narrow = omega (arith, fault.1)
no_fault_at_token (b ∷ bytes) due Mem kind len fault front narrow = fault

next_or_stopped : (text : List ℕ) (from : ℕ) (token : Token) (why : LexRefusal) → IsNext text from token → IsStopped text from why → ⊥
next_or_stopped text from token why g h =
    let start : h.due ≡ token.start = same_gap_end text from h.due token.start h.gap g.gap in
    let fault : IsFault (drop token.start text) (place_at text token.start) why = rw (← start) h.fault in
    no_fault_at_token (drop token.start text) (place_at text token.start) why token.kind (token.end - token.start) fault g.front g.narrow

end_or_stopped : (text : List ℕ) (from : ℕ) (token : Token) (why : LexRefusal) → IsEnd text from token → IsStopped text from why → ⊥
end_or_stopped text from token why g h =
    let end : h.due ≡ length text = same_gap_end text from h.due (length text) h.gap g.gap in
    let here : IsFault (drop (length text) text) (place_at text (length text)) why = rw (← end) h.fault in
    let none : IsFault [] (place_at text (length text)) why = rw drop-length at here in
    none

-- digits with a value are a number
number_begins : (b : ℕ) (bytes : List ℕ) → 2 ^ 64 ≤ leading_value (b ∷ bytes) → StartsNone (b ∷ bytes) → ⊥
number_begins b bytes wide none =
    elim (cases_Bool (is_digit b)) [
      | inl digit ↦ none Number 1 (omega arith) (digit, tt)
      | inr other ↦ let zero_value : 2 ^ 64 ≤ 0 = rw other at wide in omega arith
    ]

same_fault : (rest : List ℕ) (due : Place) (why other : LexRefusal) → IsFault rest due why → IsFault rest due other → why ≡ other
same_fault [] due why other g h = absurd g
same_fault (b ∷ bytes) due (BadByte p) (BadByte q) g h = cc (g.0, h.0)
same_fault (b ∷ bytes) due (BadByte p) (OpenString q) g h = absurd (g.2 h.2)
same_fault (b ∷ bytes) due (BadByte p) (NumberTooWide q) g h = absurd (number_begins b bytes h.1 g.1)
same_fault (b ∷ bytes) due (BadByte p) Mem g h = absurd h
same_fault (b ∷ bytes) due (OpenString p) (BadByte q) g h = absurd (h.2 g.2)
same_fault (b ∷ bytes) due (OpenString p) (OpenString q) g h = cc (g.0, h.0)
same_fault (b ∷ bytes) due (OpenString p) (NumberTooWide q) g h = absurd (number_begins b bytes h.1 g.1)
same_fault (b ∷ bytes) due (OpenString p) Mem g h = absurd h
same_fault (b ∷ bytes) due (NumberTooWide p) (BadByte q) g h = absurd (number_begins b bytes g.1 h.1)
same_fault (b ∷ bytes) due (NumberTooWide p) (OpenString q) g h = absurd (number_begins b bytes g.1 h.1)
same_fault (b ∷ bytes) due (NumberTooWide p) (NumberTooWide q) g h = cc (g.0, h.0)
same_fault (b ∷ bytes) due (NumberTooWide p) Mem g h = absurd h
same_fault (b ∷ bytes) due Mem other g h = absurd g

same_stop : (text : List ℕ) (from : ℕ) (why other : LexRefusal) → IsStopped text from why → IsStopped text from other → why ≡ other
same_stop text from why other g h =
    let due : h.due ≡ g.due = same_gap_end text from h.due g.due h.gap g.gap in
    let here : IsFault (drop g.due text) (place_at text g.due) other = rw (← due) h.fault in
    same_fault (drop g.due text) (place_at text g.due) why other g.fault here

pub tokens_or_refused : {text : List ℕ} {from : ℕ} {tokens : List Token} {why : LexRefusal} → HasTokensFrom text from tokens → IsRefusedFrom text from why → ⊥
tokens_or_refused {text = text} (at_end {from = from} {token = token} e) (at_fault {why = why} stop) = end_or_stopped text from token why e stop
tokens_or_refused {text = text} (at_end {from = from} {token = token} e) (behind_token {token = other} next refused) = end_or_next text from token other e next
tokens_or_refused {text = text} (at_token {from = from} {token = token} next rest) (at_fault {why = why} stop) = next_or_stopped text from token why next stop
tokens_or_refused {text = text} (at_token {from = from} {token = token} next rest) (behind_token {token = other} {why = why} too refused) =
    let same : token ≡ other = same_next text from token other next too in
    let moved : IsRefusedFrom text token.end why = rw same refused in
    tokens_or_refused rest moved

pub same_refusal : {text : List ℕ} {from : ℕ} {why other : LexRefusal} → IsRefusedFrom text from why → IsRefusedFrom text from other → why ≡ other
same_refusal {text = text} (at_fault {from = from} {why = why} stop) (at_fault {why = other} too) = same_stop text from why other stop too
same_refusal {text = text} (at_fault {from = from} {why = why} stop) (behind_token {token = token} next refused) = absurd (next_or_stopped text from token why next stop)
same_refusal {text = text} (behind_token {from = from} {token = token} next refused) (at_fault {why = other} too) = absurd (next_or_stopped text from token other next too)
same_refusal {text = text} (behind_token {from = from} {token = token} next refused) (behind_token {token = other} {why = why} too others) =
    let same : token ≡ other = same_next text from token other next too in
    let moved : IsRefusedFrom text token.end why = rw same others in
    same_refusal refused moved
