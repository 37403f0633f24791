-- The spans of tokens.
use Rattle.std.proofs.Common.{ℕ, zero, suc, ◌-◌, ◌<◌, ◌≤◌, List, [], ◌∷◌, length, drop, All, refl, sym, subst, arith, length-drop, le_refl}
use Rattle.std.specs.List.{AllByRecursion}
use Rattle.std.proofs.lemmas.List.Elements.{All-from_recursion}
use Rattle.sh_lex.specs.declared.tokens.TokenKind.{TokenKind}
use Rattle.sh_lex.specs.declared.tokens.Token.{Token}
use Rattle.sh_lex.specs.Tokens.{IsFront, IsNext, HasTokensFrom, at_end, at_token, AreSpans}
use Rattle.sh_lex.proofs.FrontLemmas.{spells_some}

some_bytes : (rest : List ℕ) (kind : TokenKind) (len : ℕ) → IsFront rest kind len → 0 < len
some_bytes rest kind zero front = absurd (spells_some kind front.spelled)
some_bytes rest kind (suc len) front = omega arith

-- a span is within the text
next_within : (text : List ℕ) (from : ℕ) (token : Token) → IsNext text from token → token.end ≤ length text
next_within text from token next = omega (arith, next.front.within, next.gap.within, next.order, length-drop token.start text)

pub are_spans : {text : List ℕ} {from : ℕ} {tokens : List Token} → HasTokensFrom text from tokens → AreSpans text from tokens
are_spans {text = text} (at_end {from = from} {token = token} e) =
    subst (λ (t : Token). AreSpans text from (t ∷ [])) (sym e.marks_end) (e.gap.order, refl, refl, refl)
are_spans {text = text} (at_token {from = from} {token = token} {tokens = tokens} next rest) = before_spans text from token tokens next (are_spans rest)
  where
    before_spans : (text : List ℕ) (from : ℕ) (token : Token) (tokens : List Token) → IsNext text from token → AreSpans text token.end tokens → AreSpans text from (token ∷ tokens)
    before_spans text from token [] next spans = absurd spans
    before_spans text from token (u ∷ tokens) next spans =
        let some = some_bytes (drop token.start text) token.kind (token.end - token.start) next.front in
        (next.gap.order, omega arith, next_within text from token next, next.front.spelled, spans)

abbrev IsWithin : List ℕ → Token → Type 0
IsWithin text token = (token.start ≤ token.end) × (token.end ≤ length text)

within_by_recursion : {text : List ℕ} {from : ℕ} {tokens : List Token} → HasTokensFrom text from tokens → AllByRecursion (IsWithin text) tokens
within_by_recursion {text = text} (at_end {token = token} e) =
    (subst (IsWithin text) (sym e.marks_end) (le_refl (length text), le_refl (length text)), tt)
within_by_recursion {text = text} (at_token {from = from} {token = token} next rest) = ((next.order, next_within text from token next), within_by_recursion rest)

pub are_within : {text : List ℕ} {from : ℕ} {tokens : List Token} → HasTokensFrom text from tokens → All (λ token. (token.start ≤ token.end) × (token.end ≤ length text)) tokens
are_within {text = text} {tokens = tokens} have = All-from_recursion (IsWithin text) tokens (within_by_recursion have)
