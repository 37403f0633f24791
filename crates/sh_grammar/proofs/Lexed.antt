-- What the machine needs of the tokens of a text.
use Rattle.std.proofs.Common.{◌≡◌, ℕ, zero, suc, ◌-◌, ◌<◌, ◌≤◌, List, [], ◌∷◌, ◌++◌, length, drop, refl, ap, arith, Some, length-drop}
use Rattle.std.specs.Prelude.{slice_get, get_or}
use Rattle.std.proofs.lemmas.Option.{slice_get-get_or}
use Rattle.sh_lex.specs.declared.tokens.Token.{Token}
use Rattle.sh_lex.specs.Tokens.{HasTokens, HasTokensFrom, at_end, at_token, IsNext, IsEnd}
use Rattle.sh_grammar.specs.Lexemes.{Lexeme, lexeme_of, lexemes, class_of, first_class}

end_span : {text : List ℕ} {from : ℕ} {t : Token} → IsEnd text from t → (t.start ≤ t.end) × (t.end ≤ length text)
end_span {text} {from} {t} e =
    let start : t.start ≡ length text = ap (λ (x : Token). x.start) e.marks_end in
    let end : t.end ≡ length text = ap (λ (x : Token). x.end) e.marks_end in
    (omega arith, omega arith)

next_span : {text : List ℕ} {from : ℕ} {t : Token} → IsNext text from t → (t.start ≤ t.end) × (t.end ≤ length text)
next_span {text} {from} {t} n =
    let within : t.end - t.start ≤ length (drop t.start text) = n.front.within in
    let start : t.start ≤ length text = n.gap.within in
    let order : t.start ≤ t.end = n.order in
    (n.order, omega (arith, length-drop {A = ℕ}))

-- each token is a part of the text
pub spans : {text : List ℕ} {from : ℕ} {ts : List Token} → HasTokensFrom text from ts → (i : ℕ) (t : Token) → slice_get ts i ≡ Some t
    → (t.start ≤ t.end) × (t.end ≤ length text)
spans {text} {from} (at_end {token = u} e) zero t at = let same : u ≡ t = cc in end_span (rw same at e)
spans (at_end e) (suc i) t at = cc
spans {text} {from} (at_token {token = u} n rest) zero t at = let same : u ≡ t = cc in next_span (rw same at n)
spans (at_token n rest) (suc i) t at = spans rest i t at

pub span_at : {text : List ℕ} {ts : List Token} → HasTokens text ts → (i : ℕ) (d : Token) → i < length ts
    → ((get_or ts i d).start ≤ (get_or ts i d).end) × ((get_or ts i d).end ≤ length text)
span_at {text} {ts} has i d h = spans has i (get_or ts i d) (slice_get-get_or ts i d h)

-- the last token is the end
pub record Closed (ts : List Lexeme) : Type 0 where
  pub front : List Lexeme
  pub last : Lexeme
  pub is : ts ≡ front ++ last ∷ []
  pub ends : class_of last ≡ 10

end_class : {text : List ℕ} {from : ℕ} {t : Token} → IsEnd text from t → class_of (lexeme_of text t) ≡ 10
unfolding class_of first_class
end_class {text} {from} {t} e = rw e.marks_end refl

pub closed : {text : List ℕ} {from : ℕ} {ts : List Token} → HasTokensFrom text from ts → Closed (lexemes text ts)
closed {text} (at_end {token = t} e) = record { front = []; last = lexeme_of text t; is = refl; ends = end_class e }
closed {text} (at_token {token = t} n rest) =
    let c = closed rest in
    record { front = lexeme_of text t ∷ c.front; last = c.last; is = ap (λ ts. lexeme_of text t ∷ ts) c.is; ends = c.ends }
