-- A text that is none of the language has one first fault, and one that stands for a module has none.
use mathlib.Core.Path.{◌∙◌, ap, sym, refl}
use Rattle.std.proofs.Common.{◌≡◌, ◌⊎◌, inl, inr, ℕ, List, ap₂, subst}
use Rattle.sh_base.specs.declared.places.Place.{Place}
use Rattle.sh_base.specs.declared.places.Refusal.{Refusal}
use Rattle.sh_base.specs.declared.rules.Rule.{Rule}
use Rattle.sh_base.specs.declared.rules.Rule.TheVariants.{B1, B2, B3}
use Rattle.sh_grammar.specs.Lexemes.{Lexeme, lexemes}
use Rattle.sh_ir.specs.declared.modules.Module.{Module}
use Rattle.sh_ir.specs.Rules.{refusal_at}
use Rattle.sh_lex.specs.Tokens.{HasTokens, IsRefused}
use Rattle.sh_lex.specs.declared.tokens.LexRefusal.{LexRefusal}
use Rattle.sh_lex.specs.declared.tokens.LexRefusal.TheVariants.{BadByte, OpenString, NumberTooWide, Mem}
use Rattle.sh_lex.specs.declared.tokens.Token.{Token}
use Rattle.sh_lex.proofs.Uniqueness.{same_refusal, same_tokens, tokens_or_refused}
use Rattle.sh_parse.specs.Reads.{IsRefusedAt, Reads, TokensRead}
use Rattle.sh_parse.proofs.Refusing.{not_both, one_refusal}
use Rattle.sh_cli.specs.Answer.{IsNoText}
use Rattle.sh_cli.specs.Answer.IsNoText.{by_byte, by_number, by_string, by_token}

-- the refusal of a text without tokens
fault_of : Refusal → LexRefusal → Refusal
fault_of other (BadByte place) = refusal_at place B1
fault_of other (OpenString place) = refusal_at place B2
fault_of other (NumberTooWide place) = refusal_at place B3
fault_of other Mem = other

-- the text has no tokens, and this is the refusal
record IsByLexer (text : List ℕ) (r : Refusal) : Type 0 where
  why : LexRefusal
  refused : IsRefused text why
  is : (other : Refusal) → fault_of other why ≡ r

-- the text has tokens, and one of them is refused
record IsByReader (text : List ℕ) (r : Refusal) : Type 0 where
  tokens : List Token
  at : ℕ
  token : Lexeme
  has : HasTokens text tokens
  refused : IsRefusedAt (lexemes text tokens) at token r.rule
  place : r.place ≡ token.place

causes : (text : List ℕ) (r : Refusal) → IsNoText text r → IsByLexer text r ⊎ IsByReader text r
unfolding fault_of
causes text _ (by_byte place refused) = inl (record { why = BadByte place; refused = refused; is = λ other. refl })
causes text _ (by_string place refused) = inl (record { why = OpenString place; refused = refused; is = λ other. refl })
causes text _ (by_number place refused) = inl (record { why = NumberTooWide place; refused = refused; is = λ other. refl })
causes text r (by_token tokens i t _ has refused place) =
    inr (record { tokens = tokens; at = i; token = t; has = has; refused = refused; place = place })

of_lexer : (text : List ℕ) (r s : Refusal) → IsByLexer text r → IsByLexer text s → r ≡ s
of_lexer text r s a b = sym (a.is r) ∙ ap (fault_of r) (same_refusal a.refused b.refused) ∙ b.is r

of_reader : (text : List ℕ) (r s : Refusal) → IsByReader text r → IsByReader text s → r ≡ s
of_reader text r s a b =
    let tokens : a.tokens ≡ b.tokens = same_tokens a.has b.has in
    let here = subst (λ ts. IsRefusedAt (lexemes text ts) a.at a.token r.rule) tokens a.refused in
    let one = one_refusal (lexemes text b.tokens) a.at b.at a.token b.token r.rule s.rule here b.refused in
    let places : r.place ≡ s.place = a.place ∙ ap (λ t. t.place) one.token ∙ sym b.place in
    ap₂ (λ (p : Place) (q : Rule). refusal_at p q) places one.code

pub one_fault : (text : List ℕ) (r s : Refusal) → IsNoText text r → IsNoText text s → r ≡ s
one_fault text r s a b = by (causes text r a) (causes text s b)
  where
    by : IsByLexer text r ⊎ IsByReader text r → IsByLexer text s ⊎ IsByReader text s → r ≡ s
    by (inl x) (inl y) = of_lexer text r s x y
    by (inl x) (inr y) = absurd (tokens_or_refused y.has x.refused)
    by (inr x) (inl y) = absurd (tokens_or_refused x.has y.refused)
    by (inr x) (inr y) = of_reader text r s x y

pub not_read : (text : List ℕ) (r : Refusal) (m : Module) → IsNoText text r → Reads text m → ⊥
not_read text r m a read = by (causes text r a)
  where
    by : IsByLexer text r ⊎ IsByReader text r → ⊥
    by (inl x) = tokens_or_refused read.has x.refused
    by (inr x) =
        let tokens : x.tokens ≡ read.tokens = same_tokens x.has read.has in
        let here = subst (λ ts. IsRefusedAt (lexemes text ts) x.at x.token r.rule) tokens x.refused in
        not_both (lexemes text read.tokens) x.at x.token r.rule m here read.read
