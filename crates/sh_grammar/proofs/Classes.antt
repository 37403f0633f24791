-- Each class has a token.
use Rattle.std.proofs.Common.{◌≡◌, ◌⊎◌, ℕ, zero, suc, ◌-◌, ◌<◌, Bool, true, cond, nat_eq, nat_lt, List, [], ◌∷◌, get_or, refl, ap, arith, inl, inr}
use Rattle.std.proofs.lemmas.Bool.{eqb-true, ltb-true}
use Rattle.sh_base.specs.declared.places.Place.{Place}
use Rattle.sh_lex.specs.declared.tokens.TokenKind.{TokenKind}
use Rattle.sh_lex.specs.declared.tokens.TokenKind.TheVariants.{Word, Val, At, Hash, Block, Bang, Number, Dim, Str, Sign, End}
use Rattle.sh_grammar.specs.Lexemes.{Lexeme, class_of, first_class, class_count, keywords, signs, dims, bangs, hashes, words, former_words, former_bangs}
use Rattle.sh_grammar.specs.Predictive.{◌&◌}
use Rattle.sh_grammar.proofs.Booleans.{and_both}

kinds : List TokenKind
kinds = Word ∷ Val ∷ At ∷ Hash ∷ Block ∷ Bang ∷ Number ∷ Dim ∷ Str ∷ Sign ∷ End ∷ []

-- the kind of a keyword, by its class
keyword_kind : ℕ → TokenKind
keyword_kind c = cond (nat_lt c 24) Sign (cond (nat_lt c 25) Dim (cond (nat_lt c 26) Bang (cond (nat_lt c 27) Hash Word)))

somewhere : Place
somewhere = record { line = 1; column = 1 }

-- a token of the class c
unfoldable sample : ℕ → Lexeme
unfolding kinds keyword_kind
sample c = cond (nat_lt c 11) (record { kind = get_or kinds c Word; text = []; place = somewhere }) (record { kind = keyword_kind c; text = get_or keywords (c - 11) []; place = somewhere })

-- each of the numbers below n has a sample
unfoldable sampled : ℕ → Bool
sampled zero = true
sampled (suc n) = nat_eq (class_of (sample n)) n & sampled n

all_sampled : sampled class_count ≡ true
unfolding sampled sample kinds keyword_kind class_of first_class class_count signs dims bangs hashes words former_words former_bangs ◌&◌
all_sampled = refl

below_cases : (c n : ℕ) → c < suc n → (c ≡ n) ⊎ (c < n)
below_cases zero zero h = inl refl
below_cases zero (suc n) h = inr (omega arith)
below_cases (suc c) zero h = absurd (omega arith)
below_cases (suc c) (suc n) h = elim (below_cases c n (omega arith)) [ inl e ↦ inl (ap suc e) | inr l ↦ inr (omega arith) ]

sampled_at : (n c : ℕ) → sampled n ≡ true → c < n → class_of (sample c) ≡ c
unfolding sampled
sampled_at zero c e h = absurd (omega arith)
sampled_at (suc n) c e h = elim (below_cases c n h) [
  | inl same ↦ rw same (eqb-true _ _ (and_both _ _ e).0)
  | inr less ↦ sampled_at n c (and_both _ _ e).1 less
]

pub token_of : (c : ℕ) → nat_lt c class_count ≡ true → (t : Lexeme) × (class_of t ≡ c)
token_of c h = (sample c, sampled_at class_count c all_sampled (ltb-true _ _ h))
