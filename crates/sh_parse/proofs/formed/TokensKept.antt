-- What is known of the tokens of a text: their kinds by their classes, their names, their numbers.
use Rattle.std.proofs.Common.{◌≡◌, ◌+◌, ◌-◌, ◌*◌, ◌^◌, ◌<◌, ◌≤◌, ◌∙◌, ℕ, zero, suc, Bool, true, false, cond, nat_eq, nat_lt, nat_le, List, [], ◌∷◌, length, take, drop, refl, ap, sym, subst, inl, inr, arith}
use Rattle.std.specs.Prelude.{fold, ◌&&◌, ◌||◌}
use Rattle.std.specs.List.{AllByRecursion, list_all, prefix_len, take_while}
use Rattle.std.specs.Cmp.Lexicographic.{pointwise}
use Rattle.std.proofs.lemmas.Bool.{and_from, and_parts, cond_both, eqb-true, cases_Bool, lt-ltb, or_left, or_right}
use Rattle.sh_build.specs.declared.parts.Alias.{Alias}
use Rattle.sh_build.specs.declared.parts.Mark.{Mark}
use Rattle.sh_build.specs.declared.parts.Part.TheVariants as part
use Rattle.sh_grammar.specs.Lexemes.{Lexeme, Spelling, bangs, class_in, class_of, class_of_kind, dims, first_class, former_bangs, former_words, hashes, lexeme_of, lexemes, signs, spellings_of, words}
use Rattle.sh_ir.specs.Formed as formed
use Rattle.sh_ir.specs.declared.types.Dim.TheVariants.{Differs, Known}
use Rattle.sh_lex.specs.Tokens.{Each, HasTokensFrom, IsEnd, IsNamed, IsNext, IsRun, Spells, at_end, at_token, decimal_of, is_digit, is_letter, is_name_byte, leading_value}
use Rattle.sh_lex.specs.declared.tokens.Token.{Token}
use Rattle.sh_lex.specs.declared.tokens.TokenKind.{TokenKind}
use Rattle.sh_lex.specs.declared.tokens.TokenKind.TheVariants.{Word, Val, At, Hash, Block, Bang, Number, Dim, Str, Sign, End}
use Rattle.sh_parse.proofs.formed.PartsKept.{DimSpelled, LeafKept, MapNumbered, Named}
use Rattle.sh_parse.specs.Reads.{leaf, leaf_by_kind, map_of}

-- ## Kinds by classes

-- the class of all tokens of a kind, keywords among them, by the class of one
abbrev pub kind_class : ℕ → ℕ
kind_class c =
    cond (nat_lt c 11) c
    (cond (nat_lt c 24) 9 (cond (nat_lt c 25) 7 (cond (nat_lt c 26) 5 (cond (nat_lt c 27) 3 0))))

class_in_kept : (p : ℕ → Bool) (ss : List Spelling) (text : List ℕ) (d : ℕ) → list_all (λ s. p s.class) ss ≡ true
    → p d ≡ true → p (class_in ss text d) ≡ true
class_in_kept p [] text d all other = other
class_in_kept p (s ∷ ss) text d all other =
    let parts = and_parts (p s.class) (list_all (λ s. p s.class) ss) all in
    cond_both (pointwise nat_eq s.text text) _ _ (λ c. p c ≡ true) (λ _. parts.0)
    (λ _. class_in_kept p ss text d parts.1 other)

kind_of_class : (kind : TokenKind) (text : List ℕ)
    → kind_class (class_in (spellings_of kind) text (class_of_kind kind)) ≡ class_of_kind kind
unfolding first_class signs dims bangs hashes words former_words former_bangs
kind_of_class Word text =
    eqb-true _ _ (class_in_kept (λ c. nat_eq (kind_class c) 0) (spellings_of Word) text 0 refl refl)
kind_of_class Val text = refl
kind_of_class At text = refl
kind_of_class Hash text =
    eqb-true _ _ (class_in_kept (λ c. nat_eq (kind_class c) 3) (spellings_of Hash) text 3 refl refl)
kind_of_class Block text = refl
kind_of_class Bang text =
    eqb-true _ _ (class_in_kept (λ c. nat_eq (kind_class c) 5) (spellings_of Bang) text 5 refl refl)
kind_of_class Number text = refl
kind_of_class Dim text =
    eqb-true _ _ (class_in_kept (λ c. nat_eq (kind_class c) 7) (spellings_of Dim) text 7 refl refl)
kind_of_class Str text = refl
kind_of_class Sign text =
    eqb-true _ _ (class_in_kept (λ c. nat_eq (kind_class c) 9) (spellings_of Sign) text 9 refl refl)
kind_of_class End text = refl

pub class_kind : (t : Lexeme) → kind_class (class_of t) ≡ class_of_kind t.kind
unfolding class_of
class_kind t = kind_of_class t.kind t.text

-- a token of this class is of this kind
pub by_class : (t : Lexeme) (c : ℕ) → class_of t ≡ c → class_of_kind t.kind ≡ kind_class c
by_class t c e = sym (class_kind t) ∙ ap kind_class e

-- ## Names

reordered : (lower upper digit line dot dollar : Bool)
    → (upper || lower || line || digit || dot || dollar) ≡ true → (lower || upper || digit || line || dot || dollar) ≡ true
reordered lower upper digit line dot true h = or_right (lower || upper || digit || line || dot) true refl
reordered lower upper digit line true false h = or_left (lower || upper || digit || line || true) false
    (or_right (lower || upper || digit || line) true refl)
reordered true upper digit line false false h = refl
reordered false true digit line false false h = refl
reordered false false true line false false h = refl
reordered false false false true false false h = refl
reordered false false false false false false h = h

name_byte : (b : ℕ) → is_name_byte b ≡ true → formed.is_name_byte b ≡ true
unfolding is_name_byte is_letter is_digit
name_byte b h = reordered (nat_le 97 b && nat_le b 122) (nat_le 65 b && nat_le b 90) (nat_le 48 b && nat_le b 57)
    (nat_eq b 95) (nat_eq b 46) (nat_eq b 36) h

all_name_bytes : (bytes : List ℕ) → Each is_name_byte bytes → list_all formed.is_name_byte bytes ≡ true
all_name_bytes [] h = refl
all_name_bytes (b ∷ bytes) h = and_from (formed.is_name_byte b) _ (name_byte b h.0) (all_name_bytes bytes h.1)

named : (bytes : List ℕ) → IsNamed 64 is_name_byte bytes → Named (drop 1 bytes)
named [] h = absurd h
named (b ∷ []) h = absurd h.1
named (b ∷ c ∷ bytes) h =
    and_from (nat_lt 0 (length (c ∷ bytes))) _ (lt-ltb 0 (length (c ∷ bytes)) (omega arith)) (all_name_bytes (c ∷ bytes) h.1)

-- ## Numbers

abbrev pub digit_more : ℕ → ℕ → ℕ
digit_more n d = n * 10 + (d - 48)

grows : (n : ℕ) (digits : List ℕ) → n ≤ fold digit_more n digits
grows n [] = omega arith
grows n (d ∷ digits) = let rest : digit_more n d ≤ fold digit_more (digit_more n d) digits = grows (digit_more n d) digits in omega arith

digit_first : (b : ℕ) (bytes : List ℕ) → is_digit b ≡ true
    → take_while is_digit (b ∷ bytes) ≡ b ∷ take_while is_digit bytes
digit_first b bytes h =
    let e : 1 + prefix_len is_digit bytes ≡ suc (prefix_len is_digit bytes) = omega arith in
    ap (λ t. take (cond t (1 + prefix_len is_digit bytes) 0) (b ∷ bytes)) h ∙ ap (λ n. take n (b ∷ bytes)) e

no_digit : (b : ℕ) (bytes : List ℕ) → is_digit b ≡ false → take_while is_digit (b ∷ bytes) ≡ []
no_digit b bytes h = ap (λ t. take (cond t (1 + prefix_len is_digit bytes) 0) (b ∷ bytes)) h

-- the digits at the front of a front are not worth more
front_of_front : (k n : ℕ) (bytes : List ℕ)
    → fold digit_more n (take_while is_digit (take k bytes)) ≤ fold digit_more n (take_while is_digit bytes)
front_of_front zero n bytes = grows n (take_while is_digit bytes)
front_of_front (suc k) n [] = omega arith
front_of_front (suc k) n (b ∷ bytes) = elim (cases_Bool (is_digit b)) [
  | inl h ↦ let step = front_of_front k (digit_more n b) bytes in
      rw (digit_first b (take k bytes) h, digit_first b bytes h) step
  | inr h ↦ rw (no_digit b (take k bytes) h, no_digit b bytes h) (omega arith)
]

all_digits : (bytes : List ℕ) → Each is_digit bytes → take_while is_digit bytes ≡ bytes
all_digits [] h = refl
all_digits (b ∷ bytes) h = digit_first b bytes h.0 ∙ ap (λ bs. b ∷ bs) (all_digits bytes h.1)

number_leads : (bytes : List ℕ) → IsRun is_digit bytes → decimal_of bytes ≡ leading_value bytes
number_leads [] h = absurd h
number_leads (b ∷ bytes) h = ap decimal_of (sym (all_digits (b ∷ bytes) h))

-- ## Tokens

-- what is known of a token
pub record LexemeKept (t : Lexeme) : Type 0 where
  pub name : t.kind ≡ At → Named (drop 1 t.text)
  pub number : t.kind ≡ Number → decimal_of t.text < 2 ^ 64
  pub leading : leading_value t.text < 2 ^ 64

next_kept : (text : List ℕ) (from : ℕ) (t : Token) → IsNext text from t → LexemeKept (lexeme_of text t)
next_kept text from t n =
    let bytes = take (t.end - t.start) (drop t.start text) in
    let below : leading_value bytes ≤ leading_value (drop t.start text) = front_of_front (t.end - t.start) 0 (drop t.start text) in
    let narrow : leading_value (drop t.start text) < 2 ^ 64 = n.narrow in
    let leading : leading_value bytes < 2 ^ 64 = omega arith in
    record {
      name = λ e. named bytes (subst (λ kind. Spells kind bytes) e n.front.spelled);
      number = λ e. subst (λ v. v < 2 ^ 64) (sym (number_leads bytes (subst (λ kind. Spells kind bytes) e n.front.spelled))) leading;
      leading = leading;
    }

end_kept : (text : List ℕ) (from : ℕ) (t : Token) → IsEnd text from t → LexemeKept (lexeme_of text t)
end_kept text from t e =
    let kind : t.kind ≡ End = ap (λ (x : Token). x.kind) e.marks_end in
    let start : t.start ≡ length text = ap (λ (x : Token). x.start) e.marks_end in
    let end : t.end ≡ length text = ap (λ (x : Token). x.end) e.marks_end in
    let none : t.end - t.start ≡ 0 = omega arith in
    let empty : leading_value (take (t.end - t.start) (drop t.start text)) < 2 ^ 64 = rw none (omega arith) in
    record { name = λ at. cc; number = λ number. cc; leading = empty }

pub tokens_kept : (text : List ℕ) (from : ℕ) (ts : List Token) → HasTokensFrom text from ts
    → AllByRecursion LexemeKept (lexemes text ts)
tokens_kept text from ts (at_end {token = t} e) = (end_kept text from t e, tt)
tokens_kept text from ts (at_token {token = t} n rest) = (next_kept text from t n, tokens_kept text t.end _ rest)

-- ## Their parts

map_of_kept : (aliases : List Alias) (name : List ℕ) → AllByRecursion (λ a. MapNumbered a.map) aliases
    → MapNumbered (map_of aliases name)
map_of_kept [] name h = refl
map_of_kept (a ∷ aliases) name h =
    cond_both (pointwise nat_eq a.name name) _ _ MapNumbered (λ _. h.0) (λ _. map_of_kept aliases name h.1)

marked : (m : Mark) (c : ℕ) → (c ≡ 2 → ⊥) → LeafKept c (part.Mark m)
marked m c not_at = record { number = refl; dim = refl; map = refl; name = λ at. absurd (not_at at) }

dim_kept : (text : List ℕ) (b : Bool) → leading_value text < 2 ^ 64
    → DimSpelled (cond b Differs (Known (leading_value text)))
dim_kept text true h = refl
dim_kept text false h = lt-ltb (leading_value text) (2 ^ 64) h

module _ (aliases : List Alias) (t : Lexeme) (id : ℕ) (numbered : AllByRecursion (λ a. MapNumbered a.map) aliases)
    (kept : LexemeKept t) where
  not_at : (kind : TokenKind) → t.kind ≡ kind → (class_of_kind kind ≡ 2 → ⊥) → class_of t ≡ 2 → ⊥
  not_at kind is other c = other (ap class_of_kind (sym is) ∙ by_class t 2 c)

  by_kind : (kind : TokenKind) → t.kind ≡ kind → LeafKept (class_of t) (leaf_by_kind kind aliases t id)
  by_kind Word is = marked _ (class_of t) (not_at Word is (λ e. cc))
  by_kind Val is = marked _ (class_of t) (not_at Val is (λ e. cc))
  by_kind At is = record { number = refl; dim = refl; map = refl; name = λ _. kept.name is }
  by_kind Hash is = record {
    number = refl;
    dim = refl;
    map = map_of_kept aliases (drop 1 t.text) numbered;
    name = λ at. absurd (not_at Hash is (λ e. cc) at);
  }
  by_kind Block is = marked _ (class_of t) (not_at Block is (λ e. cc))
  by_kind Bang is = marked _ (class_of t) (not_at Bang is (λ e. cc))
  by_kind Number is = record {
    number = lt-ltb (decimal_of t.text) (2 ^ 64) (kept.number is);
    dim = refl;
    map = refl;
    name = λ at. absurd (not_at Number is (λ e. cc) at);
  }
  by_kind Dim is = record {
    number = refl;
    dim = dim_kept t.text _ kept.leading;
    map = refl;
    name = λ at. absurd (not_at Dim is (λ e. cc) at);
  }
  by_kind Str is = record { number = refl; dim = refl; map = refl; name = λ at. absurd (not_at Str is (λ e. cc) at) }
  by_kind Sign is = marked _ (class_of t) (not_at Sign is (λ e. cc))
  by_kind End is = marked _ (class_of t) (not_at End is (λ e. cc))

pub leaf_kept : (aliases : List Alias) (t : Lexeme) (id : ℕ) → AllByRecursion (λ a. MapNumbered a.map) aliases
    → LexemeKept t → LeafKept (class_of t) (leaf aliases t id)
leaf_kept aliases t id n k = by_kind aliases t id n k t.kind refl
