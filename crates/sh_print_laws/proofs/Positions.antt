-- Names by their positions: each position has one text, and no name of a region is one of its function.
use Rattle.std.proofs.Common.{◌≡◌, ◌∙◌, ◌<◌, ◌≤◌, ◌+◌, ◌-◌, ◌^◌, inl, inr, ◌||◌, ℕ, Bool, true, false, nat_eq, nat_lt, List, [], ◌∷◌, ◌++◌, drop, get_or, length, Some, None, refl, ap, sym, subst, arith, codes, if◌then◌else◌, lt-ltb, ltb-true, ltb-false, true≢false}
use Rattle.std.specs.Prelude.{decimal, fold}
use Rattle.std.specs.List.{position_or_len}
use Rattle.std.proofs.Math.Bool.{or-false}
use Rattle.std.proofs.lemmas.Bool.{cases_Bool, eqb-true, or_left}
use Rattle.std.proofs.lemmas.Fmt.{decimal_injective}
use Rattle.std.proofs.lemmas.List.Folds.{list_any-append}
use Rattle.sh_ir.specs.Regions.{is_among}
use Rattle.sh_lex.specs.Tokens.{is_digit}
use Rattle.sh_print.specs.Values.{Scope, each_once, name_at, name_in, name_inside, name_text, own_name_at, place_in}
use Rattle.sh_print.specs.declared.names.Name.TheVariants.{Argument, Value, BlockArgument, BodyValue}
use Rattle.sh_print_laws.proofs.Decimals.{first_digit, numeral, other_byte}
use Rattle.sh_print_laws.proofs.RegionForms.{is_inner}

-- ## Each once

abbrev pub once_more : List ℕ → ℕ → List ℕ
once_more names id = if is_among names id then names else names ++ id ∷ []

among_once : (names : List ℕ) (id a : ℕ) → is_among (once_more names id) a ≡ (is_among names a || nat_eq a id)
among_once names id a = elim (cases_Bool (is_among names id)) [
  | inl e ↦ rw e (elim (cases_Bool (nat_eq a id)) [
    | inl same ↦ subst (λ b. is_among names b ≡ (is_among names b || nat_eq b id)) (sym (eqb-true a id same)) (e ∙ sym (or_left (is_among names id) (nat_eq id id) e))
    | inr other ↦ rw other (sym (or-false (is_among names a)))
  ])
  | inr e ↦ rw e (list_any-append (nat_eq a) names (id ∷ []) ∙ ap (λ b. is_among names a || b) (or-false (nat_eq a id)))
]

or_assoc : (a b c : Bool) → ((a || b) || c) ≡ (a || (b || c))
or_assoc true b c = refl
or_assoc false b c = refl

among_fold : (names ids : List ℕ) (a : ℕ) → is_among (fold once_more names ids) a ≡ (is_among names a || is_among ids a)
among_fold names [] a = sym (or-false (is_among names a))
among_fold names (id ∷ ids) a =
    among_fold (once_more names id) ids a ∙ ap (λ b. b || is_among ids a) (among_once names id a) ∙ or_assoc (is_among names a) (nat_eq a id) (is_among ids a)

pub among_each : (ids : List ℕ) (a : ℕ) → is_among (each_once ids) a ≡ is_among ids a
among_each ids a = among_fold [] ids a

-- ## Positions

pub place_some : (xs : List ℕ) (a : ℕ) → is_among xs a ≡ true → position_or_len (nat_eq a) xs < length xs
place_some [] a h = absurd (let e : false ≡ true = h in cc)
place_some (x ∷ xs) a h = elim (cases_Bool (nat_eq a x)) [
  | inl e ↦ rw e (omega arith)
  | inr e ↦ let rest = place_some xs a (ap (λ b. b || is_among xs a) (sym e) ∙ h) in rw e (omega arith)
]

place_none : (xs : List ℕ) (a : ℕ) → is_among xs a ≡ false → position_or_len (nat_eq a) xs ≡ length xs
place_none [] a h = refl
place_none (x ∷ xs) a h = elim (cases_Bool (nat_eq a x)) [
  | inl e ↦ absurd (true≢false (sym (or_left (nat_eq a x) (is_among xs a) e) ∙ h))
  | inr e ↦ let rest = place_none xs a (ap (λ b. b || is_among xs a) (sym e) ∙ h) in rw e (omega arith)
]

same_place : (xs : List ℕ) (a b : ℕ) → is_among xs a ≡ true → is_among xs b ≡ true → position_or_len (nat_eq a) xs ≡ position_or_len (nat_eq b) xs → a ≡ b
same_place [] a b h g e = absurd (let no : false ≡ true = h in cc)
same_place (x ∷ xs) a b h g e = by (nat_eq a x) (nat_eq b x) refl refl (same_place xs a b)
  where
    by : (p q : Bool) → nat_eq a x ≡ p → nat_eq b x ≡ q → (is_among xs a ≡ true → is_among xs b ≡ true → position_or_len (nat_eq a) xs ≡ position_or_len (nat_eq b) xs → a ≡ b) → a ≡ b
    by true true p q again = eqb-true a x p ∙ sym (eqb-true b x q)
    by true false p q again = absurd (let no : 0 ≡ 1 + position_or_len (nat_eq b) xs = rw (p, q) at e in omega arith)
    by false true p q again = absurd (let no : 1 + position_or_len (nat_eq a) xs ≡ 0 = rw (p, q) at e in omega arith)
    by false false p q again =
        let both : 1 + position_or_len (nat_eq a) xs ≡ 1 + position_or_len (nat_eq b) xs = rw (p, q) at e in
        again (ap (λ t. t || is_among xs a) (sym p) ∙ h) (ap (λ t. t || is_among xs b) (sym q) ∙ g) (omega arith)

abbrev pub place_of : Scope → ℕ → ℕ
place_of scope a = position_or_len (nat_eq a) scope.ids

pub is_placed : (scope : Scope) (a : ℕ) → is_among scope.ids a ≡ true → place_in scope a ≡ Some (place_of scope a)
is_placed scope a h = rw (lt-ltb (place_of scope a) (length scope.ids) (place_some scope.ids a h)) refl

not_less : (n m : ℕ) → n ≡ m → nat_lt n m ≡ false
not_less n m e = elim (cases_Bool (nat_lt n m)) [
  | inl h ↦ absurd (let less : n < m = ltb-true n m h in omega arith)
  | inr h ↦ h
]

pub not_placed : (scope : Scope) (a : ℕ) → is_among scope.ids a ≡ false → place_in scope a ≡ None
not_placed scope a h = rw (not_less (place_of scope a) (length scope.ids) (place_none scope.ids a h)) refl

-- ## Texts

-- the text of an argument isn't that of a value
letter_apart : (b n : ℕ) (more : List ℕ) → is_digit b ≡ false → n < 2 ^ 64 → b ∷ more ≡ decimal n → ⊥
letter_apart b n more letter small e =
    let it = numeral n small in
    let same : b ≡ it.first = (let all : b ∷ more ≡ it.first ∷ it.more = e ∙ it.is in cc) in
    true≢false (sym (first_digit it) ∙ ap is_digit (sym same) ∙ letter)

at_names_apart : (args i j : ℕ) → i < 2 ^ 64 → j < 2 ^ 64
    → name_text (if nat_lt i args then Argument i else Value (i - args)) ≡ name_text (if nat_lt j args then Argument j else Value (j - args)) → i ≡ j
unfolding is_digit
at_names_apart args i j small low e = by (nat_lt i args) (nat_lt j args) refl refl
  where
    by : (p q : Bool) → nat_lt i args ≡ p → nat_lt j args ≡ q → i ≡ j
    by true true p q = let same : codes "%arg" ++ decimal i ≡ codes "%arg" ++ decimal j = rw (p, q) at e in decimal_injective i j small low (ap (drop 4) same)
    by true false p q = absurd (let same : codes "%arg" ++ decimal i ≡ codes "%" ++ decimal (j - args) = rw (p, q) at e in
        letter_apart 97 (j - args) (codes "rg" ++ decimal i) refl (omega arith) (ap (drop 1) same))
    by false true p q = absurd (let same : codes "%" ++ decimal (i - args) ≡ codes "%arg" ++ decimal j = rw (p, q) at e in
        letter_apart 97 (i - args) (codes "rg" ++ decimal j) refl (omega arith) (sym (ap (drop 1) same)))
    by false false p q =
        let same : codes "%" ++ decimal (i - args) ≡ codes "%" ++ decimal (j - args) = rw (p, q) at e in
        let here : args ≤ i = ltb-false i args p in
        let there : args ≤ j = ltb-false j args q in
        let is : i - args ≡ j - args = decimal_injective (i - args) (j - args) (omega arith) (omega arith) (ap (drop 1) same) in omega arith

own_names_apart : (args i j : ℕ) → i < 2 ^ 64 → j < 2 ^ 64
    → name_text (if nat_lt i args then BlockArgument i else BodyValue (i - args)) ≡ name_text (if nat_lt j args then BlockArgument j else BodyValue (j - args)) → i ≡ j
own_names_apart args i j small low e = by (nat_lt i args) (nat_lt j args) refl refl
  where
    by : (p q : Bool) → nat_lt i args ≡ p → nat_lt j args ≡ q → i ≡ j
    by true true p q = let same : codes "%b" ++ decimal i ≡ codes "%b" ++ decimal j = rw (p, q) at e in decimal_injective i j small low (ap (drop 2) same)
    by true false p q = absurd (let same : codes "%b" ++ decimal i ≡ codes "%r" ++ decimal (j - args) = rw (p, q) at e in let bytes : 98 ≡ 114 = ap (λ xs. get_or xs 1 0) same in omega arith)
    by false true p q = absurd (let same : codes "%r" ++ decimal (i - args) ≡ codes "%b" ++ decimal j = rw (p, q) at e in let bytes : 114 ≡ 98 = ap (λ xs. get_or xs 1 0) same in omega arith)
    by false false p q =
        let same : codes "%r" ++ decimal (i - args) ≡ codes "%r" ++ decimal (j - args) = rw (p, q) at e in
        let here : args ≤ i = ltb-false i args p in
        let there : args ≤ j = ltb-false j args q in
        let is : i - args ≡ j - args = decimal_injective (i - args) (j - args) (omega arith) (omega arith) (ap (drop 2) same) in omega arith

-- two names of a function with one text are one
pub outer_texts_apart : (scope : Scope) → length scope.ids < 2 ^ 64 → (a b : ℕ) → is_among scope.ids a ≡ true → is_among scope.ids b ≡ true
    → name_text (name_in scope a) ≡ name_text (name_in scope b) → a ≡ b
outer_texts_apart scope few a b h g e =
    let i = place_some scope.ids a h in
    let j = place_some scope.ids b g in
    let texts : name_text (name_at scope (Some (place_of scope a))) ≡ name_text (name_at scope (Some (place_of scope b))) =
    ap (λ o. name_text (name_at scope o)) (sym (is_placed scope a h)) ∙ e ∙ ap (λ o. name_text (name_at scope o)) (is_placed scope b g) in
    same_place scope.ids a b h g (at_names_apart scope.arguments (place_of scope a) (place_of scope b) (omega arith) (omega arith) texts)

-- and so are two of a region
pub own_texts_apart : (own outer : Scope) → length own.ids < 2 ^ 64 → (a b : ℕ) → is_among own.ids a ≡ true → is_among own.ids b ≡ true
    → name_text (name_inside own outer a) ≡ name_text (name_inside own outer b) → a ≡ b
own_texts_apart own outer few a b h g e =
    let i = place_some own.ids a h in
    let j = place_some own.ids b g in
    let texts : name_text (own_name_at own (Some (place_of own a)) (name_in outer a)) ≡ name_text (own_name_at own (Some (place_of own b)) (name_in outer b)) =
    ap (λ o. name_text (own_name_at own o (name_in outer a))) (sym (is_placed own a h)) ∙ e ∙ ap (λ o. name_text (own_name_at own o (name_in outer b))) (is_placed own b g) in
    same_place own.ids a b h g (own_names_apart own.arguments (place_of own a) (place_of own b) (omega arith) (omega arith) texts)

own_inner : (own outer : Scope) (i : ℕ) (a : ℕ) → is_inner (name_text (own_name_at own (Some i) (name_in outer a))) ≡ true
own_inner own outer i a = elim (cases_Bool (nat_lt i own.arguments)) [
  | inl e ↦ rw e refl
  | inr e ↦ rw e refl
]

pub is_inner_text : (own outer : Scope) (a : ℕ) → is_among own.ids a ≡ true → is_inner (name_text (name_inside own outer a)) ≡ true
is_inner_text own outer a h = ap (λ o. is_inner (name_text (own_name_at own o (name_in outer a)))) (is_placed own a h) ∙ own_inner own outer (place_of own a) a

pub outside_text : (own outer : Scope) (a : ℕ) → is_among own.ids a ≡ false → name_text (name_inside own outer a) ≡ name_text (name_in outer a)
outside_text own outer a h = ap (λ o. name_text (own_name_at own o (name_in outer a))) (not_placed own a h)

value_outer : (n : ℕ) → n < 2 ^ 64 → is_inner (codes "%" ++ decimal n) ≡ false
unfolding is_digit
value_outer n small = let it = numeral n small in ap (λ b. is_inner (codes "%" ++ b)) it.is ∙ rw (other_byte it.first 98 (first_digit it) refl, other_byte it.first 114 (first_digit it) refl) refl

outer_name : (scope : Scope) → length scope.ids < 2 ^ 64 → (a : ℕ) → is_inner (name_text (name_in scope a)) ≡ false
outer_name scope few a = elim (cases_Bool (is_among scope.ids a)) [
  | inl h ↦ ap (λ o. is_inner (name_text (name_at scope o))) (is_placed scope a h) ∙ by (place_of scope a) (place_some scope.ids a h)
  | inr h ↦ ap (λ o. is_inner (name_text (name_at scope o))) (not_placed scope a h)
]
  where
    by : (i : ℕ) → i < length scope.ids → is_inner (name_text (name_at scope (Some i))) ≡ false
    by i less = elim (cases_Bool (nat_lt i scope.arguments)) [
      | inl e ↦ rw e refl
      | inr e ↦ rw e (value_outer (i - scope.arguments) (omega arith))
    ]

pub is_outer_text : (own outer : Scope) → length outer.ids < 2 ^ 64 → (a : ℕ) → is_among own.ids a ≡ false → is_inner (name_text (name_inside own outer a)) ≡ false
is_outer_text own outer few a h = ap is_inner (outside_text own outer a h) ∙ outer_name outer few a
