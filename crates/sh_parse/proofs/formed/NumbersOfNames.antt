-- The numbers of names: a name that came before has a smaller number than the next new one, a new name
-- has that one, and no two names of a function or a map have one number.
use Rattle.std.proofs.Common.{◌≡◌, ◌+◌, ◌<◌, ◌∙◌, ℕ, suc, Bool, true, false, cond, nat_eq, List, [], ◌∷◌, ◌++◌, length, Option, Some, None, refl, ap, sym, subst, inl, inr, arith, length-append}
use Rattle.std.proofs.lemmas.List.{append-nil}
use Rattle.std.proofs.lemmas.List.Elements.{filter-append}
use Rattle.std.specs.Prelude.{filter, not, ◌&&◌, ◌||◌}
use Rattle.std.specs.List.{list_all, list_any, position_or_len, prefix_len}
use Rattle.std.specs.Cmp.Lexicographic.{pointwise}
use Rattle.std.proofs.lemmas.Bool.{and_from, and_parts, cases_Bool, cond_both, eq-eqb, eqb-true, false≢true, or_cases, or_left, or_right, true≢false}
use Rattle.sh_names.specs.Names.{Owned, distinct, number_among, same_owned, same_region, same_text}

-- ## Lists

filter_twice : {X : Type 0} (p q : X → Bool) (xs : List X) → filter p (filter q xs) ≡ filter (λ x. p x && q x) xs
filter_twice p q [] = refl
filter_twice p q (x ∷ xs) = elim (cases_Bool (q x)) [
  | inl h ↦ elim (cases_Bool (p x)) [
    | inl g ↦ rw (h, g) (ap (λ zs. x ∷ zs) (filter_twice p q xs))
    | inr g ↦ rw (h, g) (filter_twice p q xs)
  ]
  | inr h ↦ elim (cases_Bool (p x)) [
    | inl g ↦ rw (h, g) (filter_twice p q xs)
    | inr g ↦ rw (h, g) (filter_twice p q xs)
  ]
]

-- ## One name

pub same_numbers : (xs ys : List ℕ) → pointwise nat_eq xs ys ≡ true → xs ≡ ys
same_numbers [] [] h = refl
same_numbers [] (y ∷ ys) h = cc
same_numbers (x ∷ xs) [] h = cc
same_numbers (x ∷ xs) (y ∷ ys) h =
    let parts = and_parts (nat_eq x y) (pointwise nat_eq xs ys) h in
    let head : x ≡ y = eqb-true x y parts.0 in
    let tail : xs ≡ ys = same_numbers xs ys parts.1 in
    rw (head, tail) refl

numbers_same : (xs : List ℕ) → pointwise nat_eq xs xs ≡ true
numbers_same [] = refl
numbers_same (x ∷ xs) = and_from (nat_eq x x) _ (eq-eqb x x refl) (numbers_same xs)

region_is : (a b : Option ℕ) → same_region a b ≡ true → a ≡ b
region_is None None h = refl
region_is None (Some b) h = cc
region_is (Some a) None h = cc
region_is (Some a) (Some b) h = ap (λ n. Some n) (eqb-true a b h)

region_same : (a : Option ℕ) → same_region a a ≡ true
region_same None = refl
region_same (Some a) = eq-eqb a a refl

abbrev pub owned : ℕ → Option ℕ → List ℕ → Owned
owned unit region text = record { unit = unit; region = region; text = text }

pub same_is : (a b : Owned) → same_owned a b ≡ true → a ≡ b
same_is a b h =
    let front = and_parts (nat_eq a.unit b.unit && same_region a.region b.region) (same_text a.text b.text) h in
    let parts = and_parts (nat_eq a.unit b.unit) (same_region a.region b.region) front.0 in
    let unit : a.unit ≡ b.unit = eqb-true a.unit b.unit parts.0 in
    let region : a.region ≡ b.region = region_is a.region b.region parts.1 in
    let text : a.text ≡ b.text = same_numbers a.text b.text front.1 in
    ap (λ u. owned u a.region a.text) unit ∙ ap (λ r. owned b.unit r a.text) region ∙ ap (λ t. owned b.unit b.region t) text

pub same_self : (a : Owned) → same_owned a a ≡ true
same_self a = and_from (nat_eq a.unit a.unit && same_region a.region a.region) _
    (and_from (nat_eq a.unit a.unit) _ (eq-eqb a.unit a.unit refl) (region_same a.region)) (numbers_same a.text)

-- ## Distinct names

-- the name isn't among these
abbrev pub absent : List Owned → Owned → Bool
absent xs y = list_all (λ x. not (same_owned x y)) xs

pub distinct_append : (xs ys : List Owned) → distinct (xs ++ ys) ≡ distinct xs ++ filter (absent xs) (distinct ys)
distinct_append [] ys = all_kept (distinct ys)
  where
    all_kept : (zs : List Owned) → zs ≡ filter (absent []) zs
    all_kept [] = refl
    all_kept (z ∷ zs) = ap (λ vs. z ∷ vs) (all_kept zs)
distinct_append (x ∷ xs) ys = ap (λ zs. x ∷ zs)
    (ap (filter (λ y. not (same_owned x y))) (distinct_append xs ys)
    ∙ filter-append (λ y. not (same_owned x y)) (distinct xs) (filter (absent xs) (distinct ys))
    ∙ ap (λ zs. filter (λ y. not (same_owned x y)) (distinct xs) ++ zs)
    (filter_twice (λ y. not (same_owned x y)) (absent xs) (distinct ys)))

-- those of a function or a map
abbrev pub of_unit : ℕ → List Owned → List Owned
of_unit u xs = filter (λ y. nat_eq y.unit u) xs

-- how many of a function or a map there are among these
abbrev pub count_of : ℕ → List Owned → ℕ
count_of u xs = length (of_unit u (distinct xs))

-- what is behind these names in the list of the distinct ones
new_front : (xs later : List Owned) (x : Owned) → absent xs x ≡ true
    → filter (absent xs) (distinct (x ∷ later)) ≡ x ∷ filter (absent xs) (filter (λ y. not (same_owned x y)) (distinct later))
new_front xs later x h = ap (λ b. cond b (x ∷ filter (absent xs) (filter (λ y. not (same_owned x y)) (distinct later))) (filter (absent xs) (filter (λ y. not (same_owned x y)) (distinct later)))) h

absent_in_part : (p : Owned → Bool) (xs : List Owned) (x : Owned) → absent xs x ≡ true → absent (filter p xs) x ≡ true
absent_in_part p [] x h = refl
absent_in_part p (y ∷ xs) x h =
    let parts = and_parts (not (same_owned y x)) (absent xs x) h in
    cond_both (p y) _ _ (λ zs. absent zs x ≡ true)
    (λ _. and_from (not (same_owned y x)) _ parts.0 (absent_in_part p xs x parts.1)) (λ _. absent_in_part p xs x parts.1)

absent_distinct : (xs : List Owned) (x : Owned) → absent xs x ≡ true → absent (distinct xs) x ≡ true
absent_distinct [] x h = refl
absent_distinct (y ∷ xs) x h =
    let parts = and_parts (not (same_owned y x)) (absent xs x) h in
    and_from (not (same_owned y x)) _ parts.0
    (absent_in_part (λ z. not (same_owned y z)) (distinct xs) x (absent_distinct xs x parts.1))

-- the position of a name behind others
swapped : (x y : Owned) → not (same_owned y x) ≡ true → same_owned x y ≡ false
swapped x y h = elim (cases_Bool (same_owned x y)) [
  | inl g ↦ let e : y ≡ x = sym (same_is x y g) in
      let t : same_owned y x ≡ true = subst (λ z. same_owned z x ≡ true) (sym e) (same_self x) in
      absurd (false≢true (sym (ap not t) ∙ h))
  | inr g ↦ g
]

position_behind : (xs zs : List Owned) (x : Owned) → absent xs x ≡ true
    → position_or_len (same_owned x) (xs ++ x ∷ zs) ≡ length xs
position_behind [] zs x h = ap (λ b. cond (not b) (1 + prefix_len (λ y. not (same_owned x y)) zs) 0) (same_self x)
position_behind (y ∷ xs) zs x h =
    let parts = and_parts (not (same_owned y x)) (absent xs x) h in
    ap (λ b. cond (not b) (1 + prefix_len (λ y. not (same_owned x y)) (xs ++ x ∷ zs)) 0) (swapped x y parts.0)
    ∙ (let rest : position_or_len (same_owned x) (xs ++ x ∷ zs) ≡ length xs = position_behind xs zs x parts.1 in omega arith)

-- a new name has the next number
pub new_number : (xs later : List Owned) (x : Owned) → absent xs x ≡ true
    → number_among (distinct (xs ++ x ∷ later)) x ≡ count_of x.unit xs
new_number xs later x h =
    let rest : List Owned = filter (absent xs) (filter (λ y. not (same_owned x y)) (distinct later)) in
    let all : distinct (xs ++ x ∷ later) ≡ distinct xs ++ x ∷ rest =
    distinct_append xs (x ∷ later) ∙ ap (λ zs. distinct xs ++ zs) (new_front xs later x h) in
    let own : of_unit x.unit (x ∷ rest) ≡ x ∷ of_unit x.unit rest =
    ap (λ b. cond b (x ∷ of_unit x.unit rest) (of_unit x.unit rest)) (eq-eqb x.unit x.unit refl) in
    ap (λ zs. number_among zs x) all
    ∙ ap (position_or_len (same_owned x)) (filter-append (λ y. nat_eq y.unit x.unit) (distinct xs) (x ∷ rest)
    ∙ ap (λ zs. of_unit x.unit (distinct xs) ++ zs) own)
    ∙ position_behind (of_unit x.unit (distinct xs)) (of_unit x.unit rest) x
    (absent_in_part (λ y. nat_eq y.unit x.unit) (distinct xs) x (absent_distinct xs x h))

-- and it is one more
pub one_new : (xs : List Owned) (x : Owned) → absent xs x ≡ true → count_of x.unit (xs ++ x ∷ []) ≡ suc (count_of x.unit xs)
one_new xs x h =
    let all : distinct (xs ++ x ∷ []) ≡ distinct xs ++ x ∷ [] =
    distinct_append xs (x ∷ []) ∙ ap (λ zs. distinct xs ++ zs) (new_front xs [] x h) in
    let own : of_unit x.unit (x ∷ []) ≡ x ∷ [] = ap (λ b. cond b (x ∷ []) []) (eq-eqb x.unit x.unit refl) in
    ap (λ zs. length (of_unit x.unit zs)) all
    ∙ ap length (filter-append (λ y. nat_eq y.unit x.unit) (distinct xs) (x ∷ []) ∙ ap (λ zs. of_unit x.unit (distinct xs) ++ zs) own)
    ∙ length-append (of_unit x.unit (distinct xs)) (x ∷ []) ∙ omega arith

-- ## Names that are there

abbrev pub IsIn : List Owned → Owned → Type 0
IsIn xs x = list_any (same_owned x) xs ≡ true

same_back : (x y : Owned) → same_owned y x ≡ true → same_owned x y ≡ true
same_back x y h = subst (λ z. same_owned z y ≡ true) (same_is y x h) (same_self y)

pub there : (xs : List Owned) (x : Owned) → absent xs x ≡ false → IsIn xs x
there [] x h = absurd (true≢false h)
there (y ∷ xs) x h = elim (cases_Bool (same_owned y x)) [
  | inl g ↦ or_left (same_owned x y) _ (same_back x y g)
  | inr g ↦ or_right (same_owned x y) _ (there xs x (sym (ap (λ b. not b && absent xs x) g) ∙ h))
]

in_part : (p : Owned → Bool) (xs : List Owned) (x : Owned) → IsIn xs x → p x ≡ true → IsIn (filter p xs) x
in_part p [] x h t = h
in_part p (y ∷ xs) x h t = elim (or_cases (same_owned x y) (list_any (same_owned x) xs) h) [
  | inl g ↦ let e : p y ≡ true = subst (λ z. p z ≡ true) (same_is x y g) t in
      subst (λ b. IsIn (cond b (y ∷ filter p xs) (filter p xs)) x) (sym e) (or_left (same_owned x y) _ g)
  | inr g ↦ cond_both (p y) _ _ (λ zs. IsIn zs x) (λ _. or_right (same_owned x y) _ (in_part p xs x g t)) (λ _. in_part p xs x g t)
]

in_distinct : (xs : List Owned) (x : Owned) → IsIn xs x → IsIn (distinct xs) x
in_distinct [] x h = h
in_distinct (y ∷ xs) x h = elim (cases_Bool (same_owned y x)) [
  | inl g ↦ or_left (same_owned x y) _ (same_back x y g)
  | inr g ↦ elim (or_cases (same_owned x y) (list_any (same_owned x) xs) h) [
    | inl e ↦ or_left (same_owned x y) _ e
    | inr e ↦ or_right (same_owned x y) _ (in_part (λ z. not (same_owned y z)) (distinct xs) x (in_distinct xs x e) (ap not g))
  ]
]

in_unit : (xs : List Owned) (x : Owned) → IsIn xs x → IsIn (of_unit x.unit (distinct xs)) x
in_unit xs x h = in_part (λ y. nat_eq y.unit x.unit) (distinct xs) x (in_distinct xs x h) (eq-eqb x.unit x.unit refl)

position_within : (zs ws : List Owned) (x : Owned) → IsIn zs x → position_or_len (same_owned x) (zs ++ ws) < length zs
position_within [] ws x h = absurd (false≢true h)
position_within (z ∷ zs) ws x h =
    cond_both (not (same_owned x z)) _ _ (λ n. n < length (z ∷ zs))
    (λ g. elim (or_cases (same_owned x z) (list_any (same_owned x) zs) h) [
      | inl e ↦ absurd (true≢false (sym g ∙ ap not e))
      | inr e ↦ let rest : position_or_len (same_owned x) (zs ++ ws) < length zs = position_within zs ws x e in omega arith
    ])
    (λ _. omega arith)

-- a name that came before has a smaller number
pub old_number : (xs later : List Owned) (x : Owned) → IsIn xs x
    → number_among (distinct (xs ++ later)) x < count_of x.unit xs
old_number xs later x h =
    let rest : List Owned = filter (absent xs) (distinct later) in
    let all : of_unit x.unit (distinct (xs ++ later)) ≡ of_unit x.unit (distinct xs) ++ of_unit x.unit rest =
    ap (of_unit x.unit) (distinct_append xs later) ∙ filter-append (λ y. nat_eq y.unit x.unit) (distinct xs) rest in
    subst (λ zs. position_or_len (same_owned x) zs < count_of x.unit xs) (sym all)
    (position_within (of_unit x.unit (distinct xs)) (of_unit x.unit rest) x (in_unit xs x h))

-- and there are no more by it
pub one_old : (u : ℕ) (xs : List Owned) (x : Owned) → absent xs x ≡ false → count_of u (xs ++ x ∷ []) ≡ count_of u xs
one_old u xs x h = ap (λ zs. length (of_unit u zs)) (distinct_append xs (x ∷ [])
    ∙ ap (λ b. distinct xs ++ cond b (x ∷ []) []) h ∙ append-nil (distinct xs))

at_one_place : (zs : List Owned) (x y : Owned) → IsIn zs x → IsIn zs y
    → position_or_len (same_owned x) zs ≡ position_or_len (same_owned y) zs → x ≡ y
at_one_place [] x y h g e = absurd (false≢true h)
at_one_place (z ∷ zs) x y h g e = by_tests (at_one_place zs x y) (same_owned x z) (same_owned y z) refl refl
  where
    by_tests : (IsIn zs x → IsIn zs y → position_or_len (same_owned x) zs ≡ position_or_len (same_owned y) zs → x ≡ y)
        → (a b : Bool) → same_owned x z ≡ a → same_owned y z ≡ b → x ≡ y
    by_tests rest true true p q = same_is x z p ∙ sym (same_is y z q)
    by_tests rest true false p q =
        let left : position_or_len (same_owned x) (z ∷ zs) ≡ 0 = ap (λ b. cond (not b) (1 + position_or_len (same_owned x) zs) 0) p in
        let right : position_or_len (same_owned y) (z ∷ zs) ≡ 1 + position_or_len (same_owned y) zs =
        ap (λ b. cond (not b) (1 + position_or_len (same_owned y) zs) 0) q in
        absurd (let c : 0 ≡ 1 + position_or_len (same_owned y) zs = sym left ∙ e ∙ right in omega arith)
    by_tests rest false true p q =
        let left : position_or_len (same_owned x) (z ∷ zs) ≡ 1 + position_or_len (same_owned x) zs =
        ap (λ b. cond (not b) (1 + position_or_len (same_owned x) zs) 0) p in
        let right : position_or_len (same_owned y) (z ∷ zs) ≡ 0 = ap (λ b. cond (not b) (1 + position_or_len (same_owned y) zs) 0) q in
        absurd (let c : 1 + position_or_len (same_owned x) zs ≡ 0 = sym left ∙ e ∙ right in omega arith)
    by_tests rest false false p q =
        let left : position_or_len (same_owned x) (z ∷ zs) ≡ 1 + position_or_len (same_owned x) zs =
        ap (λ b. cond (not b) (1 + position_or_len (same_owned x) zs) 0) p in
        let right : position_or_len (same_owned y) (z ∷ zs) ≡ 1 + position_or_len (same_owned y) zs =
        ap (λ b. cond (not b) (1 + position_or_len (same_owned y) zs) 0) q in
        let both : 1 + position_or_len (same_owned x) zs ≡ 1 + position_or_len (same_owned y) zs = sym left ∙ e ∙ right in
        let in_x : IsIn zs x = sym (ap (λ b. b || list_any (same_owned x) zs) p) ∙ h in
        let in_y : IsIn zs y = sym (ap (λ b. b || list_any (same_owned y) zs) q) ∙ g in
        rest in_x in_y (omega arith)

-- two names of one number in a function are one
pub one_number : (all : List Owned) (x y : Owned) → IsIn all x → IsIn all y → x.unit ≡ y.unit
    → number_among (distinct all) x ≡ number_among (distinct all) y → x ≡ y
one_number all x y h g u e =
    let g' : IsIn (of_unit x.unit (distinct all)) y = subst (λ v. IsIn (of_unit v (distinct all)) y) (sym u) (in_unit all y g) in
    let e' : position_or_len (same_owned x) (of_unit x.unit (distinct all)) ≡ position_or_len (same_owned y) (of_unit x.unit (distinct all)) =
    e ∙ ap (λ v. position_or_len (same_owned y) (of_unit v (distinct all))) (sym u) in
    at_one_place (of_unit x.unit (distinct all)) x y (in_unit all x h) g' e'

-- one of these is among all that begin with them
pub in_front : (xs ys : List Owned) (x : Owned) → IsIn xs x → IsIn (xs ++ ys) x
in_front [] ys x h = absurd (false≢true h)
in_front (y ∷ xs) ys x h = elim (or_cases (same_owned x y) (list_any (same_owned x) xs) h) [
  | inl e ↦ or_left (same_owned x y) _ e
  | inr e ↦ or_right (same_owned x y) _ (in_front xs ys x e)
]

pub in_behind : (xs ys : List Owned) (x : Owned) → IsIn ys x → IsIn (xs ++ ys) x
in_behind [] ys x h = h
in_behind (y ∷ xs) ys x h = or_right (same_owned x y) _ (in_behind xs ys x h)
