-- Lists of distinct axes.
use Rattle.std.proofs.Common.{◌≡◌, ◌≢◌, ℕ, zero, suc, ◌+◌, ◌<◌, ◌≤◌, inl, inr, List, [], ◌∷◌, ◌++◌, length, get_or, Bool, true, false, cond, refl, ap, ap₂, sym, ◌∙◌, arith, subst}
use Rattle.std.specs.Prelude.{◌==◌, count_by}
use Rattle.std.specs.List.{All}
use Rattle.std.proofs.lemmas.Bool.{cases_Bool}
use Rattle.std.proofs.lemmas.List.Elements.{All-cons}
use Rattle.std.proofs.lemmas.Bool.Decides.{nat_tests}
use Rattle.std.proofs.lemmas.List.Recursion.{is_count_by}
use Rattle.sh_base.specs.Shape.{cell_count}
use Rattle.sh_grid.specs.Grid.{IsNoneOf, AreAxesOf, on_axes, group_size_of}
use Rattle.sh_grid.proofs.GroupSteps.{group_size_of-le}
use Rattle.sh_sharding.proofs.Cases.{lt_or_le, same_or_not}

-- ---- axes listed once

times : ℕ → List ℕ → ℕ
times a [] = 0
times a (x ∷ xs) = cond (x == a) (1 + times a xs) (times a xs)

times_is : (a : ℕ) (xs : List ℕ) → times a xs ≡ count_by (λ b. b == a) xs
unfolding times
times_is a xs = is_count_by (times a) (λ b. b == a) refl (λ x ys. refl) xs

times_none : (a n : ℕ) (xs : List ℕ) → All (λ x. x < n) xs → n ≤ a → times a xs ≡ 0
unfolding times
times_none a n [] h le = refl
times_none a n (x ∷ xs) h le =
    let first : x < n = h 0 0 (omega arith) in
    let other : (x == a) ≡ false = grind (arith, nat_tests) in
    ap (λ (b : Bool). cond b (1 + times a xs) (times a xs)) other ∙ times_none a n xs (λ k d l. h (suc k) d (omega arith)) le

pub distinct_more : (xs : List ℕ) (axis found : ℕ) → ((a : ℕ) → a < axis → count_by (λ b. b == a) xs ≤ 1) → found ≡ count_by (λ b. b == axis) xs → found ≤ 1
    → (a : ℕ) → a < axis + 1 → count_by (λ b. b == a) xs ≤ 1
distinct_more xs axis found h e le a l = elim (lt_or_le a axis) [
  | inl less ↦ h a less
  | inr more ↦ let same : axis ≡ a = omega arith in subst (λ z. count_by (λ b. b == z) xs ≤ 1) same (rw (← e) le)
]

pub distinct_end : (xs : List ℕ) (rank axis : ℕ) → All (λ a. a < rank) xs → rank ≤ axis → ((a : ℕ) → a < axis → count_by (λ b. b == a) xs ≤ 1)
    → (a : ℕ) → count_by (λ b. b == a) xs ≤ 1
distinct_end xs rank axis below le h a = elim (lt_or_le a axis) [
  | inl less ↦ h a less
  | inr more ↦ let none : count_by (λ b. b == a) xs ≡ 0 = sym (times_is a xs) ∙ times_none a rank xs below (omega arith) in omega arith
]

-- ---- lists of distinct axes

is_none_of : (a : ℕ) (xs : List ℕ) → times a xs ≡ 0 → IsNoneOf a xs
unfolding times
is_none_of a [] h = tt
is_none_of a (x ∷ xs) h = elim (same_or_not a x) [
  | inl same ↦
      let test : (x == a) ≡ true = grind (arith, nat_tests) in
      let one : cond (x == a) (1 + times a xs) (times a xs) ≡ 1 + times a xs = ap (λ (b : Bool). cond b (1 + times a xs) (times a xs)) test in
      absurd (omega arith)
  | inr other ↦
      let test : (x == a) ≡ false = grind (arith, nat_tests) in
      let none : cond (x == a) (1 + times a xs) (times a xs) ≡ times a xs = ap (λ (b : Bool). cond b (1 + times a xs) (times a xs)) test in
      (other, is_none_of a xs (sym none ∙ h))
]

axes_once : (rank : ℕ) (xs : List ℕ) → All (λ a. a < rank) xs → ((a : ℕ) → times a xs ≤ 1) → AreAxesOf rank xs
unfolding times
axes_once rank [] h few = tt
axes_once rank (x ∷ xs) h few =
    let first : x < rank = h 0 0 (omega arith) in
    let test : (x == x) ≡ true = grind (arith, nat_tests) in
    let here : cond (x == x) (1 + times x xs) (times x xs) ≡ 1 + times x xs = ap (λ (b : Bool). cond b (1 + times x xs) (times x xs)) test in
    let most : cond (x == x) (1 + times x xs) (times x xs) ≤ 1 = few x in
    let none : times x xs ≡ 0 = omega arith in
    let rest : (a : ℕ) → times a xs ≤ 1 = λ a. rest_few x a xs (few a) in
    (first, is_none_of x xs none, axes_once rank xs (λ k d l. h (suc k) d (omega arith)) rest)
  where
    rest_few : (x a : ℕ) (xs : List ℕ) → cond (x == a) (1 + times a xs) (times a xs) ≤ 1 → times a xs ≤ 1
    rest_few x a xs h = elim (x == a) as (λ (b : Bool). cond b (1 + times a xs) (times a xs) ≤ 1 → times a xs ≤ 1) [ true ↦ λ k. omega arith | false ↦ λ k. k ] h

-- axes of the grid of which none is listed twice
pub distinct_axes : (rank : ℕ) (xs : List ℕ) → All (λ a. a < rank) xs → ((a : ℕ) → count_by (λ b. b == a) xs ≤ 1) → AreAxesOf rank xs
distinct_axes rank xs h few = axes_once rank xs h (λ a. rw (times_is a xs) (few a))

-- ---- no more distinct axes than the grid has

twos : ℕ → List ℕ
twos zero = []
twos (suc n) = 2 ∷ twos n

length-twos : (n : ℕ) → length (twos n) ≡ n
unfolding twos
length-twos zero = refl
length-twos (suc n) = ap suc (length-twos n)

get_or-twos : (n a : ℕ) → a < n → get_or (twos n) a 0 ≡ 2
unfolding twos
get_or-twos zero a l = absurd (omega arith)
get_or-twos (suc n) zero l = refl
get_or-twos (suc n) (suc a) l = get_or-twos n a (omega arith)

on_axes-twos : (n : ℕ) (axes : List ℕ) → AreAxesOf n axes → on_axes axes (twos n) ≡ twos (length axes)
unfolding on_axes twos
on_axes-twos n [] m = refl
on_axes-twos n (a ∷ axes) m = ap₂ ◌∷◌ (get_or-twos n a m.0) (on_axes-twos n axes m.2)

twos_some : (n : ℕ) → 0 < cell_count (twos n)
unfolding twos
twos_some zero = omega arith
twos_some (suc n) = let rec = twos_some n in omega arith

twos_rise : (m n : ℕ) → m < n → cell_count (twos m) < cell_count (twos n)
unfolding twos
twos_rise m zero l = absurd (omega arith)
twos_rise m (suc n) l = elim (lt_or_le m n) [
  | inl less ↦ let rec = twos_rise m n less in omega arith
  | inr more ↦
      let same : n ≡ m = omega arith in
      let some = twos_some m in
      let here : cell_count (twos n) ≡ cell_count (twos m) = ap (λ z. cell_count (twos z)) same in
      omega arith
]

pub few_axes : (n : ℕ) (axes : List ℕ) → AreAxesOf n axes → length axes ≤ n
unfolding group_size_of
few_axes n axes m =
    let m' : AreAxesOf (length (twos n)) axes = subst (λ k. AreAxesOf k axes) (sym (length-twos n)) m in
    let le : cell_count (on_axes axes (twos n)) ≤ cell_count (twos n) = group_size_of-le (twos n) axes (twos_some n) m' in
    let le' : cell_count (twos (length axes)) ≤ cell_count (twos n) = rw (← on_axes-twos n axes m) le in
    elim (lt_or_le n (length axes)) [
      | inl less ↦ let rise = twos_rise n (length axes) less in absurd (omega arith)
      | inr fine ↦ fine
    ]

-- ---- distinct axes are listed once

times_apart : (a x : ℕ) (xs : List ℕ) → IsNoneOf x xs → x ≡ a → times a xs ≡ 0
unfolding times
times_apart a x [] none e = refl
times_apart a x (y ∷ xs) none e =
    let apart : x ≢ y = none.0 in
    let other : (y == a) ≡ false = grind (arith, nat_tests) in
    ap (λ (b : Bool). cond b (1 + times a xs) (times a xs)) other ∙ times_apart a x xs none.1 e

times_once : (rank a : ℕ) (xs : List ℕ) → AreAxesOf rank xs → times a xs ≤ 1
unfolding times
times_once rank a [] m = omega arith
times_once rank a (x ∷ xs) m = elim (cases_Bool (x == a)) [
  | inl same ↦
      let e : x ≡ a = grind (arith, nat_tests) in
      let none = times_apart a x xs m.1 e in
      let count = ap (λ (b : Bool). cond b (1 + times a xs) (times a xs)) same in
      omega arith
  | inr other ↦
      let rec = times_once rank a xs m.2 in
      let count = ap (λ (b : Bool). cond b (1 + times a xs) (times a xs)) other in
      omega arith
]

-- no axis is listed twice
pub listed_once : (rank a : ℕ) (xs : List ℕ) → AreAxesOf rank xs → count_by (λ b. b == a) xs ≤ 1
listed_once rank a xs m =
    rw (← times_is a xs) (times_once rank a xs m)

times-append : (a : ℕ) (xs ys : List ℕ) → times a (xs ++ ys) ≡ times a xs + times a ys
unfolding times
times-append a [] ys = omega arith
times-append a (x ∷ xs) ys = elim (cases_Bool (x == a)) [
  | inl same ↦
      let all = ap (λ (b : Bool). cond b (1 + times a (xs ++ ys)) (times a (xs ++ ys))) same in
      let front = ap (λ (b : Bool). cond b (1 + times a xs) (times a xs)) same in
      let rec = times-append a xs ys in
      omega arith
  | inr other ↦
      let all = ap (λ (b : Bool). cond b (1 + times a (xs ++ ys)) (times a (xs ++ ys))) other in
      let front = ap (λ (b : Bool). cond b (1 + times a xs) (times a xs)) other in
      let rec = times-append a xs ys in
      omega arith
]

-- how often an axis is listed in two lists together
pub count-append : (a : ℕ) (xs ys : List ℕ) → count_by (λ b. b == a) (xs ++ ys) ≡ count_by (λ b. b == a) xs + count_by (λ b. b == a) ys
count-append a xs ys = sym (times_is a (xs ++ ys)) ∙ times-append a xs ys ∙ ap₂ ◌+◌ (times_is a xs) (times_is a ys)

-- distinct axes of a grid are its axes
pub axes_below : (rank : ℕ) (xs : List ℕ) → AreAxesOf rank xs → All (λ a. a < rank) xs
axes_below rank [] m = λ k d l. absurd (omega arith)
axes_below rank (x ∷ xs) m = All-cons (λ a. a < rank) x xs m.0 (axes_below rank xs m.2)
