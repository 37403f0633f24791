-- The places of the numbers of a permutation, and the numbers that aren't listed, are below the bound.
use Rattle.std.proofs.Common.{◌≡◌, ℕ, zero, suc, ◌+◌, ◌<◌, ◌≤◌, Bool, true, false, List, [], ◌∷◌, map, length, refl, ◌∙◌, arith, inl, inr}
use Rattle.std.proofs.lemmas.Bool.{cases_Bool}
use Rattle.std.proofs.lemmas.Bool.Decides.{nat_tests}
use Rattle.std.proofs.lemmas.List.{length-map}
use Rattle.std.proofs.lemmas.Map.Steps.{length-le_from_distinct_below}
use Rattle.std.specs.List.{AllByRecursion, IsDistinct, list_all, list_any, range_with_len, position_or_len}
use Rattle.std.specs.Prelude.{◌||◌, ◌&&◌, filter, nat_eq, nat_lt, not, ℤ, if◌then◌else◌}
use Rattle.sh_ir.specs.Loops.{places_in, unlisted}
use Rattle.sh_ir.specs.Numbers.{are_axes_below, are_distinct, as_natural, as_naturals, is_below, is_permutation}
use Rattle.sh_ir.specs.Regions.{is_among}
use Rattle.sh_iface_linalg.specs.Rules.{both}

both_left : (a b : Bool) → (a && b) ≡ true → a ≡ true
both_left a b h = (both a b h).0

both_right : (a b : Bool) → (a && b) ≡ true → b ≡ true
both_right a b h = (both a b h).1

is_not : (b : Bool) → not b ≡ true → b ≡ false
is_not true h = absurd (cc)
is_not false h = refl

neither_left : (a b : Bool) → (a || b) ≡ false → a ≡ false
neither_left true b h = absurd (cc)
neither_left false b h = refl

neither_right : (a b : Bool) → (a || b) ≡ false → b ≡ false
neither_right true b h = absurd (cc)
neither_right false b h = h

pub same_number : (m n : ℕ) → nat_eq m n ≡ true → m ≡ n
same_number m n e = grind (arith, nat_tests)

below_test : (m n : ℕ) → nat_lt m n ≡ true → m < n
below_test m n e = grind (arith, nat_tests)

-- distinct numbers below a bound, as many as the bound, are all of them
distinct_as_keys : (numbers : List ℕ) → are_distinct numbers ≡ true → IsDistinct nat_eq numbers
unfolding IsDistinct
distinct_as_keys [] h = tt
distinct_as_keys (n ∷ numbers) h = (
  apart numbers (is_not (is_among numbers n) (both_left (not (is_among numbers n)) (are_distinct numbers) h)),
  distinct_as_keys numbers
      (both_right (not (is_among numbers n)) (are_distinct numbers) h),
)
  where
    apart : (others : List ℕ) → is_among others n ≡ false → AllByRecursion (λ m. nat_eq n m ≡ false) others
    apart [] e = tt
    apart (m ∷ others) e =
        (neither_left (nat_eq n m) (is_among others n) e, apart others (neither_right (nat_eq n m) (is_among others n) e))

among_below : (n : ℕ) (numbers : List ℕ) (k q : ℕ) → k < n → list_all (λ m. nat_lt m n) numbers ≡ true
    → list_any (nat_eq q) (k ∷ numbers) ≡ true → q < n
among_below n numbers k q below all found = go (nat_eq q k) (λ e. same e) (λ e. rest numbers all e) found
  where
    same : nat_eq q k ≡ true → q < n
    same e = let is = same_number q k e in omega (arith, is, below)

    rest : (others : List ℕ) → list_all (λ m. nat_lt m n) others ≡ true → list_any (nat_eq q) others ≡ true → q < n
    rest [] passed e = absurd (cc)
    rest (m ∷ others) passed e =
        elim (cases_Bool (nat_eq q m)) [
          | inl b ↦
              let is = same_number q m b in let lt = below_test m n
              (both_left (nat_lt m n) (list_all (λ i. nat_lt i n) others) passed) in omega (arith, is, lt)
          | inr b ↦ rest others (both_right (nat_lt m n) (list_all (λ i. nat_lt i n) others) passed) (rw b at e)
        ]

    go : (b : Bool) → (b ≡ true → q < n) → (list_any (nat_eq q) numbers ≡ true → q < n) → (b || list_any (nat_eq q) numbers) ≡ true → q < n
    go true f g e = f refl
    go false f g e = g e

all_listed : (n : ℕ) (numbers : List ℕ) (k : ℕ) → length numbers ≡ n → list_all (λ m. nat_lt m n) numbers ≡ true
    → are_distinct numbers ≡ true → k < n → is_among numbers k ≡ true
all_listed n numbers k long below distinct l =
    elim (cases_Bool (is_among numbers k)) [
      | inl b ↦ b
      | inr b ↦
          let apart : are_distinct (k ∷ numbers) ≡ true = rw (b, distinct) refl in
          let few = length-le_from_distinct_below (k ∷ numbers) n (distinct_as_keys (k ∷ numbers) apart)
          (λ q found. among_below n numbers k q l below found) in
          absurd (omega (arith, few, long))
    ]

-- a number of the list has a place in it
place_below : (k : ℕ) (numbers : List ℕ) → is_among numbers k ≡ true → position_or_len (nat_eq k) numbers < length numbers
place_below k [] h = absurd (cc)
place_below k (m ∷ numbers) h =
    elim (cases_Bool (nat_eq k m)) [
      | inl b ↦ rw b (omega arith)
      | inr b ↦ let rest = place_below k numbers (rw b at h) in rw b (omega (arith, rest))
    ]

places_below : (n a count : ℕ) (numbers : List ℕ) → length numbers ≡ n → list_all (λ m. nat_lt m n) numbers ≡ true
    → are_distinct numbers ≡ true → a + count ≤ n
    → list_all (λ l. nat_lt l n) (map (λ k. position_or_len (nat_eq k) numbers) (range_with_len a count)) ≡ true
places_below n a zero numbers long below distinct le = refl
places_below n a (suc count) numbers long below distinct le =
    let lt = place_below a numbers (all_listed n numbers a long below distinct (omega (arith, le))) in
    let at : ℕ = position_or_len (nat_eq a) numbers in
    let under : at < n = omega (arith, lt, long) in
    let here : nat_lt at n ≡ true = grind (arith, nat_tests) in
    let rest = places_below n (a + 1) count numbers long below distinct (omega (arith, le)) in
    rw (here, rest) refl

naturals_below : (n : ℕ) (zs : List ℤ) → list_all (is_below n) zs ≡ true → list_all (λ m. nat_lt m n) (as_naturals zs) ≡ true
naturals_below n [] h = refl
naturals_below n (z ∷ zs) h =
    let here = both_right _ (nat_lt (as_natural z) n) (both_left (is_below n z) (list_all (is_below n) zs) h) in
    let rest = naturals_below n zs (both_right (is_below n z) (list_all (is_below n) zs) h) in
    rw (here, rest) refl

all_below : (n : ℕ) (ns : List ℕ) → list_all (λ l. nat_lt l n) ns ≡ true → AllByRecursion (λ l. l < n) ns
all_below n [] h = tt
all_below n (l ∷ ns) h = (below_test l n (both_left (nat_lt l n) (list_all (λ l. nat_lt l n) ns) h), all_below n ns (both_right (nat_lt l n) (list_all (λ l. nat_lt l n) ns) h))

pub permuted_below : (n : ℕ) (zs : List ℤ) → is_permutation n zs ≡ true → AllByRecursion (λ l. l < n) (places_in n (as_naturals zs))
permuted_below n zs h =
    let long = same_number (length zs) n (both_left (nat_eq (length zs) n) (are_axes_below n zs) h) in
    let axes = both_right (nat_eq (length zs) n) (are_axes_below n zs) h in
    let counted : length (as_naturals zs) ≡ n = length-map zs as_natural ∙ long in
    all_below n (places_in n (as_naturals zs))
    (places_below n 0 n (as_naturals zs) counted
    (naturals_below n zs (both_left (list_all (is_below n) zs) (are_distinct (as_naturals zs)) axes))
    (both_right (list_all (is_below n) zs) (are_distinct (as_naturals zs)) axes) (omega arith))

pub range_below : (a k n : ℕ) → a + k ≤ n → AllByRecursion (λ l. l < n) (range_with_len a k)
range_below a zero n le = tt
range_below a (suc k) n le = (omega (arith, le), range_below (a + 1) k n (omega (arith, le)))

pub unlisted_below : (n : ℕ) (listed : List ℕ) → AllByRecursion (λ l. l < n) (unlisted n listed)
unlisted_below n listed = go (range_with_len 0 n) (range_below 0 n n (omega arith))
  where
    go : (ns : List ℕ) → AllByRecursion (λ l. l < n) ns → AllByRecursion (λ l. l < n) (filter (λ l. not (is_among listed l)) ns)
    go [] h = tt
    go (l ∷ ns) h = kept (not (is_among listed l)) (go ns h.1)
      where
        kept : (b : Bool) → AllByRecursion (λ l. l < n) (filter (λ l. not (is_among listed l)) ns) → AllByRecursion (λ l. l < n) (if b then l ∷ filter (λ l. not (is_among listed l)) ns else filter (λ l. not (is_among listed l)) ns)
        kept true rest = (h.0, rest)
        kept false rest = rest
