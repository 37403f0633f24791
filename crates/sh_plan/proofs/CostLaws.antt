-- What a device receives, counted index by index, is a difference of two products of lengths.
use Rattle.std.proofs.Common.{zero, suc, ◌≡◌, ◌∙◌, ℕ, ◌+◌, ◌-◌, ◌*◌, Bool, true, false, not, cond, ◌&&◌, min, max, List, [], ◌∷◌, length, map, ap, refl, arith, inl, inr, length-append}
use Rattle.std.specs.Prelude.{filter, sum}
use Rattle.std.specs.List.{flat_map, range_with_len}
use Rattle.std.proofs.lemmas.Bool.Decides.{nat_tests}
use Rattle.std.proofs.lemmas.List.{length-map}
use Rattle.std.proofs.lemmas.List.Elements.{filter-append}
use Rattle.std.proofs.lemmas.List.Filters.{length-filter_both}
use Rattle.std.proofs.lemmas.List.FromFn.{length-range_with_len}
use Rattle.sh_base.specs.Shape.{cell_count}
use Rattle.sh_sharding.specs.declared.shardings.Dimension.{Dimension}
use Rattle.sh_sharding.specs.Sharding.{start_in, size_in}
use Rattle.sh_sharding.proofs.Cases.{lt_or_le}
use Rattle.sh_plan.specs.Costs.{common_cells, cost_between, cost_by_lengths, is_from, is_in_part, part_cells, part_indices, received, received_by_lengths}

-- lists that grow or stay alike
grown : {X Y : Type 0} (b : Bool) (x : X) (y : Y) (xs : List X) (ys : List Y) → length xs ≡ length ys →
    length (cond b (x ∷ xs) xs) ≡ length (cond b (y ∷ ys) ys)
grown true x y xs ys e = ap suc e
grown false x y xs ys e = e

-- how many indices that begin with one number pass a test
with_first : (x : ℕ) (b : Bool) (p q : List ℕ → Bool) → ((i : List ℕ) → q (x ∷ i) ≡ (b && p i)) → (is : List (List ℕ)) →
    length (filter q (map (λ i. x ∷ i) is)) ≡ cond b (length (filter p is)) 0
with_first x true p q h [] = refl
with_first x false p q h [] = refl
with_first x true p q h (i ∷ is) =
    let e : q (x ∷ i) ≡ p i = h i in
    rw e (grown (p i) (x ∷ i) i (filter q (map (λ j. x ∷ j) is)) (filter p is) (with_first x true p q h is))
with_first x false p q h (i ∷ is) =
    let e : q (x ∷ i) ≡ false = h i in
    rw e (with_first x false p q h is)

one_more : (b : Bool) (x : ℕ) (xs : List ℕ) (n : ℕ) → cond b n 0 + length xs * n ≡ length (cond b (x ∷ xs) xs) * n
one_more true x xs n = grind arith
one_more false x xs n = omega arith

-- how many indices pass a test that asks the first number and the rest apart
product : (f : ℕ → Bool) (p q : List ℕ → Bool) → ((x : ℕ) (i : List ℕ) → q (x ∷ i) ≡ (f x && p i)) → (is : List (List ℕ)) (xs : List ℕ) →
    length (filter q (flat_map (λ x. map (λ i. x ∷ i) is) xs)) ≡ length (filter f xs) * length (filter p is)
product f p q h is [] = omega arith
product f p q h is (x ∷ xs) =
    let rest = product f p q h is xs in
    let here = with_first x (f x) p q (h x) is in
    rw (
      filter-append q (map (λ i. x ∷ i) is) (flat_map (λ x'. map (λ i. x' ∷ i) is) xs),
      length-append (filter q (map (λ i. x ∷ i) is)) (filter q (flat_map (λ x'. map (λ i. x' ∷ i) is) xs)),
      here,
      rest,
    )
    (one_more (f x) x (filter f xs) (length (filter p is)))

-- how many numbers of one interval lie in another
in_both : (a size s n : ℕ) → length (filter (is_from a size) (range_with_len s n)) ≡ min (a + size) (s + n) - max a s
in_both a size s zero = omega arith
in_both a size s (suc n) =
    let rest : length (filter (is_from a size) (range_with_len (s + 1) n)) ≡ min (a + size) (s + 1 + n) - max a (s + 1) = in_both a size (s + 1) n in
    elim (lt_or_le s a) [
      | inl before ↦
          let no : is_from a size s ≡ false = grind (arith, nat_tests) in
          rw no (rest ∙ omega arith)
      | inr after ↦ elim (lt_or_le s (a + size)) [
        | inl within ↦
            let yes : is_from a size s ≡ true = grind (arith, nat_tests) in
            rw yes (ap suc rest ∙ omega arith)
        | inr past ↦
            let no : is_from a size s ≡ false = grind (arith, nat_tests) in
            rw no (rest ∙ omega arith)
      ]
    ]

-- the indices of the part before that lie in the part afterwards
common : (g : List ℕ) (device : ℕ) (ds es : List Dimension) → length ds ≡ length es →
    length (filter (is_in_part g device ds) (part_indices g device es)) ≡ common_cells g device ds es
unfolding is_in_part part_indices
common g device [] [] e = refl
common g device [] (d' ∷ es) e = absurd (omega arith)
common g device (d ∷ ds) [] e = absurd (omega arith)
common g device (d ∷ ds) (d' ∷ es) e =
    let rest = common g device ds es (omega arith) in
    product (is_from (start_in g device d) (size_in g device d)) (is_in_part g device ds) (is_in_part g device (d ∷ ds)) (λ x i. refl)
    (part_indices g device es) (range_with_len (start_in g device d') (size_in g device d'))
    ∙ rw (in_both (start_in g device d) (size_in g device d) (start_in g device d') (size_in g device d'), rest) refl

pairs : (is : List (List ℕ)) (xs : List ℕ) → length (flat_map (λ x. map (λ i. x ∷ i) is) xs) ≡ length xs * length is
pairs is [] = omega arith
pairs is (x ∷ xs) =
    let rest = pairs is xs in
    rw (length-append (map (λ i. x ∷ i) is) (flat_map (λ x'. map (λ i. x' ∷ i) is) xs), length-map is (λ (i : List ℕ). x ∷ i), rest) (grind arith)

-- how many indices a part has
all : (g : List ℕ) (device : ℕ) (ds : List Dimension) → length (part_indices g device ds) ≡ part_cells g device ds
unfolding part_indices
all g device [] = refl
all g device (d ∷ ds) =
    let rest = all g device ds in
    pairs (part_indices g device ds) (range_with_len (start_in g device d) (size_in g device d))
    ∙ rw (length-range_with_len (start_in g device d) (size_in g device d), rest) refl

-- equal functions on the elements of a list
map-pointwise : {X Y : Type 0} (f h : X → Y) → ((x : X) → f x ≡ h x) → (xs : List X) → map f xs ≡ map h xs
map-pointwise f h e [] = refl
map-pointwise f h e (x ∷ xs) = rw (e x, map-pointwise f h e xs) refl

-- what a device receives, and what it had, is what its part holds afterwards
pub is_received : (g : List ℕ) (before after : List Dimension) (device : ℕ) → length before ≡ length after →
    received g before after device + common_cells g device before after ≡ part_cells g device after
unfolding received
is_received g before after device same =
    let both = length-filter_both (is_in_part g device before) (λ i. not (is_in_part g device before i)) (λ i. refl) (part_indices g device after) in
    let kept = common g device before after same in
    let whole = all g device after in
    omega (arith, both, kept, whole)

pub difference : (g : List ℕ) (before after : List Dimension) (device : ℕ) → length before ≡ length after → received g before after device ≡ received_by_lengths g before after device
difference g before after device same = let e = is_received g before after device same in omega (arith, e)

-- so what a move costs is a sum of such differences
pub by_lengths : (g : List ℕ) (before after : List Dimension) → length before ≡ length after → cost_between g before after ≡ cost_by_lengths g before after
unfolding cost_between
by_lengths g before after same =
    ap (λ (ns : List ℕ). 1 + sum ns) (map-pointwise (received g before after) (received_by_lengths g before after) (λ device. difference g before after device same) (range_with_len 0 (cell_count g)))
