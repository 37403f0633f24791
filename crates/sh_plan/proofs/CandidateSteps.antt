-- The list of all moves, as loops build it, and that it names what there is.
use Rattle.std.proofs.Common.{◌≡◌, ◌∙◌, ℕ, ◌+◌, ◌<◌, List, [], ◌∷◌, ◌++◌, map, ap, sym, refl, arith, append_assoc, append-nil}
use Rattle.std.specs.List.{AllByRecursion, flat_map, range_with_len}
use Rattle.std.proofs.lemmas.Grind.{flat_map-append}
use Rattle.std.proofs.lemmas.List.FromFn.{map-range_with_len_more}
use Rattle.sh_plan.specs.declared.moves.Move.{Move}
use Rattle.sh_plan.specs.declared.moves.Move.TheVariants.{M1, M2, M3, M4, M5}
use Rattle.sh_plan.proofs.States.{in_range_below, map_all}
use Rattle.sh_plan.specs.Moves.{IsNamed, candidates, each_m1, each_m2, each_m3, each_m4, each_m5}

-- a list with the values of a function at the first numbers, and one more
pub mapped_more : {Y : Type 0} (f : ℕ → Y) (old now new : List Y) (n : ℕ) → now ≡ old ++ map f (range_with_len 0 n) → new ≡ now ++ f n ∷ [] →
    new ≡ old ++ map f (range_with_len 0 (n + 1))
mapped_more f old now new n so pushed =
    rw (map-range_with_len_more f 0 n n (omega arith)) (pushed ∙ ap (λ xs. xs ++ f n ∷ []) so ∙ append_assoc old (map f (range_with_len 0 n)) (f n ∷ []))

range_more : (a n : ℕ) → range_with_len a (n + 1) ≡ range_with_len a n ++ (a + n) ∷ []
range_more a n = sym (map_id (range_with_len a (n + 1))) ∙ map-range_with_len_more (λ x. x) a n (a + n) refl ∙ ap (λ xs. xs ++ (a + n) ∷ []) (map_id (range_with_len a n))
  where
    map_id : (xs : List ℕ) → map (λ x. x) xs ≡ xs
    map_id [] = refl
    map_id (x ∷ xs) = ap (λ (ys : List ℕ). x ∷ ys) (map_id xs)

pub joined_more : {Y : Type 0} (f : ℕ → List Y) (old now new : List Y) (n : ℕ) → now ≡ old ++ flat_map f (range_with_len 0 n) → new ≡ now ++ f n →
    new ≡ old ++ flat_map f (range_with_len 0 (n + 1))
joined_more f old now new n so pushed =
    let last : 0 + n ≡ n = omega arith in
    rw (range_more 0 n, last, flat_map-append f (range_with_len 0 n) (n ∷ []), append-nil (f n)) (pushed ∙ ap (λ xs. xs ++ f n) so ∙ append_assoc old (flat_map f (range_with_len 0 n)) (f n))

-- ---- all moves name what there is

all_joined : {X : Type 0} (P : X → Type 0) (xs ys : List X) → AllByRecursion P xs → AllByRecursion P ys → AllByRecursion P (xs ++ ys)
all_joined P [] ys a b = b
all_joined P (x ∷ xs) ys a b = (a.0, all_joined P xs ys a.1 b)

flat_all : {X Y : Type 0} (P : Y → Type 0) (f : X → List Y) (xs : List X) → AllByRecursion (λ x. AllByRecursion P (f x)) xs → AllByRecursion P (flat_map f xs)
flat_all P f [] all = tt
flat_all P f (x ∷ xs) all = all_joined P (f x) (flat_map f xs) all.0 (flat_all P f xs all.1)

each_below : (P : Move → Type 0) (f : ℕ → Move) (n : ℕ) → ((i : ℕ) → i < n → P (f i)) → AllByRecursion P (map f (range_with_len 0 n))
each_below P f n h = map_all P f (range_with_len 0 n) (in_range_below (λ i. P (f i)) 0 n (λ i below. h i (omega arith)))

pub all_named : (axes rank : ℕ) → AllByRecursion (IsNamed axes rank) (candidates axes rank)
unfolding candidates
all_named axes rank =
    all_joined (IsNamed axes rank) (each_m1 rank) (each_m2 axes rank ++ (each_m3 rank ++ (each_m4 rank ++ each_m5 rank))) (each_below (IsNamed axes rank) M1 rank (λ i h. h))
    (all_joined (IsNamed axes rank) (each_m2 axes rank) (each_m3 rank ++ (each_m4 rank ++ each_m5 rank))
    (flat_all (IsNamed axes rank) (λ d. map (M2 d) (range_with_len 0 axes)) (range_with_len 0 rank)
    (in_range_below (λ d. AllByRecursion (IsNamed axes rank) (map (M2 d) (range_with_len 0 axes))) 0 rank
    (λ d below. each_below (IsNamed axes rank) (M2 d) axes (λ a h. (omega (arith, below), h)))))
    (all_joined (IsNamed axes rank) (each_m3 rank) (each_m4 rank ++ each_m5 rank)
    (flat_all (IsNamed axes rank) (λ d. map (M3 d) (range_with_len 0 rank)) (range_with_len 0 rank)
    (in_range_below (λ d. AllByRecursion (IsNamed axes rank) (map (M3 d) (range_with_len 0 rank))) 0 rank
    (λ d below. each_below (IsNamed axes rank) (M3 d) rank (λ e h. (omega (arith, below), h)))))
    (all_joined (IsNamed axes rank) (each_m4 rank) (each_m5 rank) (each_below (IsNamed axes rank) M4 rank (λ i h. h))
    (each_below (IsNamed axes rank) M5 rank (λ i h. h)))))
