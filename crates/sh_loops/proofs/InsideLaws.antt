-- Where the operands' sizes agree, each has a cell at each loop point.
use Rattle.std.proofs.Common.{◌≡◌, ℕ, suc, ◌+◌, ◌<◌, ◌≤◌, Bool, true, false, List, [], ◌∷◌, ◌++◌, map, length, get_or, refl, ap, sym, ◌∙◌, arith, subst, inl, inr}
use Rattle.std.specs.Prelude.{◌==◌, ◌&&◌, not, nat_lt, sum}
use Rattle.std.specs.List.{list_all}
use Rattle.std.proofs.lemmas.Bool.{cases_Bool}
use Rattle.std.proofs.lemmas.Bool.Decides.{nat_tests}
use Rattle.std.proofs.lemmas.List.Sums.{sum-map, sum_by-cons}
use Rattle.std.proofs.lemmas.List.FromFn.{get_or-map-range_with_len, length-map-range_with_len}
use Rattle.sh_base.specs.Shape.{cell_count, IsIndexOf, unflat_of}
use Rattle.sh_base.proofs.ShapeLaws.{unflat_of-within}
use Rattle.sh_base.proofs.IndexLaws.{IsIndexOf-entry}
use Rattle.sh_ir.specs.Loops.{LoopMap, Structure}
use Rattle.sh_tensor.specs.Tensor.{TensorValue}
use Rattle.sh_sem.specs.Nest.{all_followed, extent_of_loop, extents_by, followed, has_room, have_ranks, index_at, maps_of, sizes_agree}
use Rattle.sh_loops.specs.Nests.{AreInside, all_follow_loops, follows_loops}

pub both_left : (a b : Bool) → (a && b) ≡ true → a ≡ true
both_left true b h = refl
both_left false b h = h

pub both_right : (a b : Bool) → (a && b) ≡ true → b ≡ true
both_right true b h = h
both_right false b h = absurd (cc)

pub below_by : (a b : ℕ) → nat_lt a b ≡ true → a < b
below_by a b h = grind (arith, nat_tests)

pub equal_by : (a b : ℕ) → (a == b) ≡ true → a ≡ b
equal_by a b h = grind (arith, nat_tests)

sum-more : (f : ℕ → ℕ) (l : ℕ) (loops : List ℕ) → sum (map f (l ∷ loops)) ≡ f l + sum (map f loops)
sum-more f l loops = sum-map f (l ∷ loops) ∙ sum_by-cons f l loops ∙ ap (λ z. f l + z) (sym (sum-map f loops))

sum_below : (n : ℕ) (extent : ℕ → ℕ) (p loops : List ℕ) → ((l : ℕ) → l < n → get_or p l 0 < extent l) → list_all (λ l. nat_lt l n) loops ≡ true
    → sum (map (λ l. get_or p l 0) loops) + length loops ≤ sum (map extent loops)
sum_below n extent p [] h all = omega arith
sum_below n extent p (l ∷ loops) h all =
    let rest = sum_below n extent p loops h (both_right (nat_lt l n) (list_all (λ k. nat_lt k n) loops) all) in
    let here = h l (below_by l n (both_left (nat_lt l n) (list_all (λ k. nat_lt k n) loops) all)) in
    let mine = sum-more (λ k. get_or p k 0) l loops in
    let whole = sum-more extent l loops in
    let longer : length (l ∷ loops) ≡ suc (length loops) = refl in
    omega (arith, rest, here)

in_room : (n : ℕ) (extent : ℕ → ℕ) (p loops : List ℕ) (e : ℕ) → ((l : ℕ) → l < n → get_or p l 0 < extent l) → nat_lt 0 (length loops) ≡ true → list_all (λ l. nat_lt l n) loops ≡ true
    → has_room extent (record { loops = loops; extent = e }) ≡ true → sum (map (λ l. get_or p l 0) loops) < e
in_room n extent p [] e h some all room = absurd (cc)
in_room n extent p (l ∷ others) e h some all room =
    let fits = sum_below n extent p (l ∷ others) h all in
    let here = h l (below_by l n (both_left (nat_lt l n) (list_all (λ k. nat_lt k n) others) all)) in
    elim (cases_Bool (not (length others == 0) && (extent l == 0))) [
      | inl b ↦ let none = equal_by (extent l) 0 (both_right (not (length others == 0)) (extent l == 0) b) in absurd (omega (arith, here, none))
      | inr b ↦ let whole = equal_by (e + length others) (sum (map extent (l ∷ others))) (rw b at room) in omega (arith, fits, whole)
    ]

-- one operand
index_inside : (n : ℕ) (extent : ℕ → ℕ) (p : List ℕ) (dims : LoopMap) (shape : List ℕ) → ((l : ℕ) → l < n → get_or p l 0 < extent l) → follows_loops n dims ≡ true
    → (length dims == length shape) ≡ true → list_all (has_room extent) (followed dims shape) ≡ true → IsIndexOf shape (index_at dims p)
index_inside n extent p [] [] h follow long room = tt
index_inside n extent p [] (e ∷ shape) h follow long room = absurd (omega (arith, equal_by 0 (suc (length shape)) long))
index_inside n extent p (loops ∷ dims) [] h follow long room = absurd (omega (arith, equal_by (suc (length dims)) 0 long))
index_inside n extent p (loops ∷ dims) (e ∷ shape) h follow long room =
    let first = both_left (nat_lt 0 (length loops) && list_all (λ l. nat_lt l n) loops) (follows_loops n dims) follow in
    let same = equal_by (suc (length dims)) (suc (length shape)) long in
    let rest : (length dims == length shape) ≡ true = let e : length dims ≡ length shape = omega (arith, same) in grind (arith, nat_tests) in (
      in_room n extent p loops e h (both_left (nat_lt 0 (length loops)) (list_all (λ l. nat_lt l n) loops) first) (both_right (nat_lt 0 (length loops)) (list_all (λ l. nat_lt l n) loops) first)
          (both_left (has_room extent (record { loops = loops; extent = e })) (list_all (has_room extent) (followed dims shape)) room),
      index_inside n extent p dims shape h (both_right (nat_lt 0 (length loops) && list_all (λ l. nat_lt l n) loops) (follows_loops n dims) follow) rest
          (both_right (has_room extent (record { loops = loops; extent = e })) (list_all (has_room extent) (followed dims shape)) room),
    )

all_more : {X : Type 0} (t : X → Bool) (xs ys : List X) → list_all t (xs ++ ys) ≡ true → (list_all t xs ≡ true) × (list_all t ys ≡ true)
all_more t [] ys h = (refl, h)
all_more t (x ∷ xs) ys h =
    let here = both_left (t x) (list_all t (xs ++ ys)) h in
    let rest = all_more t xs ys (both_right (t x) (list_all t (xs ++ ys)) h) in
    (rw (here, rest.0) refl, rest.1)

-- all operands
pub all_inside : (n : ℕ) (extent : ℕ → ℕ) (p : List ℕ) (maps : List LoopMap) (ts : List TensorValue) → ((l : ℕ) → l < n → get_or p l 0 < extent l) → all_follow_loops n maps ≡ true
    → have_ranks maps (map (λ t. t.shape) ts) ≡ true → list_all (has_room extent) (all_followed maps (map (λ t. t.shape) ts)) ≡ true → AreInside maps ts p
all_inside n extent p [] [] h follow ranks room = tt
all_inside n extent p [] (t ∷ ts) h follow ranks room = absurd (cc)
all_inside n extent p (dims ∷ maps) [] h follow ranks room = absurd (cc)
all_inside n extent p (dims ∷ maps) (t ∷ ts) h follow ranks room =
    let parts = all_more (has_room extent) (followed dims t.shape) (all_followed maps (map (λ t. t.shape) ts)) room in (
      index_inside n extent p dims t.shape h (both_left (follows_loops n dims) (all_follow_loops n maps) follow)
          (both_left (length dims == length t.shape) (have_ranks maps (map (λ t. t.shape) ts)) ranks) parts.0,
      all_inside n extent p maps ts h (both_right (follows_loops n dims) (all_follow_loops n maps) follow)
          (both_right (length dims == length t.shape) (have_ranks maps (map (λ t. t.shape) ts)) ranks) parts.1,
    )

-- at the point with number k
pub agreeing_inside : (s : Structure) (ts : List TensorValue) (k : ℕ) → all_follow_loops s.loops (maps_of s) ≡ true → sizes_agree s (map (λ t. t.shape) ts) ≡ true
    → k < cell_count (extents_by s (map (λ t. t.shape) ts)) → AreInside (maps_of s) ts (unflat_of (extents_by s (map (λ t. t.shape) ts)) k)
agreeing_inside s ts k follow agree below =
    let shapes = map (λ t. t.shape) ts in
    let extent : ℕ → ℕ = extent_of_loop (all_followed (maps_of s) shapes) in
    let extents = extents_by s shapes in
    let inside = unflat_of-within extents k below in
    all_inside s.loops extent (unflat_of extents k) (maps_of s) ts
    (λ l lt.
    subst (λ e. get_or (unflat_of extents k) l 0 < e) (get_or-map-range_with_len extent 0 s.loops l l 0 lt (omega arith))
    (IsIndexOf-entry extents (unflat_of extents k) l inside (rw (length-map-range_with_len extent 0 s.loops) lt)))
    follow
    (both_left (have_ranks (maps_of s) shapes) (list_all (has_room extent) (all_followed (maps_of s) shapes)) agree)
    (both_right (have_ranks (maps_of s) shapes) (list_all (has_room extent) (all_followed (maps_of s) shapes)) agree)
