-- How many loop points there are, where all operands have few cells: their number has room in 128
-- bits. Where there is a point, no operand's dimension has extent 0, so that none is greater than
-- the number of cells, and each loop has the extent of a dimension.
use Rattle.std.proofs.Common.{◌≡◌, ℕ, zero, suc, ◌+◌, ◌*◌, ◌<◌, ◌≤◌, Bool, true, false, List, [], ◌∷◌, ◌++◌, map, length, refl, ap, sym, ◌∙◌, arith, subst, inl, inr}
use Rattle.std.specs.Prelude.{◌^◌, nat_eq, if◌then◌else◌}
use Rattle.std.specs.List.{All, AllByRecursion, range_with_len}
use Rattle.std.specs.Cmp.Lexicographic.{pointwise}
use Rattle.std.proofs.lemmas.Nat.{mul-le}
use Rattle.std.proofs.lemmas.Bool.{cases_Bool}
use Rattle.std.proofs.lemmas.List.FromFn.{length-map-range_with_len}
use Rattle.std.proofs.Math.Nat.{le-mul_of_pos_right}
use Rattle.sh_base.specs.Shape.{cell_count, max_cells, IsIndexOf, unflat_of}
use Rattle.sh_base.proofs.ShapeLaws.{IsIndexOf-some}
use Rattle.sh_ir.specs.Loops.{LoopMap, Structure}
use Rattle.sh_tensor.specs.Tensor.{IsHeld, IsTensor, TensorValue}
use Rattle.sh_sem.specs.Nest.{Followed, all_followed, extent_of_loop, extents_by, followed, index_at, maps_of, sizes_agree}
use Rattle.sh_loops.specs.Nests.{AreInside, all_follow_loops}
use Rattle.sh_loops.proofs.InsideLaws.{agreeing_inside}

-- ---- extents of operands

first_small : (n c : ℕ) → 0 < c → n * c ≤ max_cells → n ≤ max_cells
first_small n c some few = let one = le-mul_of_pos_right {m = c} n some in omega (arith, one, few)

others_small : (n c : ℕ) → 0 < n → n * c ≤ max_cells → c ≤ max_cells
others_small n c some few =
    let one : c ≤ 1 * c = omega arith in
    let more : 1 * c ≤ n * c = mul-le 1 c n c (omega (arith, some)) (omega arith) in
    omega (arith, one, more, few)

dims_small : (shape i : List ℕ) → IsIndexOf shape i → cell_count shape ≤ max_cells → AllByRecursion (λ n. n ≤ max_cells) shape
dims_small [] i inside few = tt
dims_small (n ∷ shape) [] inside few = absurd inside
dims_small (n ∷ shape) (k ∷ i) inside few = (
  first_small n (cell_count shape) (IsIndexOf-some shape i inside.1) few,
  dims_small shape i inside.1 (others_small n (cell_count shape) (omega (arith, inside.0)) few),
)

extent_small : (dims : LoopMap) (shape : List ℕ) (others : List Followed) (l : ℕ) → AllByRecursion (λ n. n ≤ max_cells) shape → extent_of_loop others l ≤ max_cells
    → extent_of_loop (followed dims shape ++ others) l ≤ max_cells
extent_small [] shape others l small rest = rest
extent_small (loops ∷ dims) [] others l small rest = rest
extent_small (loops ∷ dims) (n ∷ shape) others l small rest =
    elim (cases_Bool (pointwise nat_eq loops (l ∷ []))) [
      | inl b ↦ rw b small.0
      | inr b ↦ rw b (extent_small dims shape others l small.1 rest)
    ]

extents_small : (maps : List LoopMap) (ts : List TensorValue) (p : List ℕ) (l : ℕ) → AreInside maps ts p → AllByRecursion (λ (t : TensorValue). cell_count t.shape ≤ max_cells) ts
    → extent_of_loop (all_followed maps (map (λ t. t.shape) ts)) l ≤ max_cells
extents_small [] ts p l inside few = omega arith
extents_small (dims ∷ maps) [] p l inside few = absurd inside
extents_small (dims ∷ maps) (t ∷ ts) p l inside few =
    extent_small dims t.shape (all_followed maps (map (λ t. t.shape) ts)) l (dims_small t.shape (index_at dims p) inside.0 few.0) (extents_small maps ts p l inside.1 few.1)

-- ---- products

-- so many extents, each as great as may be
abbrev greatest : ℕ → ℕ
greatest zero = 1
greatest (suc n) = 1048576 * greatest n

product_small : (xs : List ℕ) → AllByRecursion (λ n. n ≤ max_cells) xs → cell_count xs ≤ greatest (length xs)
product_small [] small = omega arith
product_small (x ∷ xs) small = mul-le x (cell_count xs) 1048576 (greatest (length xs)) small.0 (product_small xs small.1)

six : (n : ℕ) → n ≤ 6 → greatest n < 2 ^ 128
six zero l = omega arith
six (suc zero) l = omega arith
six (suc (suc zero)) l = omega arith
six (suc (suc (suc zero))) l = omega arith
six (suc (suc (suc (suc zero)))) l = omega arith
six (suc (suc (suc (suc (suc zero))))) l = omega arith
six (suc (suc (suc (suc (suc (suc zero)))))) l = omega arith
six (suc (suc (suc (suc (suc (suc (suc n))))))) l = absurd (omega (arith, l))

all_mapped : (f : ℕ → ℕ) (start n : ℕ) → ((l : ℕ) → f l ≤ max_cells) → AllByRecursion (λ k. k ≤ max_cells) (map f (range_with_len start n))
all_mapped f start zero h = tt
all_mapped f start (suc n) h = (h start, all_mapped f (start + 1) n h)

-- ---- points

pub points_below : (s : Structure) (ts : List TensorValue) → s.loops ≤ 6 → all_follow_loops s.loops (maps_of s) ≡ true → sizes_agree s (map (λ t. t.shape) ts) ≡ true
    → AllByRecursion (λ (t : TensorValue). cell_count t.shape ≤ max_cells) ts → cell_count (extents_by s (map (λ t. t.shape) ts)) < 2 ^ 128
points_below s ts few follow agree small = go (cell_count (extents_by s (map (λ t. t.shape) ts))) refl
  where
    go : (n : ℕ) → n ≡ cell_count (extents_by s (map (λ t. t.shape) ts)) → n < 2 ^ 128
    go zero e = omega arith
    go (suc n) e =
        let extent : ℕ → ℕ = extent_of_loop (all_followed (maps_of s) (map (λ t. t.shape) ts)) in
        let inside = agreeing_inside s ts 0 follow agree (omega (arith, e)) in
        let below = product_small (extents_by s (map (λ t. t.shape) ts))
        (all_mapped extent 0 s.loops (λ l. extents_small (maps_of s) ts (unflat_of (extents_by s (map (λ t. t.shape) ts)) 0) l inside small)) in
        let long : length (extents_by s (map (λ t. t.shape) ts)) ≡ s.loops = length-map-range_with_len extent 0 s.loops in
        let top : greatest (length (extents_by s (map (λ t. t.shape) ts))) < 2 ^ 128 = six (length (extents_by s (map (λ t. t.shape) ts))) (omega (arith, long, few)) in
        omega (arith, e, below, top)

-- ---- operands in memory

pub wholes : (ts : List TensorValue) → All IsHeld ts → All IsTensor ts
wholes ts held = λ k d l. (held k d l).whole

pub few_cells : (front : List TensorValue) (outs : TensorValue) → All IsHeld front → cell_count outs.shape ≤ max_cells
    → AllByRecursion (λ (t : TensorValue). cell_count t.shape ≤ max_cells) (front ++ outs ∷ [])
few_cells [] outs held few = (few, tt)
few_cells (t ∷ front) outs held few = ((held 0 t (omega arith)).small, few_cells front outs (λ k d l. held (suc k) d (omega (arith, l))) few)
