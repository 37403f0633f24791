-- What a step costs, by how many cells the parts of all devices hold before and after it.
use Rattle.std.proofs.Common.{zero, suc, ◌≡◌, ℕ, ◌+◌, ◌*◌, ◌<◌, ◌≤◌, List, [], ◌∷◌, length, map, set, ap, refl, arith}
use Rattle.std.specs.Prelude.{sum}
use Rattle.std.specs.List.{range_with_len}
use Rattle.std.proofs.lemmas.List.Sums.{sum_by-cons}
use Rattle.sh_base.specs.Shape.{cell_count}
use Rattle.sh_sharding.specs.declared.shardings.Dimension.{Dimension}
use Rattle.sh_sharding.specs.Sharding.{size_in}
use Rattle.sh_plan.specs.Moves.{at}
use Rattle.sh_plan.specs.Costs.{common_cells, cost_between, held, part_cells, received}
use Rattle.sh_plan.proofs.CostLaws.{is_received}
use Rattle.sh_plan.proofs.Inside.{AreInside, all_kept}

-- ---- sums

sums_add : (f h w : ℕ → ℕ) (a n : ℕ) → ((i : ℕ) → i < a + n → f i + h i ≡ w i) →
    sum (map f (range_with_len a n)) + sum (map h (range_with_len a n)) ≡ sum (map w (range_with_len a n))
sums_add f h w a zero e = refl
sums_add f h w a (suc n) e =
    let first = e a (omega arith) in
    let rest = sums_add f h w (a + 1) n (λ i below. e i (omega arith)) in
    let fs = sum_by-cons (λ x. x) (f a) (map f (range_with_len (a + 1) n)) in
    let hs = sum_by-cons (λ x. x) (h a) (map h (range_with_len (a + 1) n)) in
    let ws = sum_by-cons (λ x. x) (w a) (map w (range_with_len (a + 1) n)) in
    omega (arith, first, rest, fs, hs, ws)

pub sums_times : (u v : ℕ) (f h : ℕ → ℕ) (a n : ℕ) → ((i : ℕ) → i < a + n → u * f i ≡ v * h i) →
    u * sum (map f (range_with_len a n)) ≡ v * sum (map h (range_with_len a n))
sums_times u v f h a zero e = omega arith
sums_times u v f h a (suc n) e =
    let first = e a (omega arith) in
    let rest = sums_times u v f h (a + 1) n (λ i below. e i (omega arith)) in
    let fs : sum (map f (range_with_len a (suc n))) ≡ f a + sum (map f (range_with_len (a + 1) n)) = sum_by-cons (λ x. x) (f a) (map f (range_with_len (a + 1) n)) in
    let hs : sum (map h (range_with_len a (suc n))) ≡ h a + sum (map h (range_with_len (a + 1) n)) = sum_by-cons (λ x. x) (h a) (map h (range_with_len (a + 1) n)) in
    rw (fs, hs) (omega (arith, first, rest))

pub sums_same : (c : ℕ) (f : ℕ → ℕ) (a n : ℕ) → ((i : ℕ) → i < a + n → f i ≡ c) → sum (map f (range_with_len a n)) ≡ n * c
sums_same c f a zero e = omega arith
sums_same c f a (suc n) e =
    let first = e a (omega arith) in
    let rest = sums_same c f (a + 1) n (λ i below. e i (omega arith)) in
    let fs : sum (map f (range_with_len a (suc n))) ≡ f a + sum (map f (range_with_len (a + 1) n)) = sum_by-cons (λ x. x) (f a) (map f (range_with_len (a + 1) n)) in
    omega (arith, first, rest, fs)

pub sums_few : (c : ℕ) (f : ℕ → ℕ) (a n : ℕ) → ((i : ℕ) → i < a + n → f i ≤ c) → sum (map f (range_with_len a n)) ≤ n * c
sums_few c f a zero e = omega arith
sums_few c f a (suc n) e =
    let first = e a (omega arith) in
    let rest = sums_few c f (a + 1) n (λ i below. e i (omega arith)) in
    let fs : sum (map f (range_with_len a (suc n))) ≡ f a + sum (map f (range_with_len (a + 1) n)) = sum_by-cons (λ x. x) (f a) (map f (range_with_len (a + 1) n)) in
    omega (arith, first, rest, fs)

-- ---- what is held before and afterwards

-- how many cells all devices hold both before and after a step
unfoldable pub kept : List ℕ → List Dimension → List Dimension → ℕ
kept g before after = sum (map (λ device. common_cells g device before after) (range_with_len 0 (cell_count g)))

-- what a step costs, and what is kept, is 1 and what is held afterwards
pub cost_and_kept : (g : List ℕ) (ds es : List Dimension) → length ds ≡ length es → cost_between g ds es + kept g ds es ≡ 1 + held g es
unfolding cost_between kept held
cost_and_kept g ds es same =
    let both = sums_add (received g ds es) (λ device. common_cells g device ds es) (λ device. part_cells g device es) 0 (cell_count g)
    (λ device below. is_received g ds es device same) in
    omega (arith, both)

-- where each device keeps all that it held
pub all_is_kept : (g : List ℕ) (ds es : List Dimension) → AreInside g es ds → kept g ds es ≡ held g ds
unfolding kept held
all_is_kept g ds es inside =
    let e = sums_times 1 1 (λ device. common_cells g device ds es) (λ device. part_cells g device ds) 0 (cell_count g)
    (λ device below. ap (λ n. 1 * n) (all_kept g device ds es (omega (arith, below)) inside)) in
    omega (arith, e)

-- ---- one dimension in place of another

scaled : (u v a b p : ℕ) → u * a ≡ v * b → u * (a * p) ≡ v * (b * p)
scaled u v a b p e = let times : u * a * p ≡ v * b * p = ap (λ n. n * p) e in omega (arith, times)

carried : (u v a p q : ℕ) → u * p ≡ v * q → u * (a * p) ≡ v * (a * q)
carried u v a p q e = let times : a * (u * p) ≡ a * (v * q) = ap (λ n. a * n) e in omega (arith, times)

pub cells_set : (u v : ℕ) (g : List ℕ) (device : ℕ) (ds : List Dimension) (i : ℕ) (x : Dimension) → i < length ds →
    u * size_in g device (at ds i) ≡ v * size_in g device x → u * part_cells g device ds ≡ v * part_cells g device (set ds i x)
cells_set u v g device [] i x within e = absurd (omega arith)
cells_set u v g device (d ∷ ds) zero x within e = scaled u v (size_in g device d) (size_in g device x) (part_cells g device ds) e
cells_set u v g device (d ∷ ds) (suc i) x within e =
    carried u v (size_in g device d) (part_cells g device ds) (part_cells g device (set ds i x)) (cells_set u v g device ds i x (omega (arith, within)) e)

pub held_set : (u v : ℕ) (g : List ℕ) (ds : List Dimension) (i : ℕ) (x : Dimension) → i < length ds →
    ((device : ℕ) → device < cell_count g → u * size_in g device (at ds i) ≡ v * size_in g device x) → u * held g ds ≡ v * held g (set ds i x)
unfolding held
held_set u v g ds i x within e =
    sums_times u v (λ device. part_cells g device ds) (λ device. part_cells g device (set ds i x)) 0 (cell_count g)
    (λ device below. cells_set u v g device ds i x within (e device (omega (arith, below))))
