-- The loops that compute a cost: products over the dimensions so far, and a sum over the devices so far.
use Rattle.std.proofs.Common.{zero, suc, ◌≡◌, ◌∙◌, ℕ, ◌+◌, ◌-◌, ◌*◌, ◌<◌, ◌≤◌, max, List, [], ◌∷◌, length, map, take, ap, sym, refl, arith, add-one}
use Rattle.std.specs.Prelude.{sum}
use Rattle.std.specs.List.{AllByRecursion, range_with_len}
use Rattle.std.proofs.Math.Nat.{mul-le-mul}
use Rattle.std.proofs.lemmas.List.{length-map, take_all}
use Rattle.std.proofs.lemmas.List.FromFn.{sum_by-map-range_with_len_more}
use Rattle.sh_base.specs.Shape.{cell_count, max_cells}
use Rattle.sh_sharding.specs.declared.shardings.Dimension.{Dimension}
use Rattle.sh_sharding.specs.Sharding.{ShardingValue, IsSharding, counted_cells, size_in, start_in, whole_of}
use Rattle.sh_sharding.proofs.PartLaws.{IsPlaced, placed}
use Rattle.sh_plan.specs.Moves.{at}
use Rattle.sh_plan.specs.Costs.{common_cells, common_length, cost_between, received}
use Rattle.sh_plan.proofs.CostLaws.{difference}
use Rattle.sh_plan.proofs.States.{all_at}

-- a part ends in its dimension
pub end_within : (s : ShardingValue) (dim device : ℕ) → IsSharding s → dim < length s.dimensions → device < cell_count s.grid.extents →
    start_in s.grid.extents device (at s.dimensions dim) + size_in s.grid.extents device (at s.dimensions dim) ≤ (at s.dimensions dim).extent
end_within s dim device admitted within here =
    (all_at (IsPlaced s.grid.extents device) s.dimensions dim (placed s device admitted here) within).fits

-- ---- products over the dimensions

counted_some : (ns : List ℕ) → 1 ≤ counted_cells ns
counted_some [] = omega arith
counted_some (n ∷ ns) = mul-le-mul {n₁ = 1} {m₁ = 1} {n₂ = max 1 n} (omega arith) (counted_some ns)

-- the product over the first dimensions is no more than a tensor's cells
pub front_within : (g : List ℕ) (device : ℕ) (ds : List Dimension) (i : ℕ) → AllByRecursion (IsPlaced g device) ds →
    cell_count (map (size_in g device) (take i ds)) ≤ counted_cells (map (λ d. d.extent) ds)
front_within g device ds zero all = counted_some (map (λ d. d.extent) ds)
front_within g device [] (suc i) all = omega arith
front_within g device (d ∷ ds) (suc i) all =
    let fits = all.0.fits in
    mul-le-mul {n₁ = size_in g device d} {n₂ = max 1 d.extent} (omega (arith, fits)) (front_within g device ds i all.1)

-- what two parts have in common is no more than the second
common_within : (g : List ℕ) (device : ℕ) (ds es : List Dimension) → length ds ≡ length es → common_cells g device ds es ≤ cell_count (map (size_in g device) es)
common_within g device [] [] e = omega arith
common_within g device [] (x ∷ es) e = absurd (omega arith)
common_within g device (d ∷ ds) [] e = absurd (omega arith)
common_within g device (d ∷ ds) (x ∷ es) e =
    mul-le-mul {n₁ = common_length g device d x} {n₂ = size_in g device x} (omega arith) (common_within g device ds es (omega arith))

pub held_more : (g : List ℕ) (device : ℕ) (es : List Dimension) (i : ℕ) → i < length es →
    cell_count (map (size_in g device) (take (suc i) es)) ≡ cell_count (map (size_in g device) (take i es)) * size_in g device (at es i)
held_more g device [] i within = absurd (omega arith)
held_more g device (x ∷ es) zero within = omega arith
held_more g device (x ∷ es) (suc i) within =
    let rest = held_more g device es i (omega arith) in
    rw rest (grind arith)

had_more : (g : List ℕ) (device : ℕ) (ds es : List Dimension) (i : ℕ) → length ds ≡ length es → i < length es →
    common_cells g device (take (suc i) ds) (take (suc i) es) ≡ common_cells g device (take i ds) (take i es) * common_length g device (at ds i) (at es i)
had_more g device [] [] i e within = absurd (omega arith)
had_more g device [] (x ∷ es) i e within = absurd (omega arith)
had_more g device (d ∷ ds) [] i e within = absurd (omega arith)
had_more g device (d ∷ ds) (x ∷ es) zero e within = omega arith
had_more g device (d ∷ ds) (x ∷ es) (suc i) e within =
    let rest = had_more g device ds es i (omega arith) (omega arith) in
    rw rest (grind arith)

same_front : (ds es : List Dimension) (i : ℕ) → length ds ≡ length es → length (take i ds) ≡ length (take i es)
same_front ds es zero e = refl
same_front [] [] (suc i) e = refl
same_front [] (x ∷ es) (suc i) e = absurd (omega arith)
same_front (d ∷ ds) [] (suc i) e = absurd (omega arith)
same_front (d ∷ ds) (x ∷ es) (suc i) e = ap suc (same_front ds es i (omega arith))

-- the products over the first i dimensions
pub record IsCounted (g : List ℕ) (device : ℕ) (ds es : List Dimension) (i held had : ℕ) : Type 0 where
  pub sizes : held ≡ cell_count (map (size_in g device) (take i es))
  pub overlaps : had ≡ common_cells g device (take i ds) (take i es)

pub counted_more : (g : List ℕ) (device : ℕ) (ds es : List Dimension) (i h k size common : ℕ) → length ds ≡ length es → i < length es →
    IsCounted g device ds es i h k → size ≡ size_in g device (at es i) → common ≡ common_length g device (at ds i) (at es i) →
    IsCounted g device ds es (i + 1) (h * size) (k * common)
counted_more g device ds es i h k size common e within c size_is common_is = rw (add-one i) (record {
  sizes = rw (size_is, c.sizes) (sym (held_more g device es i within));
  overlaps = rw (common_is, c.overlaps) (sym (had_more g device ds es i e within));
})

pub record IsSmall (held had : ℕ) : Type 0 where
  pub most : held ≤ max_cells
  pub less : had ≤ held

pub counted_small : (s : ShardingValue) (device : ℕ) (ds : List Dimension) (i h k : ℕ) → IsSharding s → device < cell_count s.grid.extents →
    length ds ≡ length s.dimensions → IsCounted s.grid.extents device ds s.dimensions i h k → IsSmall h k
counted_small s device ds i h k admitted here e c =
    let front = front_within s.grid.extents device s.dimensions i (placed s device admitted here) in
    let common = common_within s.grid.extents device (take i ds) (take i s.dimensions) (same_front ds s.dimensions i e) in
    record { most = omega (arith, front, admitted.small, c.sizes); less = omega (arith, common, c.sizes, c.overlaps) }

-- after all dimensions
pub counted_all : (g : List ℕ) (device : ℕ) (ds es : List Dimension) (i h k : ℕ) → length ds ≡ length es → length es ≤ i → IsCounted g device ds es i h k →
    h - k ≡ received g ds es device
counted_all g device ds es i h k e all c =
    let whole_es = take_all i es all in
    let whole_ds = take_all i ds (omega arith) in
    let held : h ≡ cell_count (map (size_in g device) es) = rw whole_es at c.sizes in
    let had : k ≡ common_cells g device ds es = rw (whole_es, whole_ds) at c.overlaps in
    rw (held, had) (sym (difference g ds es device e))

-- ---- the sum over the devices

-- what the devices before this one receive, and 1
pub record IsCostSoFar (g : List ℕ) (ds es : List Dimension) (device cost : ℕ) : Type 0 where
  pub value : cost ≡ 1 + sum (map (received g ds es) (range_with_len 0 device))
  pub small : cost ≤ 1 + device * max_cells

pub cost_more : (g : List ℕ) (ds es : List Dimension) (device cost more : ℕ) → IsCostSoFar g ds es device cost → more ≡ received g ds es device → more ≤ max_cells →
    IsCostSoFar g ds es (device + 1) (cost + more)
cost_more g ds es device cost more c is small =
    let grown = sum_by-map-range_with_len_more (λ n. n) (received g ds es) 0 device device (omega arith) in
    record { value = omega (arith, grown, c.value, is); small = omega (arith, c.small, small) }

pub cost_all : (g : List ℕ) (ds es : List Dimension) (device cost : ℕ) → IsCostSoFar g ds es device cost → device ≡ cell_count g → cost ≡ cost_between g ds es
unfolding cost_between
cost_all g ds es device cost c e = rw (← e) c.value

pub same_rank : (a b : ShardingValue) → whole_of a ≡ whole_of b → length a.dimensions ≡ length b.dimensions
same_rank a b e = sym (length-map a.dimensions (λ d. d.extent)) ∙ ap length e ∙ length-map b.dimensions (λ d. d.extent)
