-- States: what holds of each dimension of a sharding without halos, and what a move may cost there.
use Rattle.std.proofs.Common.{zero, suc, ◌≡◌, ◌⊎◌, ℕ, ◌+◌, ◌*◌, ◌%◌, ◌<◌, ◌≤◌, ◌==◌, Bool, true, false, not, ◌&&◌, List, [], ◌∷◌, length, map, set, ap, refl, arith, inl, inr, length-append}
use Rattle.std.specs.Prelude.{sum}
use Rattle.std.specs.List.{AllByRecursion, range_with_len}
use Rattle.std.proofs.Math.Nat.{mul-le-mul}
use Rattle.std.proofs.lemmas.Bool.Decides.{nat_tests}
use Rattle.std.proofs.lemmas.List.FromFn.{length-map-range_with_len}
use Rattle.std.proofs.lemmas.List.Sums.{sum_by-le}
use Rattle.std.proofs.lemmas.List.Elements.{All-from_recursion}
use Rattle.sh_base.specs.Shape.{cell_count}
use Rattle.sh_sharding.specs.declared.shardings.Dimension.{Dimension}
use Rattle.sh_sharding.specs.declared.shardings.Mark.{Mark}
use Rattle.sh_sharding.specs.declared.shardings.Mark.TheVariants.{Balanced, Offsets}
use Rattle.sh_sharding.specs.Sharding.{axes_of, is_balanced_mark, is_even, is_split, is_split_by, is_uneven, offset_of, part_size, parts_of, size_in, size_of_part, unsplit}
use Rattle.sh_sharding.proofs.Cases.{and_left, and_right}
use Rattle.sh_plan.specs.Moves.{at}
use Rattle.sh_plan.specs.Costs.{cost_between, part_cells, received_by_lengths}
use Rattle.sh_plan.proofs.CostLaws.{by_lengths}

-- no halos, offsets on a split dimension alone, and parts that are no longer than the whole
pub record IsStateDimension (g : List ℕ) (d : Dimension) : Type 0 where
  pub low : d.low ≡ 0
  pub high : d.high ≡ 0
  pub whole : d.axes ≡ [] → d.mark ≡ Balanced
  pub sized : (device : ℕ) → device < cell_count g → size_in g device d ≤ d.extent

abbrev pub AreInState : List ℕ → List Dimension → Type 0
AreInState g ds = AllByRecursion (IsStateDimension g) ds

-- ---- lists of dimensions

pub all_set : {X : Type 0} (P : X → Type 0) (xs : List X) (i : ℕ) (x : X) → AllByRecursion P xs → P x → AllByRecursion P (set xs i x)
all_set P [] i x all p = tt
all_set P (y ∷ ys) zero x all p = (p, all.1)
all_set P (y ∷ ys) (suc i) x all p = (all.0, all_set P ys i x all.1 p)

pub all_at : (P : Dimension → Type 0) (ds : List Dimension) (i : ℕ) → AllByRecursion P ds → i < length ds → P (at ds i)
all_at P [] i all within = absurd (omega arith)
all_at P (d ∷ ds) zero all within = all.0
all_at P (d ∷ ds) (suc i) all within = all_at P ds i all.1 (omega arith)

-- a function that has the same value at the new dimension
pub map_set : {Y : Type 0} (f : Dimension → Y) (ds : List Dimension) (i : ℕ) (x : Dimension) → f x ≡ f (at ds i) → map f (set ds i x) ≡ map f ds
map_set f [] i x e = refl
map_set f (d ∷ ds) zero x e = ap (λ y. y ∷ map f ds) e
map_set f (d ∷ ds) (suc i) x e = ap (λ ys. f d ∷ ys) (map_set f ds i x e)

-- how many axes split the dimensions, where one is another
pub axes_set : (ds : List Dimension) (i : ℕ) (x : Dimension) → i < length ds →
    length (axes_of (set ds i x)) + length (at ds i).axes ≡ length (axes_of ds) + length x.axes
axes_set [] i x within = absurd (omega arith)
axes_set (d ∷ ds) zero x within =
    let new = length-append x.axes (axes_of ds) in
    let old = length-append d.axes (axes_of ds) in
    omega (arith, new, old)
axes_set (d ∷ ds) (suc i) x within =
    let rest = axes_set ds i x (omega arith) in
    let new = length-append d.axes (axes_of (set ds i x)) in
    let old = length-append d.axes (axes_of ds) in
    omega (arith, rest, new, old)

-- ---- split and even

pub split_some : (axes : List ℕ) → 0 < length axes → is_split_by axes ≡ true
split_some [] h = absurd (omega arith)
split_some (a ∷ axes) h = refl

pub some_split : (axes : List ℕ) → is_split_by axes ≡ true → 0 < length axes
some_split [] h = absurd (cc)
some_split (a ∷ axes) h = omega arith

pub none_split : (axes : List ℕ) → is_split_by axes ≡ false → axes ≡ []
none_split [] h = refl
none_split (a ∷ axes) h = absurd (cc)

balanced_mark : (m : Mark) → is_balanced_mark m ≡ true → m ≡ Balanced
balanced_mark Balanced h = refl
balanced_mark (Offsets offsets) h = absurd (cc)

pub record IsEven (g : List ℕ) (d : Dimension) : Type 0 where
  pub split : is_split d ≡ true
  pub balanced : d.mark ≡ Balanced
  pub divided : d.extent % parts_of g d ≡ 0

pub even_is : (g : List ℕ) (d : Dimension) → is_even g d ≡ true → IsEven g d
unfolding is_even
even_is g d h =
    let rest = and_right (is_split d) (is_balanced_mark d.mark && (d.extent % parts_of g d == 0)) h in
    let divided : (d.extent % parts_of g d == 0) ≡ true = and_right (is_balanced_mark d.mark) (d.extent % parts_of g d == 0) rest in
    record {
      split = and_left (is_split d) (is_balanced_mark d.mark && (d.extent % parts_of g d == 0)) h;
      balanced = balanced_mark d.mark (and_left (is_balanced_mark d.mark) (d.extent % parts_of g d == 0) rest);
      divided = grind (arith, nat_tests);
    }

pub is_even_of : (g : List ℕ) (d : Dimension) → IsEven g d → is_even g d ≡ true
unfolding is_even
is_even_of g d e =
    let divided : (d.extent % parts_of g d == 0) ≡ true = rw e.divided refl in
    rw (e.split, divided, e.balanced) refl

-- a split dimension is even or uneven
pub even_or_uneven : (g : List ℕ) (d : Dimension) → is_split d ≡ true → (is_even g d ≡ true) ⊎ (is_uneven g d ≡ true)
unfolding is_uneven
even_or_uneven g d h = by (is_even g d) refl
  where
    by : (b : Bool) → is_even g d ≡ b → (is_even g d ≡ true) ⊎ ((is_split d && not (is_even g d)) ≡ true)
    by true e = inl e
    by false e = inr (rw (h, e) refl)

pub uneven_is_split : (g : List ℕ) (d : Dimension) → is_uneven g d ≡ true → is_split d ≡ true
unfolding is_uneven
uneven_is_split g d h = and_left (is_split d) (not (is_even g d)) h

-- ---- one dimension

-- without offsets and halos
pub state_of_balanced : (g : List ℕ) (d : Dimension) → d.low ≡ 0 → d.high ≡ 0 → d.mark ≡ Balanced → IsStateDimension g d
unfolding size_in part_size size_of_part offset_of
state_of_balanced g d low high mark = record {
  low = low;
  high = high;
  whole = λ _. mark;
  sized = λ device within. rw mark (omega arith);
}

pub state_unsplit : (g : List ℕ) (extent : ℕ) → IsStateDimension g (unsplit extent)
state_unsplit g extent = state_of_balanced g (unsplit extent) refl refl refl

pub is_unsplit : (g : List ℕ) (d : Dimension) → IsStateDimension g d → d.axes ≡ [] → d ≡ unsplit d.extent
is_unsplit g d s none = rw (none, s.whole none, s.low, s.high) refl

-- ---- what a move costs at most

cells_within : (g : List ℕ) (device : ℕ) (ds : List Dimension) → device < cell_count g → AreInState g ds → part_cells g device ds ≤ cell_count (map (λ d. d.extent) ds)
cells_within g device [] within s = omega arith
cells_within g device (d ∷ ds) within s = mul-le-mul (s.0.sized device within) (cells_within g device ds within s.1)

pub in_range_below : (P : ℕ → Type 0) (a n : ℕ) → ((i : ℕ) → i < a + n → P i) → AllByRecursion P (range_with_len a n)
in_range_below P a zero f = tt
in_range_below P a (suc n) f = (f a (omega arith), in_range_below P (a + 1) n (λ i h. f i (omega arith)))

pub map_all : {X Y : Type 0} (P : Y → Type 0) (f : X → Y) (xs : List X) → AllByRecursion (λ x. P (f x)) xs → AllByRecursion P (map f xs)
map_all P f [] all = tt
map_all P f (x ∷ xs) all = (all.0, map_all P f xs all.1)

pub cost_within : (g : List ℕ) (before after : List Dimension) → length before ≡ length after → AreInState g after →
    cost_between g before after ≤ 1 + cell_count g * cell_count (map (λ d. d.extent) after)
cost_within g before after same s =
    let most = cell_count (map (λ d. d.extent) after) in
    let each : AllByRecursion (λ n. n ≤ cell_count (map (λ d. d.extent) after)) (map (received_by_lengths g before after) (range_with_len 0 (cell_count g))) =
    map_all (λ n. n ≤ cell_count (map (λ d. d.extent) after)) (received_by_lengths g before after) (range_with_len 0 (cell_count g))
    (in_range_below (λ device. received_by_lengths g before after device ≤ cell_count (map (λ d. d.extent) after)) 0 (cell_count g)
    (λ device h. let cells = cells_within g device after (omega arith) s in omega (arith, cells))) in
    let sums = sum_by-le (λ n. n) (cell_count (map (λ d. d.extent) after)) (map (received_by_lengths g before after) (range_with_len 0 (cell_count g)))
    (All-from_recursion (λ n. n ≤ cell_count (map (λ d. d.extent) after)) (map (received_by_lengths g before after) (range_with_len 0 (cell_count g))) each) in
    let long = length-map-range_with_len (received_by_lengths g before after) 0 (cell_count g) in
    let total : sum (map (received_by_lengths g before after) (range_with_len 0 (cell_count g))) ≤ cell_count g * cell_count (map (λ d. d.extent) after) = rw long at sums in
    rw (by_lengths g before after same) (omega (arith, total))
