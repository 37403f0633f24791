-- The loops that count what the parts of all devices hold.
use Rattle.std.proofs.Common.{zero, suc, ◌≡◌, ◌∙◌, ℕ, ◌+◌, ◌-◌, ◌*◌, ◌<◌, ◌≤◌, Bool, true, false, not, ◌||◌, List, [], ◌∷◌, length, map, take, ap, sym, subst, refl, arith, add-one, inl, inr}
use Rattle.std.specs.Prelude.{sum}
use Rattle.std.specs.List.{range_with_len}
use Rattle.std.proofs.lemmas.Bool.{cases_Bool}
use Rattle.std.proofs.lemmas.List.{take_all}
use Rattle.std.proofs.lemmas.List.FromFn.{sum_by-map-range_with_len_more}
use Rattle.sh_base.specs.Shape.{cell_count, max_cells}
use Rattle.sh_base.specs.Limits.{max_devices}
use Rattle.sh_grid.specs.Grid.{AreAxesOf}
use Rattle.sh_sharding.specs.declared.shardings.Dimension.{Dimension}
use Rattle.sh_sharding.specs.Sharding.{IsDimension, IsSharding, ShardingValue, is_even, is_split, size_in, unsplit}
use Rattle.sh_sharding.proofs.PartLaws.{axes_of-each, placed}
use Rattle.sh_plan.specs.Moves.{at, is_even_or_unsplit}
use Rattle.sh_plan.specs.Costs.{held, held_by, part_cells}
use Rattle.sh_plan.proofs.AxisMore.{even_part}
use Rattle.sh_plan.proofs.CostSteps.{front_within, held_more}
use Rattle.sh_plan.proofs.DeviceSums.{sums_few, sums_same}
use Rattle.sh_plan.proofs.Inside.{whole_part}
use Rattle.sh_plan.proofs.States.{all_at, even_is, none_split}

-- ---- the cells of one part

-- the product over the first dimensions
pub record IsHeldSoFar (g : List ℕ) (device : ℕ) (ds : List Dimension) (i cells : ℕ) : Type 0 where
  pub value : cells ≡ cell_count (map (size_in g device) (take i ds))

pub held_on : (g : List ℕ) (device : ℕ) (ds : List Dimension) (i cells size : ℕ) → i < length ds → IsHeldSoFar g device ds i cells →
    size ≡ size_in g device (at ds i) → IsHeldSoFar g device ds (i + 1) (cells * size)
held_on g device ds i cells size within h is =
    rw (add-one i) (record { value = rw (is, h.value) (sym (held_more g device ds i within)) })

pub held_few : (s : ShardingValue) (device i cells : ℕ) → IsSharding s → device < cell_count s.grid.extents → IsHeldSoFar s.grid.extents device s.dimensions i cells → cells ≤ max_cells
held_few s device i cells admitted here h =
    let front = front_within s.grid.extents device s.dimensions i (placed s device admitted here) in
    omega (arith, front, admitted.small, h.value)

pub held_whole : (g : List ℕ) (device : ℕ) (ds : List Dimension) (i cells : ℕ) → length ds ≤ i → IsHeldSoFar g device ds i cells → cells ≡ part_cells g device ds
held_whole g device ds i cells all h = rw (take_all i ds all) at h.value

-- ---- the cells of all parts

pub record AreHeldSoFar (g : List ℕ) (ds : List Dimension) (device cells : ℕ) : Type 0 where
  pub value : cells ≡ sum (map (λ i. part_cells g i ds) (range_with_len 0 device))
  pub few : cells ≤ device * max_cells

pub are_held_on : (g : List ℕ) (ds : List Dimension) (device cells own : ℕ) → AreHeldSoFar g ds device cells → own ≡ part_cells g device ds → own ≤ max_cells →
    AreHeldSoFar g ds (device + 1) (cells + own)
are_held_on g ds device cells own h is small =
    let grown = sum_by-map-range_with_len_more (λ n. n) (λ i. part_cells g i ds) 0 device device (omega arith) in
    record { value = omega (arith, grown, h.value, is); few = omega (arith, h.few, small) }

pub all_held : (g : List ℕ) (ds : List Dimension) (device cells : ℕ) → AreHeldSoFar g ds device cells → device ≡ cell_count g → cells ≡ held g ds
unfolding held
all_held g ds device cells h e = subst (λ n. cells ≡ sum (map (λ i. part_cells g i ds) (range_with_len 0 n))) e h.value

-- ---- parts of one size

same_cells : (g : List ℕ) (device : ℕ) (ds : List Dimension) → ((i : ℕ) → i < length ds → size_in g device (at ds i) ≡ size_in g 0 (at ds i)) →
    part_cells g device ds ≡ part_cells g 0 ds
same_cells g device [] h = refl
same_cells g device (d ∷ ds) h =
    let rest = same_cells g device ds (λ i within. h (suc i) (omega (arith, within))) in
    rw (h 0 (omega arith), rest) refl

-- whether all dimensions are even or not split
abbrev pub AreRegular : ShardingValue → Type 0
AreRegular s = (dim : ℕ) → dim < length s.dimensions → is_even_or_unsplit s.grid.extents (at s.dimensions dim) ≡ true

not_even : (b : Bool) → (false || not b) ≡ true → b ≡ false
not_even true h = absurd (cc)
not_even false h = refl

same_size : (s : ShardingValue) (device i : ℕ) → IsSharding s → AreRegular s → device < cell_count s.grid.extents → 0 < cell_count s.grid.extents → i < length s.dimensions →
    size_in s.grid.extents device (at s.dimensions i) ≡ size_in s.grid.extents 0 (at s.dimensions i)
same_size s device i admitted regular here some within = elim (cases_Bool (is_even s.grid.extents (at s.dimensions i))) [
  | inl even ↦
      let e = even_is s.grid.extents (at s.dimensions i) even in
      let axes : AreAxesOf (length s.grid.extents) (at s.dimensions i).axes =
      all_at (λ d. AreAxesOf (length s.grid.extents) d.axes) s.dimensions i (axes_of-each (length s.grid.extents) s.dimensions admitted.axes) within in
      let own = even_part s.grid.extents (at s.dimensions i) device admitted.grid (record { axes = axes; balanced = e.balanced; divided = e.divided }) here in
      let first = even_part s.grid.extents (at s.dimensions i) 0 admitted.grid (record { axes = axes; balanced = e.balanced; divided = e.divided }) some in
      own.size ∙ sym first.size
  | inr odd ↦
      let all = regular i within in
      let none : is_split (at s.dimensions i) ≡ false = not_even (is_split (at s.dimensions i)) (rw odd at all) in
      let whole : at s.dimensions i ≡ unsplit (at s.dimensions i).extent =
      (all_at (IsDimension s.grid.extents) s.dimensions i admitted.dimensions within).unsplit (none_split (at s.dimensions i).axes none) in
      let own = (whole_part s.grid.extents (at s.dimensions i).extent device).1 in
      let first = (whole_part s.grid.extents (at s.dimensions i).extent 0).1 in
      ap (λ (d : Dimension). size_in s.grid.extents device d) whole ∙ own ∙ sym first ∙ ap (λ (d : Dimension). size_in s.grid.extents 0 d) (sym whole)
]

pub held_alike : (s : ShardingValue) (first : ℕ) → IsSharding s → AreRegular s → 0 < cell_count s.grid.extents → first ≡ part_cells s.grid.extents 0 s.dimensions →
    cell_count s.grid.extents * first ≡ held_by s
unfolding held
held_alike s first admitted regular some is =
    let all = sums_same (part_cells s.grid.extents 0 s.dimensions) (λ device. part_cells s.grid.extents device s.dimensions) 0 (cell_count s.grid.extents)
    (λ device below. same_cells s.grid.extents device s.dimensions (λ i within. same_size s device i admitted regular (omega (arith, below)) some within)) in
    rw is (sym all)

-- ---- bounds

pub held_small : (s : ShardingValue) → IsSharding s → held_by s ≤ max_devices * max_cells
unfolding held
held_small s admitted =
    let sums = sums_few max_cells (λ device. part_cells s.grid.extents device s.dimensions) 0 (cell_count s.grid.extents)
    (λ device below. held_few s device (length s.dimensions) (part_cells s.grid.extents device s.dimensions) admitted (omega (arith, below))
    (record { value = rw (take_all (length s.dimensions) s.dimensions (omega arith)) refl })) in
    let devices = admitted.grid.small in
    omega (arith, sums, devices)

-- so many times, and once less
pub once_less : (k n : ℕ) → 1 ≤ k → k * n ≡ (k - 1) * n + n
once_less zero n h = absurd (omega arith)
once_less (suc k) n h =
    let less : suc k - 1 ≡ k = omega arith in
    rw less (omega arith)
