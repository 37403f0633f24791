-- Which extents of the local tensors are the same on all devices.
use Rattle.std.proofs.Common.{◌≡◌, ◌≢◌, ℕ, zero, suc, ◌+◌, ◌<◌, ◌≤◌, ◌⊎◌, inl, inr, List, [], ◌∷◌, length, get_or, map, Bool, true, false, refl, ap, ap₂, sym, ◌∙◌, arith, subst}
use Rattle.std.specs.Prelude.{nat_eq, ◌&&◌, if◌then◌else◌}
use Rattle.std.specs.List.{AllByRecursion, list_all, range_with_len}
use Rattle.std.proofs.lemmas.Bool.Decides.{nat_tests}
use Rattle.std.proofs.lemmas.List.FromFn.{get_or-map-range_with_len, length-map-range_with_len}
use Rattle.std.proofs.lemmas.List.Folds.{list_all_at}
use Rattle.sh_base.proofs.IndexLaws.{cell_count-some}
use Rattle.sh_grid.specs.Grid.{GridValue, IsGrid, AreAxesOf, group_size_of, member_of}
use Rattle.sh_grid.proofs.GroupLaws.{member_of-below, place_in-member_of}
use Rattle.sh_ir.specs.declared.types.Dim.TheVariants.{Known, Differs}
use Rattle.sh_sharding.specs.declared.shardings.Dimension.{Dimension}
use Rattle.sh_sharding.specs.Sharding.{parts_of, part_of, part_size, size_in, local_extent, IsDimension}
use Rattle.sh_sharding.specs.declared.views.MarkView.{MarkView}
use Rattle.sh_sharding.specs.Views.{mark_in, IsSeen}
use Rattle.sh_sharding.specs.LocalTypes.{IsCommonSize, HasOtherSize, part_sizes, local_dim, HasTwoExtents, IsLocalDim}
use Rattle.sh_sharding.proofs.PartLaws.{part_of-below}
use Rattle.sh_sharding.proofs.Cases.{below_next, same_or_not}

-- ---- the sizes of the parts

-- a part whose size isn't the first's
pub record IsOtherPart (g : List ℕ) (d : Dimension) (k : ℕ) : Type 0 where
  pub part : ℕ
  pub below : part < k
  pub other : part_size g d part ≢ part_size g d 0

other_part : (g : List ℕ) (d : Dimension) (k : ℕ) → ((i : ℕ) → i < k → part_size g d i ≡ part_size g d 0) ⊎ IsOtherPart g d k
other_part g d zero = inl (λ i l. absurd (omega arith))
other_part g d (suc k) = elim (other_part g d k) [
  | inr found ↦ let below = found.below in inr (record { part = found.part; below = omega arith; other = found.other })
  | inl same ↦ elim (same_or_not (part_size g d k) (part_size g d 0)) [
    | inl here ↦ inl (λ i l. elim (below_next i k l) [
      | inl less ↦ same i less
      | inr last ↦ subst (λ z. part_size g d z ≡ part_size g d 0) (sym last) here
    ])
    | inr other ↦ inr (record { part = k; below = omega arith; other = other })
  ]
]

all_same : (f : ℕ → ℕ) (n start k : ℕ) → ((i : ℕ) → start ≤ i → i < start + k → f i ≡ n) → list_all (λ m. nat_eq m n) (map f (range_with_len start k)) ≡ true
all_same f n start zero h = refl
all_same f n start (suc k) h =
    let first : f start ≡ n = h start (omega arith) (omega arith) in
    let test : nat_eq (f start) n ≡ true = grind (arith, nat_tests) in
    let rest : list_all (λ m. nat_eq m n) (map f (range_with_len (start + 1) k)) ≡ true = all_same f n (start + 1) k (λ i low high. h i (omega arith) (omega arith)) in
    ap₂ (λ (a b : Bool). a && b) test rest

-- ---- devices

device_with : (g : List ℕ) (d : Dimension) (part : ℕ) → IsGrid g → AreAxesOf (length g) d.axes → part < parts_of g d → part_of g d (member_of g d.axes 0 part) ≡ part
unfolding part_of parts_of
device_with g d part ok m l = place_in-member_of g d.axes 0 part (cell_count-some g ok.positive) l m

extent_with : (g : List ℕ) (d : Dimension) (device part : ℕ) → part_of g d device ≡ part → local_extent g device d ≡ d.low + part_size g d part + d.high
unfolding local_extent size_in
extent_with g d device part e = ap (λ z. d.low + part_size g d z + d.high) e

-- ---- the extent of the local tensors

one_size : (g : List ℕ) (d : Dimension) → ((i : ℕ) → i < parts_of g d → part_size g d i ≡ part_size g d 0) → local_dim g d ≡ Known (d.low + part_size g d 0 + d.high)
unfolding local_dim part_sizes
one_size g d same =
    let test = all_same (part_size g d) (part_size g d 0) 0 (parts_of g d) (λ i low high. same i (omega arith)) in
    ap (λ (b : Bool). if b then Known (d.low + part_size g d 0 + d.high) else Differs) test

two_sizes : (g : List ℕ) (d : Dimension) (part : ℕ) → part < parts_of g d → part_size g d part ≢ part_size g d 0 → local_dim g d ≡ Differs
unfolding local_dim part_sizes
two_sizes g d part l other =
    let sizes = map (part_size g d) (range_with_len 0 (parts_of g d)) in
    let here : get_or sizes part 0 ≡ part_size g d part = get_or-map-range_with_len (part_size g d) 0 (parts_of g d) part part 0 l (omega arith) in
    let apart : nat_eq (part_size g d part) (part_size g d 0) ≡ false = grind (arith, nat_tests) in
    let test : list_all (λ n. nat_eq n (part_size g d 0)) sizes ≡ false =
    list_all_at (λ n. nat_eq n (part_size g d 0)) sizes part 0 (rw (length-map-range_with_len (part_size g d) 0 (parts_of g d)) l) (rw here apart) in
    ap (λ (b : Bool). if b then Known (d.low + part_size g d 0 + d.high) else Differs) test

differ_at : (g : List ℕ) (d : Dimension) (part : ℕ) → IsGrid g → AreAxesOf (length g) d.axes → part < parts_of g d → part_size g d part ≢ part_size g d 0 → HasTwoExtents g d
unfolding parts_of
differ_at g d part ok m l other =
    let some = cell_count-some g ok.positive in
    let first : 0 < group_size_of g d.axes = omega arith in
    let a = member_of g d.axes 0 part in
    let b = member_of g d.axes 0 0 in
    let ea = extent_with g d a part (device_with g d part ok m l) in
    let eb = extent_with g d b 0 (device_with g d 0 ok m first) in
    record {
      first = a;
      second = b;
      there = member_of-below g d.axes 0 part some l;
      there_too = member_of-below g d.axes 0 0 some first;
      differ = λ e. other (omega arith);
    }

-- a number is the extent on each device, and `?` stands where two devices differ
pub is_local_dim : (g : List ℕ) (d : Dimension) → IsGrid g → AreAxesOf (length g) d.axes → IsLocalDim g d (local_dim g d)
is_local_dim g d ok m = elim (other_part g d (parts_of g d)) [
  | inl same ↦ subst (IsLocalDim g d) (sym (one_size g d same)) (λ device l.
      let below = part_of-below g d device l m in
      extent_with g d device (part_of g d device) refl ∙ ap (λ z. d.low + z + d.high) (same (part_of g d device) below))
  | inr found ↦ subst (IsLocalDim g d) (sym (two_sizes g d found.part found.below found.other)) (differ_at g d found.part ok m found.below found.other)
]

pub are_local_dims : (g : List ℕ) (ds : List Dimension) → IsGrid g → AllByRecursion (λ d. AreAxesOf (length g) d.axes) ds → AllByRecursion (λ d. IsLocalDim g d (local_dim g d)) ds
are_local_dims g [] ok m = tt
are_local_dims g (d ∷ ds) ok m = (is_local_dim g d ok m.0, are_local_dims g ds ok m.1)

-- ---- what the code reads of a dimension

pub record IsKnown (g : List ℕ) (d : Dimension) (size : ℕ) : Type 0 where
  pub value : Known (d.low + size + d.high) ≡ local_dim g d
  pub within : size ≤ d.extent
  pub low : d.low ≤ size
  pub high : d.high ≤ size

pub known_extent : (g : List ℕ) (d : Dimension) (p size : ℕ) (view : MarkView) → IsSeen g d p view → IsDimension g d → IsCommonSize d.extent p (mark_in d.extent p view) size → IsKnown g d size
known_extent g d p size view seen ok h =
    let some = seen.dividing.some in
    let parts = seen.parts in
    let first : size ≡ part_size g d 0 = h.first ∙ seen.size 0 in
    let low = ok.low 0 (omega arith) in
    let high = ok.high 0 (omega arith) in
    let all : (i : ℕ) → i < parts_of g d → part_size g d i ≡ part_size g d 0 = λ i l. sym (seen.size i) ∙ h.all i (subst (λ n. i < n) (sym parts) l) ∙ first in
    record {
      value = ap (λ n. Known (d.low + n + d.high)) first ∙ sym (one_size g d all);
      within = h.within;
      low = omega arith;
      high = omega arith;
    }

-- the same where the division is read through the grid that the sharding lends
pub known_through : (own lent : GridValue) (d : Dimension) (p size : ℕ) (view : MarkView) → lent ≡ own → IsSeen lent.extents d p view → IsDimension own.extents d → IsCommonSize d.extent p (mark_in d.extent p view) size
    → IsKnown own.extents d size
known_through own lent d p size view e seen ok h = known_extent own.extents d p size view (subst (λ (g : GridValue). IsSeen g.extents d p view) e seen) ok h

pub other_extent : (g : List ℕ) (d : Dimension) (p : ℕ) (view : MarkView) → IsSeen g d p view → HasOtherSize d.extent p (mark_in d.extent p view) → Differs ≡ local_dim g d
other_extent g d p view seen h =
    sym (two_sizes g d h.part (subst (λ n. h.part < n) seen.parts h.below) (λ e. h.other (seen.size h.part ∙ e ∙ sym (seen.size 0))))
