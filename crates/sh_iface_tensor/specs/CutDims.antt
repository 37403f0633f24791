-- SliceKind is known of a dimension without a halo on each device.
use Rattle.std.proofs.Common.{◌≡◌, ℕ, zero, suc, ◌+◌, ◌<◌, ◌≤◌, true, List, [], ◌∷◌, map, length, refl, ap, sym, ◌∙◌, arith, subst}
use Rattle.std.proofs.lemmas.Bool.Decides.{nat_tests}
use Rattle.std.specs.List.{AllByRecursion}
use Rattle.std.specs.Prelude.{nat_eq}
use Rattle.sh_base.specs.Shape.{cell_count}
use Rattle.sh_ir.specs.declared.types.Dim.{Dim}
use Rattle.sh_ir.specs.declared.types.Dim.TheVariants.{Known, Differs}
use Rattle.sh_grid.specs.Grid.{group_size_of, on_axes, place_in}
use Rattle.sh_sharding.specs.declared.shardings.Dimension.{Dimension}
use Rattle.sh_sharding.specs.LocalTypes.{IsLocalDim, local_dim, part_sizes}
use Rattle.sh_sharding.specs.Sharding.{HasNoHalos, IsDimension, IsDivided, IsSharding, ShardingValue, largest_local, largest_to, local_extent, offset_at, offset_of, part_of, part_size, parts_of, size_in, size_of_part, start_in, unsplit}
use Rattle.sh_sharding.proofs.LocalSizeLaws.{largest_device}
use Rattle.sh_sharding.proofs.LocalTypeLaws.{are_local_dims}
use Rattle.sh_sharding.proofs.PartLaws.{IsPlaced, axes_of-each, part-ends, placed}

-- ---- a dimension that isn't split

pub unsplit_extent : (g : List ℕ) (c n : ℕ) → local_extent g c (unsplit n) ≡ n
unfolding local_extent size_in part_size size_of_part offset_at offset_of part_of parts_of place_in group_size_of on_axes
unsplit_extent g c n = omega arith

pub unsplit_start : (g : List ℕ) (c n : ℕ) → start_in g c (unsplit n) ≡ 0
unfolding start_in offset_at offset_of part_of parts_of place_in group_size_of on_axes
unsplit_start g c n = omega arith

pub unsplit_largest : (g : List ℕ) (n : ℕ) → largest_local g (unsplit n) ≡ n
unfolding part_size size_of_part offset_at offset_of part_of parts_of place_in group_size_of on_axes
unsplit_largest g n = omega arith

first_size : (g : List ℕ) (n : ℕ) → part_size g (unsplit n) 0 ≡ n
unfolding part_size size_of_part offset_of parts_of group_size_of on_axes
first_size g n = omega arith

unsplit_test : (m : ℕ) → nat_eq m m ≡ true
unsplit_test m = grind (arith, nat_tests)

pub unsplit_dim : (g : List ℕ) (n : ℕ) → local_dim g (unsplit n) ≡ Known n
unfolding local_dim part_sizes parts_of group_size_of on_axes
unsplit_dim g n =
    let same = unsplit_test (part_size g (unsplit n) 0) in
    let size : 0 + part_size g (unsplit n) 0 + 0 ≡ n = let e = first_size g n in omega (arith, e) in
    rw same (ap (λ m. Known m) size)

-- ---- each dimension

pub record IsCutDim (g : List ℕ) (c : ℕ) (d : Dimension) : Type 0 where
  pub low : d.low ≡ 0
  pub fits : start_in g c d + local_extent g c d ≤ d.extent
  pub known : (n : ℕ) → local_dim g d ≡ Known n → (local_extent g c d ≡ n) × (largest_local g d ≡ n)
  pub some : 0 < d.extent → 0 < largest_local g d

-- where the largest part has no cell, none has
none_so_far : (g : List ℕ) (d : Dimension) (k : ℕ) → IsDivided d.extent (parts_of g d) d.mark → k ≤ parts_of g d → largest_to (part_size g d) k ≡ 0 → offset_at g d k ≡ 0
unfolding offset_at
none_so_far g d zero h le none = h.begins
none_so_far g d (suc k) h le none =
    let before : largest_to (part_size g d) k ≡ 0 = omega (arith, none) in
    let here : part_size g d k ≡ 0 = omega (arith, none) in
    let next : k + 1 ≡ suc k = omega arith in
    let start : offset_of d.extent (parts_of g d) d.mark k ≡ 0 = none_so_far g d k h (omega (arith, le)) before in
    let ends : offset_of d.extent (parts_of g d) d.mark k + part_size g d k ≡ offset_of d.extent (parts_of g d) d.mark (k + 1) = (part-ends g d k h (omega (arith, le))).0 in
    subst (λ z. offset_of d.extent (parts_of g d) d.mark z ≡ 0) next (omega (arith, here, start, ends))

some_largest : (g : List ℕ) (d : Dimension) → IsDivided d.extent (parts_of g d) d.mark → 0 < d.extent → 0 < largest_local g d
unfolding offset_at
some_largest g d h some = go (largest_to (part_size g d) (parts_of g d)) refl
  where
    go : (m : ℕ) → largest_to (part_size g d) (parts_of g d) ≡ m → 0 < largest_local g d
    go zero e = absurd (let none : offset_of d.extent (parts_of g d) d.mark (parts_of g d) ≡ 0 = none_so_far g d (parts_of g d) h (omega arith) e in let ends = h.ends in omega (arith, none, ends, some))
    go (suc m) e = omega (arith, e)

same_known : (m n : ℕ) → Known m ≡ Known n → m ≡ n
same_known m n e = cc

known_is : (g : List ℕ) (device n : ℕ) (d : Dimension) (x : Dim) → IsLocalDim g d x → device < cell_count g → x ≡ Known n → local_extent g device d ≡ n
known_is g device n d (Known m) is l e = is device l ∙ same_known m n e
known_is g device n d Differs is l e = absurd (cc)

module _ (g : List ℕ) (c e : ℕ) (l : c < cell_count g) (there : e < cell_count g) where
  cut_dim : (d : Dimension) → (d.low ≡ 0) × (d.high ≡ 0) → IsPlaced g c d → IsDimension g d → IsLocalDim g d (local_dim g d) → local_extent g e d ≡ largest_local g d → IsCutDim g c d
  unfolding local_extent
  cut_dim d none is ok local most = record {
    low = none.0;
    fits = let fits = is.fits in let low = none.0 in let high = none.1 in omega (arith, fits, low, high);
    known = λ n k. (known_is g c n d (local_dim g d) local l k, sym most ∙ known_is g e n d (local_dim g d) local there k);
    some = some_largest g d ok.divided;
  }

  cut_dims : (ds : List Dimension) → HasNoHalos ds → AllByRecursion (IsPlaced g c) ds → AllByRecursion (IsDimension g) ds → AllByRecursion (λ d. IsLocalDim g d (local_dim g d)) ds → map (local_extent g e) ds ≡ map (largest_local g) ds
      → AllByRecursion (IsCutDim g c) ds
  cut_dims [] none is ok local most = tt
  cut_dims (d ∷ ds) none is ok local most = (
    cut_dim d none.0 is.0 ok.0 local.0 (head_same (local_extent g e d) (largest_local g d) (map (local_extent g e) ds) (map (largest_local g) ds) most),
    cut_dims ds none.1 is.1 ok.1 local.1 (tail_same (local_extent g e d) (largest_local g d) (map (local_extent g e) ds) (map (largest_local g) ds) most),
  )
    where
      head_same : (a b : ℕ) (ms ns : List ℕ) → a ∷ ms ≡ b ∷ ns → a ≡ b
      head_same a b ms ns e = cc

      tail_same : (a b : ℕ) (ms ns : List ℕ) → a ∷ ms ≡ b ∷ ns → ms ≡ ns
      tail_same a b ms ns e = cc

-- of all dimensions of an admitted sharding without halos
pub are_cut : (s : ShardingValue) (c : ℕ) → IsSharding s → HasNoHalos s.dimensions → c < cell_count s.grid.extents → AllByRecursion (IsCutDim s.grid.extents c) s.dimensions
are_cut s c ok none l =
    let g = s.grid.extents in
    let each = axes_of-each (length g) s.dimensions ok.axes in
    let most = largest_device g s.dimensions ok.grid each ok.axes in
    cut_dims g c most.device l most.below s.dimensions none (placed s c ok l) ok.dimensions (are_local_dims g s.dimensions ok.grid each) most.extents
