-- Groups of dimensions that are split along their first, as dimensions of shardings.
use Rattle.std.proofs.Common.{ap₂, ◌≡◌, ℕ, ◌+◌, ◌-◌, ◌*◌, ◌/◌, ◌%◌, List, [], ◌∷◌, ◌++◌, length, map, refl, ap, ◌∙◌, arith}
use Rattle.std.proofs.lemmas.List.{map-append}
use Rattle.std.specs.List.{AllByRecursion}
use Rattle.sh_base.specs.Shape.{cell_count, unflat_of}
use Rattle.sh_base.proofs.IndexLaws.{length-unflat_of}
use Rattle.sh_sharding.specs.declared.shardings.Dimension.{Dimension}
use Rattle.sh_sharding.specs.Cut.{whole_index}
use Rattle.sh_sharding.specs.Sharding.{local_extent, start_in, unsplit}
use Rattle.sh_iface_tensor.specs.CutDims.{unsplit_extent, unsplit_start}
use Rattle.sh_iface_tensor.specs.GroupIndices.{GroupPart, few_local, few_moved, few_whole, many_local, many_moved, many_whole, parted}

-- the first dimension of a group, the extents of the others, and the one that stands for the group
pub record GroupDims : Type 0 where
  pub first : Dimension
  pub others : List ℕ
  pub one : Dimension

abbrev pub many_dims : List GroupDims → List Dimension
many_dims [] = []
many_dims (d ∷ ds) = (d.first ∷ map unsplit d.others) ++ many_dims ds

abbrev pub few_dims : List GroupDims → List Dimension
few_dims [] = []
few_dims (d ∷ ds) = d.one ∷ few_dims ds

extents-unsplit : (ns : List ℕ) → map (λ (d : Dimension). d.extent) (map unsplit ns) ≡ ns
extents-unsplit [] = refl
extents-unsplit (n ∷ ns) = ap (λ ms. n ∷ ms) (extents-unsplit ns)

module _ (g : List ℕ) (c : ℕ) where
  abbrev pub part_at : GroupDims → GroupPart
  part_at d = record { whole = d.first.extent; start = start_in g c d.first; local = local_extent g c d.first; others = d.others }

  abbrev pub parts_at : List GroupDims → List GroupPart
  parts_at ds = map part_at ds

  -- all of the one is that of the first, times the cells of the others
  pub record IsGroupAt (d : GroupDims) : Type 0 where
    pub extent : d.one.extent ≡ d.first.extent * cell_count d.others
    pub start : start_in g c d.one ≡ start_in g c d.first * cell_count d.others
    pub local : local_extent g c d.one ≡ local_extent g c d.first * cell_count d.others
    pub first_low : d.first.low ≡ 0
    pub one_low : d.one.low ≡ 0

  locals-unsplit : (ns : List ℕ) → map (local_extent g c) (map unsplit ns) ≡ ns
  locals-unsplit [] = refl
  locals-unsplit (n ∷ ns) = ap₂ ◌∷◌ (unsplit_extent g c n) (locals-unsplit ns)

  pub many_local_is : (ds : List GroupDims) → map (local_extent g c) (many_dims ds) ≡ many_local (parts_at ds)
  many_local_is [] = refl
  many_local_is (d ∷ ds) =
      map-append (local_extent g c) (d.first ∷ map unsplit d.others) (many_dims ds)
      ∙ ap₂ (λ ms ns. (local_extent g c d.first ∷ ms) ++ ns) (locals-unsplit d.others) (many_local_is ds)

  pub many_whole_is : (ds : List GroupDims) → map (λ d. d.extent) (many_dims ds) ≡ many_whole (parts_at ds)
  many_whole_is [] = refl
  many_whole_is (d ∷ ds) =
      map-append (λ (d : Dimension). d.extent) (d.first ∷ map unsplit d.others) (many_dims ds)
      ∙ ap₂ (λ ms ns. (d.first.extent ∷ ms) ++ ns) (extents-unsplit d.others) (many_whole_is ds)

  pub few_local_is : (ds : List GroupDims) → AllByRecursion IsGroupAt ds → map (local_extent g c) (few_dims ds) ≡ few_local (parts_at ds)
  few_local_is [] all = refl
  few_local_is (d ∷ ds) all = ap₂ ◌∷◌ all.0.local (few_local_is ds all.1)

  pub few_whole_is : (ds : List GroupDims) → AllByRecursion IsGroupAt ds → map (λ d. d.extent) (few_dims ds) ≡ few_whole (parts_at ds)
  few_whole_is [] all = refl
  few_whole_is (d ∷ ds) all = ap₂ ◌∷◌ all.0.extent (few_whole_is ds all.1)

  -- ---- indices of the whole

  pub few_index : (ds : List GroupDims) (i : List ℕ) → AllByRecursion IsGroupAt ds → whole_index g c (few_dims ds) i ≡ few_moved (parts_at ds) i
  few_index [] i all = refl
  few_index (d ∷ ds) [] all = refl
  few_index (d ∷ ds) (x ∷ i) all =
      let start = all.0.start in
      let low = all.0.one_low in
      let here : start_in g c d.one + x - d.one.low ≡ start_in g c d.first * cell_count d.others + x = omega (arith, start, low) in
      ap₂ ◌∷◌ here (few_index ds i all.1)

  others_index : (ns is js : List ℕ) (ds : List Dimension) → length is ≡ length ns → whole_index g c (map unsplit ns ++ ds) (is ++ js) ≡ is ++ whole_index g c ds js
  others_index [] [] js ds e = refl
  others_index [] (i ∷ is) js ds e = absurd (omega (arith, e))
  others_index (n ∷ ns) [] js ds e = absurd (omega (arith, e))
  others_index (n ∷ ns) (i ∷ is) js ds e =
      let start = unsplit_start g c n in
      let here : start_in g c (unsplit n) + i - 0 ≡ i = omega (arith, start) in
      ap₂ ◌∷◌ here (others_index ns is js ds (omega (arith, e)))

  pub many_index : (ds : List GroupDims) (i : List ℕ) → AllByRecursion IsGroupAt ds → whole_index g c (many_dims ds) (parted (parts_at ds) i) ≡ many_moved (parts_at ds) i
  many_index [] i all = refl
  many_index (d ∷ ds) [] all = refl
  many_index (d ∷ ds) (x ∷ i) all =
      let low = all.0.first_low in
      let here : start_in g c d.first + x / cell_count d.others - d.first.low ≡ start_in g c d.first + x / cell_count d.others = omega (arith, low) in
      ap₂ ◌∷◌ here
      (others_index d.others (unflat_of d.others (x % cell_count d.others)) (parted (parts_at ds) i) (many_dims ds) (length-unflat_of d.others (x % cell_count d.others))
      ∙ ap (λ js. unflat_of d.others (x % cell_count d.others) ++ js) (many_index ds i all.1))
