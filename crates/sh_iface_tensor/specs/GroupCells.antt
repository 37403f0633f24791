-- A reshape of local tensors that are split along the first dimensions of groups reads the cells of
-- the reshaped whole.
use Rattle.std.proofs.Common.{ap₂, ◌≡◌, ℕ, ◌<◌, List, get_or, ap, sym, ◌∙◌, subst}
use Rattle.std.specs.List.{AllByRecursion}
use Rattle.sh_base.specs.Shape.{IsIndexOf, cell_count, flat_of, unflat_of}
use Rattle.sh_base.specs.declared.numbers.Cell.TheVariants.{Undef}
use Rattle.sh_base.proofs.ShapeLaws.{flat_of-below, flat_of-unflat_of, unflat_of-flat_of, unflat_of-within}
use Rattle.sh_grid.specs.Grid.{GridValue}
use Rattle.sh_sem.specs.Reshapes.{reshaped_cell}
use Rattle.sh_sharding.specs.Cut.{cut_of, whole_index}
use Rattle.sh_sharding.specs.Sharding.{HasNoHalos, IsSharding, ShardingValue, local_shape, whole_of}
use Rattle.sh_sharding.proofs.CutLaws.{at-cut_of, cut_cell-no_halos, shape-cut_of}
use Rattle.sh_tensor.specs.Tensor.{TensorValue, at}
use Rattle.sh_iface_tensor.specs.GroupCuts.{GroupDims, IsGroupAt, few_dims, few_index, few_local_is, few_whole_is, many_dims, many_index, many_local_is, many_whole_is, parts_at}
use Rattle.sh_iface_tensor.specs.GroupIndices.{GroupPart, cells_alike, few_local, local_number, many_local, parted, parted_below, whole_number}
use Rattle.sh_iface_tensor.specs.SliceCuts.{sharded}

-- the cell of a cut by its number
numbered : (s : ShardingValue) (t : TensorValue) (c : ℕ) (j : List ℕ) → IsSharding s → HasNoHalos s.dimensions → c < cell_count s.grid.extents → t.shape ≡ whole_of s → IsIndexOf (local_shape s c) j
    → get_or (cut_of s t c).cells (flat_of (local_shape s c) j) Undef ≡ get_or t.cells (flat_of (whole_of s) (whole_index s.grid.extents c s.dimensions j)) Undef
unfolding at
numbered s t c j ok none l shape h =
    ap (λ (n : List ℕ). get_or (cut_of s t c).cells (flat_of n j) Undef) (sym (shape-cut_of s t c))
    ∙ at-cut_of s t c j h
    ∙ cut_cell-no_halos s t c j ok none l h
    ∙ ap (λ (n : List ℕ). get_or t.cells (flat_of n (whole_index s.grid.extents c s.dimensions j)) Undef) shape

module _ (g : GridValue) (ds : List GroupDims) (c : ℕ) (l : c < cell_count g.extents) (all : AllByRecursion (IsGroupAt g.extents c) ds) where
  abbrev pub many : ShardingValue
  many = sharded g (many_dims ds)

  abbrev pub few : ShardingValue
  few = sharded g (few_dims ds)

  abbrev ps : List GroupPart
  ps = parts_at g.extents c ds

  many_shape : local_shape many c ≡ many_local ps
  many_shape = many_local_is g.extents c ds

  few_shape : local_shape few c ≡ few_local ps
  few_shape = few_local_is g.extents c ds all

  -- both indices have one number among the local cells, and one among those of the whole
  same_local : (i : List ℕ) → IsIndexOf (few_local ps) i → flat_of (local_shape few c) i ≡ flat_of (local_shape many c) (parted ps i)
  same_local i h = ap (λ s. flat_of s i) few_shape ∙ sym (local_number ps i h) ∙ ap (λ s. flat_of s (parted ps i)) (sym many_shape)

  same_whole : (i : List ℕ) → IsIndexOf (few_local ps) i → flat_of (whole_of many) (whole_index g.extents c (many_dims ds) (parted ps i)) ≡ flat_of (whole_of few) (whole_index g.extents c (few_dims ds) i)
  same_whole i h =
      ap₂ flat_of (many_whole_is g.extents c ds) (many_index g.extents c ds i all)
      ∙ whole_number ps i h
      ∙ ap₂ flat_of (sym (few_whole_is g.extents c ds all)) (sym (few_index g.extents c ds i all))

  pub collapsed_cell : (t : TensorValue) (i : List ℕ) → IsSharding many → HasNoHalos (many_dims ds) → t.shape ≡ whole_of many → IsIndexOf (local_shape few c) i
      → reshaped_cell (cut_of many t c) (local_shape few c) i ≡ reshaped_cell t (whole_of few) (whole_index g.extents c (few_dims ds) i)
  collapsed_cell t i ok none shape h =
      let here : IsIndexOf (few_local ps) i = subst (λ s. IsIndexOf s i) few_shape h in
      let below : IsIndexOf (local_shape many c) (parted ps i) = subst (λ s. IsIndexOf s (parted ps i)) (sym many_shape) (parted_below ps i here) in
      ap (λ k. get_or (cut_of many t c).cells k Undef) (same_local i here)
      ∙ numbered many t c (parted ps i) ok none l shape below
      ∙ ap (λ k. get_or t.cells k Undef) (same_whole i here)

  -- the index under one dimension a group
  abbrev grouped : List ℕ → List ℕ
  grouped j = unflat_of (few_local ps) (flat_of (many_local ps) j)

  number_below : (j : List ℕ) → IsIndexOf (many_local ps) j → flat_of (many_local ps) j < cell_count (few_local ps)
  number_below j h = subst (λ n. flat_of (many_local ps) j < n) (cells_alike ps) (flat_of-below (many_local ps) j h)

  grouped_below : (j : List ℕ) → IsIndexOf (many_local ps) j → IsIndexOf (few_local ps) (grouped j)
  grouped_below j h = unflat_of-within (few_local ps) (flat_of (many_local ps) j) (number_below j h)

  parted_again : (j : List ℕ) → IsIndexOf (many_local ps) j → parted ps (grouped j) ≡ j
  parted_again j h =
      sym (unflat_of-flat_of (many_local ps) (parted ps (grouped j)) (parted_below ps (grouped j) (grouped_below j h)))
      ∙ ap (unflat_of (many_local ps)) (local_number ps (grouped j) (grouped_below j h) ∙ flat_of-unflat_of (few_local ps) (flat_of (many_local ps) j) (number_below j h))
      ∙ unflat_of-flat_of (many_local ps) j h

  pub expanded_cell : (t : TensorValue) (j : List ℕ) → IsSharding few → HasNoHalos (few_dims ds) → t.shape ≡ whole_of few → IsIndexOf (local_shape many c) j
      → reshaped_cell (cut_of few t c) (local_shape many c) j ≡ reshaped_cell t (whole_of many) (whole_index g.extents c (many_dims ds) j)
  expanded_cell t j ok none shape h =
      let here : IsIndexOf (many_local ps) j = subst (λ s. IsIndexOf s j) many_shape h in
      let i = grouped j in
      let inside = grouped_below j here in
      let again = parted_again j here in
      let below : IsIndexOf (local_shape few c) i = subst (λ s. IsIndexOf s i) (sym few_shape) inside in
      ap (λ k. get_or (cut_of few t c).cells k Undef) (ap (flat_of (local_shape many c)) (sym again) ∙ sym (same_local i inside))
      ∙ numbered few t c i ok none l shape below
      ∙ ap (λ k. get_or t.cells k Undef) (sym (same_whole i inside) ∙ ap (λ k. flat_of (whole_of many) (whole_index g.extents c (many_dims ds) k)) again)
