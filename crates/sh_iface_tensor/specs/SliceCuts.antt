-- A slice of the local tensors is the cut of the slice.
use Rattle.std.proofs.Common.{ap₂, ◌≡◌, ℕ, ◌<◌, inl, inr, Bool, true, List, [], ◌∷◌, map, Some, None, refl, ap, sym, ◌∙◌, subst}
use Rattle.std.proofs.lemmas.Option.{same_Some}
use Rattle.std.proofs.lemmas.Slice.Eq.{bytes_eq-Decides}
use Rattle.std.specs.Cmp.Lexicographic.{pointwise}
use Rattle.std.specs.List.{AllByRecursion}
use Rattle.std.specs.Prelude.{if◌then◌else◌, nat_eq}
use Rattle.sh_base.specs.Cells.{IsCellOf}
use Rattle.sh_base.specs.declared.numbers.Width.{Width}
use Rattle.sh_base.specs.declared.places.Place.{Place}
use Rattle.sh_base.specs.Shape.{IsIndexOf, cell_count}
use Rattle.sh_ir.specs.declared.tensor_ops.ExtractSlice as declared_extract_slice
use Rattle.sh_ir.specs.Typing.{typing_of}
use Rattle.sh_sem.specs.Given.{Seat, alone, given, giving, gives_slice, have_all_extents}
use Rattle.sh_sem.specs.Slices.{Range, extracted_cell, extracted_shape, ranges_of, sliced_index}
use Rattle.sh_sem.specs.Types.{have_extents}
use Rattle.sh_grid.specs.Grid.{GridValue}
use Rattle.sh_sharding.specs.declared.shardings.Dimension.{Dimension}
use Rattle.sh_sharding.specs.Cut.{cut_of, whole_index}
use Rattle.sh_sharding.specs.LocalTypes.{local_dims}
use Rattle.sh_sharding.specs.Sharding.{HasNoHalos, IsSharding, ShardingValue, local_shape, whole_of}
use Rattle.sh_sharding.specs.Splits.{IsOfSplit, TensorSplit}
use Rattle.sh_sharding.proofs.CutLaws.{at-cut_of, cut_cell-no_halos, cut_of-build, shape-cut_of}
use Rattle.sh_tensor.specs.Tensor.{TensorValue, at, build}
use Rattle.sh_tensor.proofs.TensorLaws.{IsTensor-build, build-ext}
use Rattle.sh_iface.specs.Elements.{known_dims, tensor_of}
use Rattle.sh_iface.proofs.ElementCut.{local_extents}
use Rattle.sh_iface_tensor.specs.CutDims.{IsCutDim, are_cut}
use Rattle.sh_iface_tensor.specs.GivenLaws.{given_is, is_given}
use Rattle.sh_iface_tensor.specs.declared.slices.SliceKind.{SliceKind}
use Rattle.sh_iface_tensor.specs.declared.slices.SliceKind.TheVariants.{Extract}
use Rattle.sh_iface_tensor.specs.Slices.{IsRange, Sliced, extents_of, largest_sizes, local_op, sizes_of, slice_by, whole_op}
use Rattle.sh_iface_tensor.specs.LocalRanges.{IsLocalRange, IsPair, Pair, local_range, local_range_of}
use Rattle.sh_iface_tensor.specs.RangeLists.{index_alike, index_below, local_index_below, local_ranges, local_sizes, local_within, ranges_in, ranges_within, slice_of, sliced_of, whole_ranges}

abbrev pub sharded : GridValue → List Dimension → ShardingValue
sharded g ds = record { grid = g; dimensions = ds }

-- the whole tensors have the ranges' extents and sizes
pub whole_sliced : (g : GridValue) (ps : List Pair) → AllByRecursion IsPair ps → whole_of (sharded g (sliced_of ps)) ≡ extents_of (ranges_in ps)
whole_sliced g [] all = refl
whole_sliced g (p ∷ ps) all = ap₂ ◌∷◌ (extent_of_pair p all.0) (whole_sliced g ps all.1)
  where
    extent_of_pair : (p : Pair) → IsPair p → p.sliced.extent ≡ p.range.extent
    extent_of_pair p (inl e) = ap (λ (d : Dimension). d.extent) e.0
    extent_of_pair p (inr e) = ap (λ (d : Dimension). d.extent) e.0 ∙ sym (ap (λ (r : Range). r.extent) e.1)

pub whole_slice : (g : GridValue) (ps : List Pair) → AllByRecursion IsPair ps → whole_of (sharded g (slice_of ps)) ≡ sizes_of (ranges_in ps)
whole_slice g [] all = refl
whole_slice g (p ∷ ps) all = ap₂ ◌∷◌ (size_of_pair p all.0) (whole_slice g ps all.1)
  where
    size_of_pair : (p : Pair) → IsPair p → p.slice.extent ≡ p.range.size
    size_of_pair p (inl e) = ap (λ (d : Dimension). d.extent) e.1
    size_of_pair p (inr e) = sym (ap (λ (r : Range). r.size) e.1)

pub same_shape : (s : List ℕ) → pointwise nat_eq s s ≡ true
same_shape s = (bytes_eq-Decides s s).1 refl

module _ (g : GridValue) (ps : List Pair) (w : Width) (place : Place) (is : AllByRecursion IsPair ps) (ranges : AllByRecursion IsRange (ranges_in ps))
    (big : IsSharding (sharded g (sliced_of ps))) (small : IsSharding (sharded g (slice_of ps)))
    (plain_big : HasNoHalos (sliced_of ps)) (plain_small : HasNoHalos (slice_of ps)) where
  abbrev pub sb : ShardingValue
  sb = sharded g (sliced_of ps)

  abbrev pub ss : ShardingValue
  ss = sharded g (slice_of ps)

  abbrev pub by : SliceKind → Sliced
  by what = record { what = what; ranges = ranges_in ps; width = w; place = place }

  abbrev pub split : ShardingValue → TensorSplit
  split s = record { sharding = s; width = w }

  module _ (c : ℕ) (l : c < cell_count g.extents) where
    locals : (qs : List Pair) → AllByRecursion IsPair qs → AllByRecursion IsRange (ranges_in qs) → AllByRecursion (λ d. IsCutDim g.extents c d) (slice_of qs) → AllByRecursion (IsLocalRange g.extents c) qs
    locals [] a b d = tt
    locals (q ∷ qs) a b d = (local_range_of g.extents c q a.0 b.0 d.0, locals qs a.1 b.1 d.1)

    pub each : AllByRecursion (IsLocalRange g.extents c) ps
    each = locals ps is ranges (are_cut ss c small plain_small l)

    -- the cell of a cut
    pub of_cut : (s : ShardingValue) → IsSharding s → HasNoHalos s.dimensions → c < cell_count s.grid.extents → (t : TensorValue) (j : List ℕ) → IsIndexOf (local_shape s c) j
        → at (cut_of s t c) j ≡ at t (whole_index s.grid.extents c s.dimensions j)
    of_cut s ok none l t j h = at-cut_of s t c j h ∙ cut_cell-no_halos s t c j ok none l h

  -- ---- Extract

  abbrev read : declared_extract_slice.ExtractSlice
  read = record { slice = slice_by (ranges_in ps) (sizes_of (ranges_in ps)); source_type = tensor_of (known_dims (extents_of (ranges_in ps))) w }

  -- the whole slice
  extracted : (x t : TensorValue) → IsOfSplit (split sb) x → given (whole_op (by Extract)) alone (x ∷ []) ≡ Some t → t ≡ build (whole_of ss) w (extracted_cell (ranges_in ps) x)
  unfolding giving gives_slice
  extracted x t fit e =
      let parts = given_is (whole_op (by Extract)) alone (gives_slice read) (x ∷ []) t refl e in
      let shape : x.shape ≡ extents_of (ranges_in ps) = fit.shape ∙ whole_sliced g ps is in
      let same : ranges_of read.slice (known_dims (extents_of (ranges_in ps))) x.shape ≡ ranges_in ps = ap (ranges_of read.slice (known_dims (extents_of (ranges_in ps)))) shape ∙ whole_ranges (ranges_in ps) in
      let found : extracted_shape (ranges_of read.slice (known_dims (extents_of (ranges_in ps))) x.shape) ≡ Some (whole_of ss) =
      ap extracted_shape same ∙ ap (λ (b : Bool). if b then Some (sizes_of (ranges_in ps)) else None) (ranges_within (ranges_in ps) ranges) ∙ ap (λ (s : List ℕ). Some s) (sym (whole_slice g ps is)) in
      let here : parts.shape ≡ whole_of ss = same_Some parts.shape (whole_of ss) (sym parts.shaped ∙ found) in
      parts.built.is
      ∙ ap (λ s. build s w (extracted_cell (ranges_of read.slice (known_dims (extents_of (ranges_in ps))) x.shape) x)) here
      ∙ ap (λ rs. build (whole_of ss) w (extracted_cell rs x)) same

  pub extracted_fits : (x t : TensorValue) → IsOfSplit (split sb) x → given (whole_op (by Extract)) alone (x ∷ []) ≡ Some t → IsOfSplit (split ss) t
  extracted_fits x t fit e =
      let shape : x.shape ≡ extents_of (ranges_in ps) = fit.shape ∙ whole_sliced g ps is in
      let cell : (i : List ℕ) → IsIndexOf (whole_of ss) i → IsCellOf w (extracted_cell (ranges_in ps) x i) = λ i h.
      subst (λ v. IsCellOf v (at x (sliced_index (ranges_in ps) i))) fit.width
      (fit.tensor.fitting (sliced_index (ranges_in ps) i) (subst (λ s. IsIndexOf s (sliced_index (ranges_in ps) i)) (sym shape)
      (index_below (ranges_in ps) i ranges (subst (λ s. IsIndexOf s i) (whole_slice g ps is) h)))) in
      subst (IsOfSplit (split ss)) (sym (extracted x t fit e)) (record {
        tensor = IsTensor-build (whole_of ss) w (extracted_cell (ranges_in ps) x) cell;
        shape = refl;
        width = refl;
      })

  abbrev read_locally : declared_extract_slice.ExtractSlice
  read_locally = record { slice = slice_by (ranges_in ps) (largest_sizes ss); source_type = tensor_of (local_dims sb) w }

  pub extracted_cut : (x t : TensorValue) (c : ℕ) (seat : Seat) → IsOfSplit (split sb) x → given (whole_op (by Extract)) alone (x ∷ []) ≡ Some t → c < cell_count g.extents
      → given (local_op (by Extract) sb ss) seat (cut_of sb x c ∷ []) ≡ Some (cut_of ss t c)
  unfolding giving gives_slice typing_of
  extracted_cut x t c seat fit e l =
      let op = local_op (by Extract) sb ss in
      let ks : List Range = map (local_range g.extents c) ps in
      let found = ranges_of read_locally.slice (local_dims sb) (cut_of sb x c).shape in
      let same : found ≡ ks = ap (ranges_of read_locally.slice (local_dims sb)) (shape-cut_of sb x c) ∙ local_ranges g.extents c ps in
      let known : have_all_extents (tensor_of (local_dims sb) w ∷ []) ((cut_of sb x c).shape ∷ []) ≡ true =
      let k : have_extents (local_dims sb) (cut_of sb x c).shape ≡ true = ap (have_extents (local_dims sb)) (shape-cut_of sb x c) ∙ local_extents sb c big l in rw k refl in
      let shaped : extracted_shape found ≡ Some (local_shape ss c) =
      ap extracted_shape same ∙ ap (λ (b : Bool). if b then Some (sizes_of ks) else None) (local_within g.extents c ps (each c l)) ∙ ap (λ (s : List ℕ). Some s) (local_sizes g.extents c ps (each c l)) in
      let cells : build (local_shape ss c) w (extracted_cell found (cut_of sb x c)) ≡ build (local_shape ss c) w (λ j. extracted_cell (ranges_in ps) x (whole_index g.extents c (slice_of ps) j)) =
      ap (λ rs. build (local_shape ss c) w (extracted_cell rs (cut_of sb x c))) same
      ∙ build-ext (local_shape ss c) w (extracted_cell ks (cut_of sb x c)) (λ j. extracted_cell (ranges_in ps) x (whole_index g.extents c (slice_of ps) j))
      (λ j h.
      of_cut c l sb big plain_big l x (sliced_index ks j) (local_index_below g.extents c ps j (each c l) h)
      ∙ ap (at x) (index_alike g.extents c ps j (each c l) h)) in
      is_given op seat (gives_slice read_locally) (cut_of sb x c ∷ []) (local_shape ss c) refl known shaped (local_extents ss c small l) (λ i h. refl)
      ∙ ap (λ u. Some u) (cells ∙ sym (cut_of-build ss w (extracted_cell (ranges_in ps) x) c small plain_small l) ∙ ap (λ u. cut_of ss u c) (sym (extracted x t fit e)))
