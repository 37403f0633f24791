-- A slice that is inserted into local tensors gives the cut of the whole with the slice in it.
use Rattle.std.proofs.Common.{ap₂, ◌≡◌, ℕ, ◌<◌, Bool, true, List, [], ◌∷◌, map, Option, Some, None, refl, ap, sym, ◌∙◌, subst}
use Rattle.std.proofs.lemmas.Option.{same_Some}
use Rattle.std.specs.Cmp.Lexicographic.{pointwise}
use Rattle.std.specs.List.{AllByRecursion}
use Rattle.std.specs.Prelude.{◌&&◌, if◌then◌else◌, nat_eq, option_map}
use Rattle.sh_base.specs.Cells.{IsCellOf}
use Rattle.sh_base.specs.declared.numbers.Cell.{Cell}
use Rattle.sh_base.specs.declared.numbers.Width.{Width}
use Rattle.sh_base.specs.declared.places.Place.{Place}
use Rattle.sh_base.specs.Shape.{IsIndexOf, cell_count}
use Rattle.sh_ir.specs.declared.tensor_ops.InsertSlice as declared_insert_slice
use Rattle.sh_ir.specs.Typing.{typing_of}
use Rattle.sh_sem.specs.Given.{Seat, alone, given, giving, gives_insertion, have_all_extents}
use Rattle.sh_sem.specs.Slices.{Range, index_in, inserted_cell, inserted_shape, ranges_of}
use Rattle.sh_sem.specs.Types.{have_extents}
use Rattle.sh_grid.specs.Grid.{GridValue}
use Rattle.sh_sharding.specs.Cut.{cut_of, whole_index}
use Rattle.sh_sharding.specs.LocalTypes.{local_dims}
use Rattle.sh_sharding.specs.Sharding.{HasNoHalos, IsSharding, ShardingValue, local_extent, local_shape, whole_of}
use Rattle.sh_sharding.specs.Splits.{IsOfSplit, TensorSplit}
use Rattle.sh_sharding.proofs.CutLaws.{cut_of-build, shape-cut_of}
use Rattle.sh_tensor.specs.Tensor.{TensorValue, at, build}
use Rattle.sh_tensor.proofs.TensorLaws.{IsTensor-build, build-ext}
use Rattle.sh_iface.specs.Elements.{known_dims, tensor_of}
use Rattle.sh_iface.proofs.ElementCut.{local_extents}
use Rattle.sh_iface_tensor.specs.GivenLaws.{given_is, is_given}
use Rattle.sh_iface_tensor.specs.declared.slices.SliceKind.TheVariants.{Insert}
use Rattle.sh_iface_tensor.specs.Slices.{IsRange, Sliced, extents_of, largest_sizes, local_op, sizes_of, slice_by, whole_op}
use Rattle.sh_iface_tensor.specs.LocalRanges.{IsLocalRange, IsPair, Pair, local_range}
use Rattle.sh_iface_tensor.specs.RangeLists.{found_below, insertion_alike, local_ranges, local_sizes, local_within, ranges_in, ranges_within, slice_of, sliced_of, whole_ranges}
use Rattle.sh_iface_tensor.specs.SliceCuts.{each, of_cut, same_shape, sharded, whole_slice, whole_sliced}

-- the cell of the slice or of the tensor
abbrev chosen : TensorValue → TensorValue → List ℕ → Option (List ℕ) → Cell
chosen x y j o = elim o [ None ↦ at y j | Some i ↦ at x i ]

module _ (g : GridValue) (ps : List Pair) (w : Width) (place : Place) (is : AllByRecursion IsPair ps) (ranges : AllByRecursion IsRange (ranges_in ps))
    (big : IsSharding (sharded g (sliced_of ps))) (small : IsSharding (sharded g (slice_of ps)))
    (plain_big : HasNoHalos (sliced_of ps)) (plain_small : HasNoHalos (slice_of ps)) where
  abbrev sb : ShardingValue
  sb = sharded g (sliced_of ps)

  abbrev ss : ShardingValue
  ss = sharded g (slice_of ps)

  abbrev insertion : Sliced
  insertion = record { what = Insert; ranges = ranges_in ps; width = w; place = place }

  abbrev split : ShardingValue → TensorSplit
  split s = record { sharding = s; width = w }

  abbrev put : declared_insert_slice.InsertSlice
  put = record { slice = slice_by (ranges_in ps) (sizes_of (ranges_in ps)); source_type = tensor_of (known_dims (sizes_of (ranges_in ps))) w }

  abbrev put_locally : declared_insert_slice.InsertSlice
  put_locally = record { slice = slice_by (ranges_in ps) (largest_sizes ss); source_type = tensor_of (local_dims ss) w }

  -- the whole with the slice in it
  inserted : (x y t : TensorValue) → IsOfSplit (split ss) x → IsOfSplit (split sb) y → given (whole_op insertion) alone (x ∷ y ∷ []) ≡ Some t → t ≡ build (whole_of sb) w (inserted_cell (ranges_in ps) x y)
  unfolding giving gives_insertion
  inserted x y t fx fy e =
      let dims = known_dims (extents_of (ranges_in ps)) in
      let parts = given_is (whole_op insertion) alone (gives_insertion put dims) (x ∷ y ∷ []) t refl e in
      let shape : y.shape ≡ extents_of (ranges_in ps) = fy.shape ∙ whole_sliced g ps is in
      let source : x.shape ≡ sizes_of (ranges_in ps) = fx.shape ∙ whole_slice g ps is in
      let same : ranges_of put.slice dims y.shape ≡ ranges_in ps = ap (ranges_of put.slice dims) shape ∙ whole_ranges (ranges_in ps) in
      let found : inserted_shape (ranges_of put.slice dims y.shape) x.shape y.shape ≡ Some y.shape =
      ap₂ (λ rs s. inserted_shape rs s y.shape) same source
      ∙ ap₂ (λ (a b : Bool). if a && b then Some y.shape else None) (ranges_within (ranges_in ps) ranges) (same_shape (sizes_of (ranges_in ps))) in
      let here : parts.shape ≡ whole_of sb = same_Some parts.shape y.shape (sym parts.shaped ∙ found) ∙ fy.shape in
      parts.built.is
      ∙ ap (λ s. build s w (inserted_cell (ranges_of put.slice dims y.shape) x y)) here
      ∙ ap (λ rs. build (whole_of sb) w (inserted_cell rs x y)) same

  pub inserted_fits : (x y t : TensorValue) → IsOfSplit (split ss) x → IsOfSplit (split sb) y → given (whole_op insertion) alone (x ∷ y ∷ []) ≡ Some t → IsOfSplit (split sb) t
  inserted_fits x y t fx fy e =
      let shape : y.shape ≡ extents_of (ranges_in ps) = fy.shape ∙ whole_sliced g ps is in
      let source : x.shape ≡ sizes_of (ranges_in ps) = fx.shape ∙ whole_slice g ps is in
      let cell : (i : List ℕ) → IsIndexOf (whole_of sb) i → IsCellOf w (inserted_cell (ranges_in ps) x y i) = λ i h.
      by_choice i (subst (λ s. IsIndexOf s i) (whole_sliced g ps is) h) source shape (index_in (ranges_in ps) i) refl in
      subst (IsOfSplit (split sb)) (sym (inserted x y t fx fy e)) (record {
        tensor = IsTensor-build (whole_of sb) w (inserted_cell (ranges_in ps) x y) cell;
        shape = refl;
        width = refl;
      })
    where
      by_choice : (j : List ℕ) → IsIndexOf (extents_of (ranges_in ps)) j → x.shape ≡ sizes_of (ranges_in ps) → y.shape ≡ extents_of (ranges_in ps) → (o : Option (List ℕ)) → index_in (ranges_in ps) j ≡ o → IsCellOf w (chosen x y j o)
      by_choice j h source shape None k = subst (λ v. IsCellOf v (at y j)) fy.width (fy.tensor.fitting j (subst (λ s. IsIndexOf s j) (sym shape) h))
      by_choice j h source shape (Some i) k = subst (λ v. IsCellOf v (at x i)) fx.width (fx.tensor.fitting i (subst (λ s. IsIndexOf s i) (sym source) (found_below (ranges_in ps) j i h k)))

  module _ (c : ℕ) (l : c < cell_count g.extents) where
    abbrev ks : List Range
    ks = map (local_range g.extents c) ps

    cells_alike : (x y : TensorValue) (j : List ℕ) → IsIndexOf (local_shape sb c) j → (o : Option (List ℕ)) → index_in ks j ≡ o
        → chosen (cut_of ss x c) (cut_of sb y c) j o ≡ chosen x y (whole_index g.extents c (sliced_of ps) j) (option_map (whole_index g.extents c (slice_of ps)) o)
    cells_alike x y j h None k = of_cut g ps w place is ranges big small plain_big plain_small c l sb big plain_big l y j h
    cells_alike x y j h (Some i) k =
        let all = each g ps w place is ranges big small plain_big plain_small c l in
        let below : IsIndexOf (local_shape ss c) i = subst (λ s. IsIndexOf s i) (local_sizes g.extents c ps all) (found_below ks j i (subst (λ s. IsIndexOf s j) (sym (local_extents_are ps all)) h) k) in
        of_cut g ps w place is ranges big small plain_big plain_small c l ss small plain_small l x i below
      where
        local_extents_are : (qs : List Pair) → AllByRecursion (IsLocalRange g.extents c) qs → extents_of (map (local_range g.extents c) qs) ≡ map (local_extent g.extents c) (sliced_of qs)
        local_extents_are [] all = refl
        local_extents_are (q ∷ qs) all = ap₂ ◌∷◌ all.0.extent (local_extents_are qs all.1)

  pub inserted_cut : (x y t : TensorValue) (c : ℕ) (seat : Seat) → IsOfSplit (split ss) x → IsOfSplit (split sb) y → given (whole_op insertion) alone (x ∷ y ∷ []) ≡ Some t → c < cell_count g.extents
      → given (local_op insertion sb ss) seat (cut_of ss x c ∷ cut_of sb y c ∷ []) ≡ Some (cut_of sb t c)
  unfolding giving gives_insertion typing_of
  inserted_cut x y t c seat fx fy e l =
      let op = local_op insertion sb ss in
      let all = each g ps w place is ranges big small plain_big plain_small c l in
      let found = ranges_of put_locally.slice (local_dims sb) (cut_of sb y c).shape in
      let same : found ≡ ks c l = ap (ranges_of put_locally.slice (local_dims sb)) (shape-cut_of sb y c) ∙ local_ranges g.extents c ps in
      let known : have_all_extents (tensor_of (local_dims ss) w ∷ tensor_of (local_dims sb) w ∷ []) ((cut_of ss x c).shape ∷ (cut_of sb y c).shape ∷ []) ≡ true =
      let k : have_extents (local_dims ss) (cut_of ss x c).shape ≡ true = ap (have_extents (local_dims ss)) (shape-cut_of ss x c) ∙ local_extents ss c small l in
      let m : have_extents (local_dims sb) (cut_of sb y c).shape ≡ true = ap (have_extents (local_dims sb)) (shape-cut_of sb y c) ∙ local_extents sb c big l in rw (k, m) refl in
      let sizes : sizes_of (ks c l) ≡ (cut_of ss x c).shape = local_sizes g.extents c ps all ∙ sym (shape-cut_of ss x c) in
      let shaped : inserted_shape found (cut_of ss x c).shape (cut_of sb y c).shape ≡ Some (local_shape sb c) =
      ap (λ rs. inserted_shape rs (cut_of ss x c).shape (cut_of sb y c).shape) same
      ∙ ap₂ (λ (a b : Bool). if a && b then Some (cut_of sb y c).shape else None) (local_within g.extents c ps all) (ap (λ s. pointwise nat_eq s (cut_of ss x c).shape) sizes ∙ same_shape (cut_of ss x c).shape)
      ∙ ap (λ (s : List ℕ). Some s) (shape-cut_of sb y c) in
      let cells : build (local_shape sb c) w (inserted_cell found (cut_of ss x c) (cut_of sb y c)) ≡ build (local_shape sb c) w (λ j. inserted_cell (ranges_in ps) x y (whole_index g.extents c (sliced_of ps) j)) =
      ap (λ rs. build (local_shape sb c) w (inserted_cell rs (cut_of ss x c) (cut_of sb y c))) same
      ∙ build-ext (local_shape sb c) w (inserted_cell (ks c l) (cut_of ss x c) (cut_of sb y c)) (λ j. inserted_cell (ranges_in ps) x y (whole_index g.extents c (sliced_of ps) j))
      (λ j h.
      cells_alike c l x y j h (index_in (ks c l) j) refl
      ∙ ap (chosen x y (whole_index g.extents c (sliced_of ps) j)) (sym (insertion_alike g.extents c ps j all h))) in
      is_given op seat (gives_insertion put_locally (local_dims sb)) (cut_of ss x c ∷ cut_of sb y c ∷ []) (local_shape sb c) refl known shaped (local_extents sb c big l) (λ i h. refl)
      ∙ ap (λ u. Some u) (cells ∙ sym (cut_of-build sb w (inserted_cell (ranges_in ps) x y) c big plain_big l) ∙ ap (λ u. cut_of sb u c) (sym (inserted x y t fx fy e)))
