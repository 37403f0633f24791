-- Where one sharding divides a dimension further than another, along a list of axes: the cuts of a
-- group are pieces of the cut by the coarser one, one after the other.
use Rattle.std.proofs.Common.{ap₂, ◌≡◌, ◌≢◌, ℕ, zero, suc, ◌+◌, ◌-◌, ◌*◌, ◌<◌, ◌≤◌, List, [], ◌∷◌, ◌++◌, map, length, get_or, set, refl, sym, ap, ◌∙◌, subst, arith}
use Rattle.std.specs.List.{AllByRecursion}
use Rattle.std.proofs.lemmas.List.{length-map, set-get_or}
use Rattle.sh_base.specs.Shape.{cell_count, IsIndexOf}
use Rattle.sh_grid.specs.Grid.{AreApart, AreAxesOf, GridValue, IsNoneOf, group_size_of, member_of}
use Rattle.sh_grid.proofs.GroupLaws.{axes_join, member_of-agrees, member_of-below, places_stay}
use Rattle.sh_tensor.specs.Tensor.{TensorValue, at, build, slice_of}
use Rattle.sh_tensor.proofs.SliceLaws.{sliced_index}
use Rattle.sh_tensor.proofs.TensorLaws.{build-ext}
use Rattle.sh_sharding.specs.declared.shardings.Dimension.{Dimension}
use Rattle.sh_sharding.specs.Cut.{cut_cell, cut_of, whole_index}
use Rattle.sh_sharding.specs.Made.{IsState}
use Rattle.sh_sharding.specs.Sharding.{HasNoHalos, ShardingValue, axes_of, local_extent, local_shape, offset_at, part_of, part_size, size_in, start_in, unsplit}
use Rattle.sh_sharding.proofs.CutLaws.{at-cut_of, cut_cell-no_halos}

-- The part of each member of a device's group by the first dimension is a piece of the device's
-- part by the second: piece q of device c begins at `off c q` and ends where the next one begins.
pub record IsPieced (g L : List ℕ) (off : ℕ → ℕ → ℕ) (d e : Dimension) : Type 0 where
  pub begins : (c q : ℕ) → c < cell_count g → q < group_size_of g L → start_in g (member_of g L c q) d ≡ start_in g c e + off c q
  pub size : (c q : ℕ) → c < cell_count g → q < group_size_of g L → size_in g (member_of g L c q) d ≡ off c (q + 1) - off c q
  pub rises : (c q : ℕ) → c < cell_count g → q < group_size_of g L → off c q ≤ off c (q + 1)
  pub within : (c q : ℕ) → c < cell_count g → q < group_size_of g L → off c (q + 1) ≤ size_in g c e
  pub first : (c : ℕ) → c < cell_count g → off c 0 ≡ 0
  pub all : (c : ℕ) → c < cell_count g → off c (group_size_of g L) ≡ size_in g c e

-- the members of a group have the device's part
abbrev pub IsSteady : List ℕ → List ℕ → Dimension → Type 0
IsSteady g L d = (c q : ℕ) → c < cell_count g → q < group_size_of g L → part_of g d (member_of g L c q) ≡ part_of g d c

-- so at dimension k, and the other dimensions are the same
abbrev pub ArePieced : List ℕ → List ℕ → (ℕ → ℕ → ℕ) → ℕ → List Dimension → List Dimension → Type 0
ArePieced g L off k [] es = ⊥
ArePieced g L off k (d ∷ ds) [] = ⊥
ArePieced g L off zero (d ∷ ds) (e ∷ es) = IsPieced g L off d e × (es ≡ ds) × AllByRecursion (IsSteady g L) ds
ArePieced g L off (suc k) (d ∷ ds) (e ∷ es) = (e ≡ d) × IsSteady g L d × ArePieced g L off k ds es

-- ---- one device of a group

module _ (g L : List ℕ) (off : ℕ → ℕ → ℕ) (c q : ℕ) (here : c < cell_count g) (below : q < group_size_of g L) where
  abbrev m : ℕ
  m = member_of g L c q

  steady_start : (d : Dimension) → IsSteady g L d → start_in g m d ≡ start_in g c d
  unfolding start_in
  steady_start d steady = ap (offset_at g d) (steady c q here below)

  steady_extent : (d : Dimension) → IsSteady g L d → local_extent g m d ≡ local_extent g c d
  unfolding local_extent size_in
  steady_extent d steady = ap (λ p. d.low + part_size g d p + d.high) (steady c q here below)

  steady_extents : (ds : List Dimension) → AllByRecursion (IsSteady g L) ds → map (local_extent g m) ds ≡ map (local_extent g c) ds
  steady_extents [] all = refl
  steady_extents (d ∷ ds) all = ap₂ (λ x xs. x ∷ xs) (steady_extent d all.0) (steady_extents ds all.1)

  steady_index : (ds : List Dimension) (j : List ℕ) → AllByRecursion (IsSteady g L) ds → whole_index g m ds j ≡ whole_index g c ds j
  steady_index [] j all = refl
  steady_index (d ∷ ds) [] all = refl
  steady_index (d ∷ ds) (x ∷ j) all = ap₂ (λ y ys. (y + x - d.low) ∷ ys) (steady_start d all.0) (steady_index ds j all.1)

  pub shape_there : (k : ℕ) (ds es : List Dimension) → ArePieced g L off k ds es → HasNoHalos ds →
      map (local_extent g m) ds ≡ set (map (local_extent g c) es) k (off c (q + 1) - off c q)
  unfolding local_extent
  shape_there k [] es pieced none = absurd pieced
  shape_there k (d ∷ ds) [] pieced none = absurd pieced
  shape_there zero (d ∷ ds) (e ∷ es) pieced none =
      let size = pieced.0.size c q here below in
      let own : d.low + size_in g m d + d.high ≡ off c (q + 1) - off c q = omega (arith, size, none.0.0, none.0.1) in
      ap₂ (λ x xs. x ∷ xs) own (steady_extents ds pieced.2 ∙ ap (map (local_extent g c)) (sym pieced.1))
  shape_there (suc k) (d ∷ ds) (e ∷ es) pieced none =
      ap₂ (λ x xs. x ∷ xs) (steady_extent d pieced.1 ∙ ap (local_extent g c) (sym pieced.0)) (shape_there k ds es pieced.2 none.1)

  pub index_there : (k : ℕ) (ds es : List Dimension) (j : List ℕ) → ArePieced g L off k ds es → HasNoHalos ds → HasNoHalos es →
      whole_index g m ds j ≡ whole_index g c es (set j k (off c q + get_or j k 0))
  index_there k [] es j pieced none none' = absurd pieced
  index_there k (d ∷ ds) [] j pieced none none' = absurd pieced
  index_there zero (d ∷ ds) (e ∷ es) [] pieced none none' = refl
  index_there (suc k) (d ∷ ds) (e ∷ es) [] pieced none none' = refl
  index_there zero (d ∷ ds) (e ∷ es) (x ∷ j) pieced none none' =
      let start = pieced.0.begins c q here below in
      let own : start_in g m d + x - d.low ≡ start_in g c e + (off c q + x) - e.low = omega (arith, start, none.0.0, none'.0.0) in
      ap₂ (λ x xs. x ∷ xs) own (steady_index ds j pieced.2 ∙ ap (λ ds. whole_index g c ds j) (sym pieced.1))
  index_there (suc k) (d ∷ ds) (e ∷ es) (x ∷ j) pieced none none' =
      ap₂ (λ x xs. x ∷ xs) (ap (λ s. s + x - d.low) (steady_start d pieced.1) ∙ ap (λ d. start_in g c d + x - d.low) (sym pieced.0))
      (index_there k ds es j pieced.2 none.1 none'.1)

-- ---- the device

module _ (g L : List ℕ) (off : ℕ → ℕ → ℕ) (c : ℕ) (here : c < cell_count g) where
  -- the piece ends within the device's tensor
  pub piece_within : (k : ℕ) (ds es : List Dimension) (q : ℕ) → q < group_size_of g L → ArePieced g L off k ds es → HasNoHalos es →
      off c (q + 1) ≤ get_or (map (local_extent g c) es) k 0
  unfolding local_extent
  piece_within k [] es q below pieced none = absurd pieced
  piece_within k (d ∷ ds) [] q below pieced none = absurd pieced
  piece_within zero (d ∷ ds) (e ∷ es) q below pieced none = let ends = pieced.0.within c q here below in omega (arith, ends)
  piece_within (suc k) (d ∷ ds) (e ∷ es) q below pieced none = piece_within k ds es q below pieced.2 none.1

  -- the last piece ends where it does
  pub pieces_end : (k : ℕ) (ds es : List Dimension) → ArePieced g L off k ds es → HasNoHalos es →
      off c (group_size_of g L) ≡ get_or (map (local_extent g c) es) k 0
  unfolding local_extent
  pieces_end k [] es pieced none = absurd pieced
  pieces_end k (d ∷ ds) [] pieced none = absurd pieced
  pieces_end zero (d ∷ ds) (e ∷ es) pieced none = let all = pieced.0.all c here in omega (arith, all, none.0.0, none.0.1)
  pieces_end (suc k) (d ∷ ds) (e ∷ es) pieced none = pieces_end k ds es pieced.2 none.1

  pub pieces_begin : (k : ℕ) (ds es : List Dimension) → ArePieced g L off k ds es → off c 0 ≡ 0
  pieces_begin k [] es pieced = absurd pieced
  pieces_begin k (d ∷ ds) [] pieced = absurd pieced
  pieces_begin zero (d ∷ ds) (e ∷ es) pieced = pieced.0.first c here
  pieces_begin (suc k) (d ∷ ds) (e ∷ es) pieced = pieces_begin k ds es pieced.2

  pub pieces_rise : (k : ℕ) (ds es : List Dimension) (q : ℕ) → q < group_size_of g L → ArePieced g L off k ds es → off c q ≤ off c (q + 1)
  pieces_rise k [] es q below pieced = absurd pieced
  pieces_rise k (d ∷ ds) [] q below pieced = absurd pieced
  pieces_rise zero (d ∷ ds) (e ∷ es) q below pieced = pieced.0.rises c q here below
  pieces_rise (suc k) (d ∷ ds) (e ∷ es) q below pieced = pieces_rise k ds es q below pieced.2

pub pieced_within : (g L : List ℕ) (off : ℕ → ℕ → ℕ) (k : ℕ) (ds es : List Dimension) → ArePieced g L off k ds es → k < length es
pieced_within g L off k [] es pieced = absurd pieced
pieced_within g L off k (d ∷ ds) [] pieced = absurd pieced
pieced_within g L off zero (d ∷ ds) (e ∷ es) pieced = omega arith
pieced_within g L off (suc k) (d ∷ ds) (e ∷ es) pieced = let rest = pieced_within g L off k ds es pieced.2 in omega (arith, rest)

-- ---- cuts

-- the cut of a member by the finer sharding is its piece of the device's cut by the coarser one
pub piece_of_cut : (gv : GridValue) (L : List ℕ) (off : ℕ → ℕ → ℕ) (k : ℕ) (ds es : List Dimension) (t : TensorValue) (c q : ℕ) →
    IsState (record { grid = gv; dimensions = ds }) → IsState (record { grid = gv; dimensions = es }) → ArePieced gv.extents L off k ds es →
    c < cell_count gv.extents → q < group_size_of gv.extents L →
    slice_of (cut_of (record { grid = gv; dimensions = es }) t c) k (off c q) (off c (q + 1) - off c q)
    ≡ cut_of (record { grid = gv; dimensions = ds }) t (member_of gv.extents L c q)
unfolding cut_of
piece_of_cut gv L off k ds es t c q fine coarse pieced here below =
    let size : ℕ = off c (q + 1) - off c q in
    let there : member_of gv.extents L c q < cell_count gv.extents = member_of-below gv.extents L c q here below in
    build-ext (set (map (local_extent gv.extents c) es) k size) t.width
    (λ i. at (cut_of (record { grid = gv; dimensions = es }) t c) (set i k (off c q + get_or i k 0)))
    (cut_cell (record { grid = gv; dimensions = ds }) t (member_of gv.extents L c q))
    (λ j h.
    let rises = pieces_rise gv.extents L off c here k ds es q below pieced in
    let ends = piece_within gv.extents L off c here k ds es q below pieced coarse.plain in
    let long : k < length (map (local_extent gv.extents c) es) =
    subst (λ n. k < n) (sym (length-map es (local_extent gv.extents c))) (pieced_within gv.extents L off k ds es pieced) in
    let own : IsIndexOf (map (local_extent gv.extents c) es) (set j k (off c q + get_or j k 0)) =
    sliced_index (map (local_extent gv.extents c) es) j k (off c q) size long (omega (arith, rises, ends)) h in
    let mine : IsIndexOf (map (local_extent gv.extents (member_of gv.extents L c q)) ds) j =
    subst (λ s. IsIndexOf s j) (sym (shape_there gv.extents L off c q here below k ds es pieced fine.plain)) h in
    at-cut_of (record { grid = gv; dimensions = es }) t c (set j k (off c q + get_or j k 0)) own
    ∙ cut_cell-no_halos (record { grid = gv; dimensions = es }) t c (set j k (off c q + get_or j k 0)) coarse.sharding coarse.plain here own
    ∙ ap (at t) (sym (index_there gv.extents L off c q here below k ds es j pieced fine.plain coarse.plain))
    ∙ sym (cut_cell-no_halos (record { grid = gv; dimensions = ds }) t (member_of gv.extents L c q) j fine.sharding fine.plain there mine))
    ∙ ap (λ s. build s t.width (cut_cell (record { grid = gv; dimensions = ds }) t (member_of gv.extents L c q)))
    (sym (shape_there gv.extents L off c q here below k ds es pieced fine.plain))

-- ---- dimensions that others' axes don't move

apart_nil : (xs : List ℕ) → AreApart xs []
apart_nil [] = tt
apart_nil (x ∷ xs) = (tt, apart_nil xs)

apart_more : (ys xs : List ℕ) (x : ℕ) → IsNoneOf x ys → AreApart ys xs → AreApart ys (x ∷ xs)
apart_more [] xs x none apart = tt
apart_more (y ∷ ys) xs x none apart = (((λ e. none.0 (sym e)), apart.0), apart_more ys xs x none.1 apart.1)

apart_sym : (xs ys : List ℕ) → AreApart xs ys → AreApart ys xs
apart_sym [] ys apart = apart_nil ys
apart_sym (x ∷ xs) ys apart = apart_more ys xs x apart.0 (apart_sym xs ys apart.1)

none_front : (a : ℕ) (xs ys : List ℕ) → IsNoneOf a (xs ++ ys) → IsNoneOf a xs
none_front a [] ys none = tt
none_front a (x ∷ xs) ys none = (none.0, none_front a xs ys none.1)

none_back : (a : ℕ) (xs ys : List ℕ) → IsNoneOf a (xs ++ ys) → IsNoneOf a ys
none_back a [] ys none = none
none_back a (x ∷ xs) ys none = none_back a xs ys none.1

apart_front : (xs ys zs : List ℕ) → AreApart xs (ys ++ zs) → AreApart xs ys
apart_front [] ys zs apart = tt
apart_front (x ∷ xs) ys zs apart = (none_front x ys zs apart.0, apart_front xs ys zs apart.1)

apart_back : (xs ys zs : List ℕ) → AreApart xs (ys ++ zs) → AreApart xs zs
apart_back [] ys zs apart = tt
apart_back (x ∷ xs) ys zs apart = (none_back x ys zs apart.0, apart_back xs ys zs apart.1)

apart_last : (xs ys zs : List ℕ) → AreApart (xs ++ ys) zs → AreApart ys zs
apart_last [] ys zs apart = apart
apart_last (x ∷ xs) ys zs apart = apart_last xs ys zs apart.1

steady : (g L : List ℕ) (d : Dimension) → AreApart d.axes L → IsSteady g L d
unfolding part_of
steady g L d apart c q here below = sym (places_stay g d.axes L c (member_of g L c q) apart (member_of-agrees g L c q here below))

all_steady : (g L : List ℕ) (ds : List Dimension) → AreApart L (axes_of ds) → AllByRecursion (IsSteady g L) ds
all_steady g L [] apart = tt
all_steady g L (d ∷ ds) apart = (steady g L d (apart_sym L d.axes (apart_front L d.axes (axes_of ds) apart)), all_steady g L ds (apart_back L d.axes (axes_of ds) apart))

-- the axes of a dimension end with these
abbrev pub EndsWith : List ℕ → Dimension → Type 0
EndsWith L d = (front : List ℕ) × (d.axes ≡ front ++ L)

ends_apart : (rank : ℕ) (L : List ℕ) (k : ℕ) (ds : List Dimension) (xs : List ℕ) → k < length ds → EndsWith L (get_or ds k (unsplit 0)) → AreApart xs (axes_of ds) → AreApart xs L
ends_apart rank L k [] xs within ends apart = absurd (omega arith)
ends_apart rank L zero (d ∷ ds) xs within ends apart =
    apart_back xs ends.0 L (subst (λ ys. AreApart xs ys) ends.1 (apart_front xs d.axes (axes_of ds) apart))
ends_apart rank L (suc k) (d ∷ ds) xs within ends apart = ends_apart rank L k ds xs (omega arith) ends (apart_back xs d.axes (axes_of ds) apart)

-- the finer dimension stands in a list of distinct axes, and the other list differs from it there
-- alone
pub are_pieced : (g L : List ℕ) (off : ℕ → ℕ → ℕ) (rank k : ℕ) (ds es : List Dimension) (d e : Dimension) →
    AreAxesOf rank (axes_of ds) → k < length ds → EndsWith L d → get_or ds k (unsplit 0) ≡ d → es ≡ set ds k e → IsPieced g L off d e → ArePieced g L off k ds es
are_pieced g L off rank k [] es d e own within ends at_k same pieced = absurd (omega arith)
are_pieced g L off rank zero (x ∷ ds) es d e own within ends at_k same pieced =
    let parts = (axes_join rank x.axes (axes_of ds)).0 own in
    let here : AreApart (ends.0 ++ L) (axes_of ds) = subst (λ ys. AreApart ys (axes_of ds)) ends.1 (subst (λ (y : Dimension). AreApart y.axes (axes_of ds)) at_k parts.1) in
    subst (λ es. ArePieced g L off zero (x ∷ ds) es) (sym same)
    (subst (λ (y : Dimension). IsPieced g L off y e) (sym at_k) pieced, refl, all_steady g L ds (apart_last ends.0 L (axes_of ds) here))
are_pieced g L off rank (suc k) (x ∷ ds) es d e own within ends at_k same pieced =
    let parts = (axes_join rank x.axes (axes_of ds)).0 own in
    let there : EndsWith L (get_or ds k (unsplit 0)) = subst (λ (y : Dimension). EndsWith L y) (sym at_k) ends in
    subst (λ es. ArePieced g L off (suc k) (x ∷ ds) es) (sym same)
    (refl, steady g L x (ends_apart rank L k ds x.axes (omega arith) there parts.1), are_pieced g L off rank k ds (set ds k e) d e parts.2 (omega arith) ends at_k refl pieced)
