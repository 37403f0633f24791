-- What keeps all rules is admitted, and is a sharding.
use Rattle.std.proofs.Common.{◌≡◌, ◌≢◌, ℕ, ◌<◌, ◌≤◌, inl, inr, List, [], ◌∷◌, length, map, take, drop, Bool, true, false, ap, sym, ◌∙◌, arith, subst, ℤ}
use Rattle.std.specs.List.{AllByRecursion, All}
use Rattle.std.proofs.lemmas.List.{length-map}
use Rattle.std.proofs.lemmas.List.Elements.{All-from_recursion}
use Rattle.sh_base.specs.declared.rules.Rule.{Rule}
use Rattle.sh_base.specs.declared.rules.Rule.TheVariants.{A1, A2, A3, A5, A6, A7, A8}
use Rattle.sh_base.specs.Shape.{cell_count, max_cells}
use Rattle.sh_grid.specs.Grid.{GridValue, IsGrid, AreAxesOf}
use Rattle.sh_ir.specs.declared.types.RawSharding.{RawSharding}
use Rattle.sh_sharding.specs.declared.shardings.Dimension.{Dimension}
use Rattle.sh_sharding.specs.declared.views.DimensionView.{DimensionView}
use Rattle.sh_sharding.specs.Views.{largest_described, IsOrdered, IsShort, AreViewsOf}
use Rattle.sh_sharding.proofs.OwnViewLaws.{HasSmall, own_views, short_views, map-described}
use Rattle.sh_sharding.specs.Sharding.{parts_of, local_shape, largest_local, whole_of, axes_of, counted_cells, HasNoHalos, AreBalanced, IsMarked, IsSharding, IsHeld}
use Rattle.sh_sharding.specs.Admission.{sharding_of, Keeps, KeepsLists, KeepsHalos, KeepsAllButSize, IsAdmitted, IsLeastBroken}
use Rattle.sh_sharding.specs.AxisLists.{listed}
use Rattle.sh_sharding.specs.HaloSizes.{halo_count, haloed, with_halos, HalosFit}
use Rattle.sh_sharding.specs.OffsetLists.{marked}
use Rattle.sh_sharding.proofs.PartLaws.{extents_few}
use Rattle.sh_sharding.proofs.HaloSizeLaws.{halo_small, some_parts}
use Rattle.sh_sharding.proofs.WrittenLaws.{axes-with_halos, axes-marked, extents-with_halos, extents-marked, extents-listed, has_axes, marked_whole, haloed_all, halos_none, offsets_none}
use Rattle.sh_sharding.proofs.LeastRuleLaws.{all_marked}
use Rattle.sh_sharding.proofs.LocalSizeLaws.{cells_fit, largest_fit}
use Rattle.sh_sharding.proofs.Cases.{none_or_some, not_both}

-- ---- the dimensions with their halos

still_marked : (g : List ℕ) (d : Dimension) (hs : List ℤ) → IsMarked g d → IsMarked g (haloed d hs)
unfolding parts_of
still_marked g d hs h = record { axes = h.axes; divided = h.divided; normal = h.normal }

haloed_marked : (g : List ℕ) (ds : List Dimension) (hs : List ℤ) → AllByRecursion (IsMarked g) ds → AllByRecursion (IsMarked g) (with_halos ds hs)
haloed_marked g [] hs h = tt
haloed_marked g (d ∷ ds) hs h = (still_marked g d (take (halo_count d) hs) h.0, haloed_marked g ds (drop (halo_count d) hs) h.1)

small_one : (g : List ℕ) (d : Dimension) → IsGrid g → IsMarked g d → HalosFit g d → d.extent ≤ max_cells → HasSmall d
small_one g d ok m fit le =
    let some = some_parts g d ok m.axes in
    (le, halo_small g d d.low m.divided some (λ i l. (fit i l).0), halo_small g d d.high m.divided some (λ i l. (fit i l).1))

small_all : (g : List ℕ) (ds : List Dimension) → IsGrid g → AllByRecursion (IsMarked g) ds → AllByRecursion (HalosFit g) ds → AllByRecursion (λ d. d.extent ≤ max_cells) ds → AllByRecursion HasSmall ds
small_all g [] ok m fit le = tt
small_all g (d ∷ ds) ok m fit le = (small_one g d ok m.0 fit.0 le.0, small_all g ds ok m.1 fit.1 le.1)

-- ---- the sharding that is written

written_whole : (g : GridValue) (raw : RawSharding) (s : List ℕ) → whole_of (sharding_of g raw s) ≡ s
written_whole g raw s =
    extents-with_halos (marked g.extents (listed raw.split s) raw.offsets) raw.halos
    ∙ extents-marked g.extents (listed raw.split s) raw.offsets
    ∙ extents-listed raw.split s

written_axes : (g : GridValue) (raw : RawSharding) (s : List ℕ) → KeepsAllButSize g raw s → AreAxesOf (length g.extents) (axes_of (sharding_of g raw s).dimensions)
written_axes g raw s h =
    let same = axes-with_halos (marked g.extents (listed raw.split s) raw.offsets) raw.halos ∙ axes-marked g.extents (listed raw.split s) raw.offsets in
    subst (AreAxesOf (length g.extents)) (sym same) (has_axes g raw s h.grid.few h.lists).all

written_marked : (g : GridValue) (raw : RawSharding) (s : List ℕ) → KeepsAllButSize g raw s → AllByRecursion (IsMarked g.extents) (sharding_of g raw s).dimensions
written_marked g raw s h = haloed_marked g.extents (marked g.extents (listed raw.split s) raw.offsets) raw.halos (all_marked g raw s h.grid h.lists h.divisions)

written_small : (g : GridValue) (raw : RawSharding) (s : List ℕ) → KeepsAllButSize g raw s → AllByRecursion HasSmall (sharding_of g raw s).dimensions
written_small g raw s h =
    let whole : counted_cells (whole_of (sharding_of g raw s)) ≤ max_cells = rw (written_whole g raw s) h.small in
    small_all g.extents (sharding_of g raw s).dimensions h.grid (written_marked g raw s h) h.halos.fit (extents_few (sharding_of g raw s).dimensions max_cells whole)

-- ---- views of the dimensions

-- what the last step of admission reads
pub record IsReady (g : GridValue) (raw : RawSharding) (s : List ℕ) (views : List DimensionView) : Type 0 where
  pub ordered : All (IsOrdered g.extents) views
  pub short : All IsShort views
  pub largest : map (largest_described g.extents) views ≡ map (largest_local g.extents) (sharding_of g raw s).dimensions

pub is_ready : (g : GridValue) (raw : RawSharding) (s : List ℕ) (views : List DimensionView) (ds : List Dimension) → KeepsAllButSize g raw s → ds ≡ (sharding_of g raw s).dimensions → AreViewsOf views ds → IsReady g raw s views
is_ready g raw s views ds h e shown =
    let mine = subst (AreViewsOf views) e shown in
    let own = own_views g.extents views (sharding_of g raw s).dimensions h.grid (written_marked g raw s h) mine in
    record {
      ordered = own.ordered;
      short = All-from_recursion IsShort views (short_views views (sharding_of g raw s).dimensions (written_small g raw s h) mine);
      largest = map-described g.extents views ∙ ap (map (largest_local g.extents)) own.value;
    }

-- the same where the code counts the dimensions and then looks at as many views
pub ready_front : (g : GridValue) (raw : RawSharding) (s : List ℕ) (views : List DimensionView) (ds : List Dimension) (count : ℕ) → KeepsAllButSize g raw s → ds ≡ (sharding_of g raw s).dimensions
    → count ≡ length ds → AreViewsOf (take (length ds) views) ds → IsReady g raw s (take count views)
ready_front g raw s views ds count h e counted shown =
    is_ready g raw s (take count views) ds h e (subst (λ n. AreViewsOf (take n views) ds) (sym counted) shown)

pub written_rank : (g : GridValue) (raw : RawSharding) (s : List ℕ) (ds : List Dimension) → ds ≡ (sharding_of g raw s).dimensions → length ds ≡ length s
written_rank g raw s ds e = ap length e ∙ sym (length-map (sharding_of g raw s).dimensions (λ d. d.extent)) ∙ ap length (written_whole g raw s)

-- ---- the answers

keeps_all : (g : GridValue) (raw : RawSharding) (s : List ℕ) → KeepsAllButSize g raw s → ((device : ℕ) → device < cell_count g.extents → counted_cells (local_shape (sharding_of g raw s) device) ≤ max_cells)
    → (rule : Rule) → Keeps rule g raw s
keeps_all g raw s h fits A1 = h.lists.axes
keeps_all g raw s h fits A2 = h.lists.once
keeps_all g raw s h fits A3 = h.lists.few
keeps_all g raw s h fits A5 = h.divisions
keeps_all g raw s h fits A6 = h.halos.alone
keeps_all g raw s h fits A7 = h.halos.counted
keeps_all g raw s h fits A8 = (h.halos.fit, fits)
keeps_all g raw s h fits _ = tt

pub is_admitted : (g : GridValue) (raw : RawSharding) (s : List ℕ) (views : List DimensionView) → KeepsAllButSize g raw s → IsReady g raw s views → counted_cells (map (largest_described g.extents) views) ≤ max_cells
    → IsAdmitted g raw s
is_admitted g raw s views h ready le =
    let le' : counted_cells (map (largest_local g.extents) (sharding_of g raw s).dimensions) ≤ max_cells = subst (λ ns. counted_cells ns ≤ max_cells) ready.largest le in
    record { keeps = keeps_all g raw s h (cells_fit (sharding_of g raw s) max_cells (written_axes g raw s h) le') }

-- of an admitted sharding the largest local tensor is small
pub admitted_small : (g : GridValue) (raw : RawSharding) (s : List ℕ) (views : List DimensionView)
    → KeepsAllButSize g raw s → IsReady g raw s views → IsAdmitted g raw s
    → counted_cells (map (largest_described g.extents) views) ≤ max_cells
admitted_small g raw s views h ready admitted =
    let kept : Keeps A8 g raw s = admitted.keeps A8 in
    subst (λ ns. counted_cells ns ≤ max_cells) (sym ready.largest)
    (largest_fit (sharding_of g raw s) max_cells h.grid (written_axes g raw s h) kept.1)

-- what keeps all rules but that on sizes, and isn't admitted, breaks that one
pub is_too_large : (g : GridValue) (raw : RawSharding) (s : List ℕ) (admitted : Bool) → KeepsAllButSize g raw s
    → (IsAdmitted g raw s → admitted ≡ true) → admitted ≡ false → IsLeastBroken A8 g raw s
is_too_large g raw s admitted h passes failed = record {
  broken = λ kept. not_both admitted (passes (record { keeps = keeps_all g raw s h kept.1 })) failed;
  earlier = (h.lists.axes, (h.lists.once, (h.lists.few, (h.divisions, (h.halos.alone, (h.halos.counted, tt))))));
}

-- the sharding of what is written
pub is_sharding : (g : GridValue) (raw : RawSharding) (s : List ℕ) → IsGrid g.extents → length s ≤ 6 → counted_cells s ≤ max_cells → IsAdmitted g raw s → IsSharding (sharding_of g raw s)
is_sharding g raw s ok short small h =
    let lists : KeepsLists g raw s = record { axes = h.keeps A1; once = h.keeps A2; few = h.keeps A3 } in
    let divisions : Keeps A5 g raw s = h.keeps A5 in
    let halos : KeepsHalos g raw s = record { alone = h.keeps A6; counted = h.keeps A7; fit = (h.keeps A8).0 } in
    let nearly : KeepsAllButSize g raw s = record { grid = ok; small = small; lists = lists; divisions = divisions; halos = halos } in
    let ds = marked g.extents (listed raw.split s) raw.offsets in
    let whole = written_whole g raw s in
    record {
      grid = ok;
      axes = written_axes g raw s nearly;
      dimensions = haloed_all g.extents ds raw.halos (all_marked g raw s ok lists divisions) (marked_whole g.extents (listed raw.split s) raw.offsets) (h.keeps A8).0;
      short = few_dimensions g raw s short;
      one_mark = λ some. one_mark g raw s (h.keeps A6) some;
      small = rw whole small;
      fits = (h.keeps A8).1;
    }
  where
    few_dimensions : (g : GridValue) (raw : RawSharding) (s : List ℕ) → length s ≤ 6 → length (sharding_of g raw s).dimensions ≤ 6
    few_dimensions g raw s le =
        let same : length (map (λ d. d.extent) (sharding_of g raw s).dimensions) ≡ length s = ap length (written_whole g raw s) in
        omega (arith, length-map (sharding_of g raw s).dimensions (λ d. d.extent))

    one_mark : (g : GridValue) (raw : RawSharding) (s : List ℕ) → (raw.halos ≢ [] → raw.offsets ≡ []) → ¬ AreBalanced (sharding_of g raw s).dimensions → HasNoHalos (sharding_of g raw s).dimensions
    one_mark g raw s alone some = elim (none_or_some raw.halos) [
      | inl none ↦ subst (λ hs. HasNoHalos (with_halos (marked g.extents (listed raw.split s) raw.offsets) hs)) (sym none) (halos_none (marked g.extents (listed raw.split s) raw.offsets))
      | inr given ↦ absurd (some (subst (λ os. AreBalanced (with_halos (marked g.extents (listed raw.split s) os) raw.halos)) (sym (alone given)) (offsets_none g.extents (listed raw.split s) raw.halos)))
    ]

pub is_held : (g : GridValue) (raw : RawSharding) (s : List ℕ) (grid : GridValue) (whole : List ℕ) (ds : List Dimension) → IsGrid g.extents → length s ≤ 6 → counted_cells s ≤ max_cells → IsAdmitted g raw s
    → grid ≡ g → whole ≡ s → ds ≡ (sharding_of g raw s).dimensions → IsHeld whole (record { grid = grid; dimensions = ds })
is_held g raw s grid whole ds ok short small h eg ew ed =
    let same : sharding_of g raw s ≡ record { grid = grid; dimensions = ds } = λ j. record { grid = sym eg j; dimensions = sym ed j } in
    subst (IsHeld whole) same (record { sharding = is_sharding g raw s ok short small h; shape = ew ∙ sym (written_whole g raw s) })
