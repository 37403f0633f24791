-- Which views describe an admitted sharding.
use Rattle.std.proofs.Common.{◌≡◌, ◌≢◌, ℕ, ◌+◌, ◌*◌, ◌<◌, ◌≤◌, List, [], ◌∷◌, ◌++◌, length, get_or, map, take, max, refl, ap, ap₂, sym, ◌∙◌, arith, subst}
use Rattle.std.specs.Prelude.{◌==◌, count_by}
use Rattle.std.specs.List.{All, AllByRecursion}
use Rattle.std.proofs.lemmas.List.{length-map, take_more}
use Rattle.std.proofs.lemmas.List.Elements.{All-from_recursion, recursion_from_All, All-append, All-cons, All-head, All-tail}
use Rattle.std.proofs.lemmas.Grind.{flat_map-append}
use Rattle.sh_base.specs.Shape.{cell_count, max_cells, max_rank}
use Rattle.sh_base.proofs.IndexLaws.{cell_count-some}
use Rattle.sh_grid.specs.Grid.{GridValue, IsGrid, AreAxesOf, group_size_of, on_axes}
use Rattle.sh_grid.proofs.GroupSteps.{group_size_of-le}
use Rattle.sh_sharding.specs.declared.shardings.Mark.TheVariants.{Balanced}
use Rattle.sh_sharding.specs.declared.views.DimensionView.{DimensionView}
use Rattle.sh_sharding.specs.Sharding.{parts_of, part_size, size_of_part, axes_of, counted_cells, AreBalanced, HasNoHalos, HasOneMark, IsDimension}
use Rattle.sh_sharding.specs.HaloSizes.{HalosFit}
use Rattle.sh_sharding.specs.Views.{axes_in, mark_in, described, described_sharding, largest_described, viewed_axes, HasNaturals, HasFittingHalos, AreAxesBelow, IsAdmittedView, IsDividing, IsOrdered, IsShort}
use Rattle.sh_sharding.proofs.AxisListLaws.{count-append}
use Rattle.sh_sharding.proofs.HaloSizeLaws.{halo_small, some_parts}
use Rattle.sh_sharding.proofs.LocalSizeLaws.{cells_fit, largest_fit}
use Rattle.sh_sharding.proofs.OwnViewLaws.{map-described}
use Rattle.sh_sharding.proofs.PartLaws.{axes_of-each, extents_few}
use Rattle.sh_sharding.proofs.ViewLaws.{is_dividing, one_part, order_naturals, order_from}

-- ---- axes

pub below_all : (rank : ℕ) (views : List DimensionView) → All (AreAxesBelow rank) views → All (λ a. a < rank) (viewed_axes views)
below_all rank [] h = λ k d l. absurd (omega arith)
below_all rank (v ∷ views) h =
    All-append (λ a. a < rank) (axes_in v.axes) (viewed_axes views) (All-head (AreAxesBelow rank) v views h) (below_all rank views (All-tail (AreAxesBelow rank) v views h))

pub All-left : {X : Type 0} (P : X → Type 0) (xs ys : List X) → All P (xs ++ ys) → All P xs
All-left P [] ys h = λ k d l. absurd (omega arith)
All-left P (x ∷ xs) ys h = All-cons P x xs (All-head P x (xs ++ ys) h) (All-left P xs ys (All-tail P x (xs ++ ys) h))

pub All-right : {X : Type 0} (P : X → Type 0) (xs ys : List X) → All P (xs ++ ys) → All P ys
All-right P [] ys h = h
All-right P (x ∷ xs) ys h = All-right P xs ys (All-tail P x (xs ++ ys) h)

pub below_each : (rank : ℕ) (views : List DimensionView) → All (λ a. a < rank) (viewed_axes views) → All (AreAxesBelow rank) views
below_each rank [] h = λ k d l. absurd (omega arith)
below_each rank (v ∷ views) h =
    All-cons (AreAxesBelow rank) v views (All-left (λ a. a < rank) (axes_in v.axes) (viewed_axes views) h)
    (below_each rank views (All-right (λ a. a < rank) (axes_in v.axes) (viewed_axes views) h))

-- how often an axis is listed in the dimensions so far
pub record IsTimes (views : List DimensionView) (axis k times : ℕ) : Type 0 where
  pub value : times ≡ count_by (λ b. b == axis) (viewed_axes (take k views))
  pub few : times ≤ max_rank * k

pub times_more : (views : List DimensionView) (axis k times here next : ℕ) (d : DimensionView) → k < length views → IsTimes views axis k times → here ≡ count_by (λ b. b == axis) (axes_in (get_or views k d).axes)
    → here ≤ max_rank → next ≡ times + here → IsTimes views axis (k + 1) next
times_more views axis k times here next d l h e few en =
    let v = get_or views k d in
    let more : viewed_axes (take (k + 1) views) ≡ viewed_axes (take k views) ++ (axes_in v.axes ++ []) =
    ap viewed_axes (take_more views k d l) ∙ flat_map-append (λ view. axes_in view.axes) (take k views) (v ∷ []) in
    let value = h.value in
    let most = h.few in
    let last = count-append axis (axes_in v.axes) [] in
    let all = count-append axis (viewed_axes (take k views)) (axes_in v.axes ++ []) in
    let none : count_by (λ b. b == axis) [] ≡ 0 = refl in
    record {
      value = let same = ap (count_by (λ b. b == axis)) more in omega arith;
      few = omega arith;
    }

-- ---- one dimension

-- what the code reads of the sizes
pub fits_described : (g : List ℕ) (v : DimensionView) (p halo : ℕ) → p ≡ group_size_of g (axes_in v.axes) → halo ≡ max v.low v.high
    → ((i : ℕ) → i < p → halo ≤ size_of_part v.extent p (mark_in v.extent p v.mark) i) → HalosFit g (described g v)
unfolding described part_size parts_of
fits_described g v p halo e eh h = λ i l.
    let le = subst (λ (n : ℕ). (i : ℕ) → i < n → halo ≤ size_of_part v.extent n (mark_in v.extent n v.mark) i) e h i l in
    (omega arith, omega arith)

pub described_fits : (g : List ℕ) (v : DimensionView) (p halo : ℕ) → p ≡ group_size_of g (axes_in v.axes) → halo ≡ max v.low v.high → HalosFit g (described g v)
    → (i : ℕ) → i < p → halo ≤ size_of_part v.extent p (mark_in v.extent p v.mark) i
unfolding described part_size parts_of
described_fits g v p halo e eh h =
    subst (λ (n : ℕ). (i : ℕ) → i < n → halo ≤ size_of_part v.extent n (mark_in v.extent n v.mark) i) (sym e) (λ i l.
    let both = h i l in
    let first = both.0 in
    let second = both.1 in
    omega arith)

-- a dimension that isn't split
pub whole_fits : (g : List ℕ) (v : DimensionView) → v.low ≡ 0 → v.high ≡ 0 → HasFittingHalos g (described g v)
unfolding described
whole_fits g v low high = record { fit = λ i l. (omega arith, omega arith); whole = λ e. (low, high) }

-- a dimension that is split
pub split_fits : (g : List ℕ) (v : DimensionView) → axes_in v.axes ≢ [] → HalosFit g (described g v) → HasFittingHalos g (described g v)
unfolding described
split_fits g v some fit = record { fit = fit; whole = λ e. absurd (some e) }

pub described_axes : (g : List ℕ) (v : DimensionView) → (described g v).axes ≡ axes_in v.axes
unfolding described
described_axes g v = refl

pub described_extent : (g : List ℕ) (v : DimensionView) → (described g v).extent ≡ v.extent
unfolding described
described_extent g v = refl

pub described_low : (g : List ℕ) (v : DimensionView) → (described g v).low ≡ v.low
unfolding described
described_low g v = refl

pub described_high : (g : List ℕ) (v : DimensionView) → (described g v).high ≡ v.high
unfolding described
described_high g v = refl

pub described_mark : (g : List ℕ) (v : DimensionView) → (described g v).mark ≡ mark_in v.extent (group_size_of g (axes_in v.axes)) v.mark
unfolding described
described_mark g v = refl

pub group_size_of-none : (g axes : List ℕ) → axes ≡ [] → group_size_of g axes ≡ 1
unfolding group_size_of on_axes
group_size_of-none g axes e = ap (λ xs. cell_count (map (λ a. get_or g a 0) xs)) e

pub is_dimension : (g : List ℕ) (v : DimensionView) → IsOrdered g v → HasFittingHalos g (described g v) → IsDimension g (described g v)
unfolding described parts_of
is_dimension g v h halos =
    let is = is_dividing v.extent (group_size_of g (axes_in v.axes)) v.mark h.dividing in
    record {
      divided = is.divided;
      normal = is.normal;
      low = λ i l. (halos.fit i l).0;
      high = λ i l. (halos.fit i l).1;
      unsplit = λ e.
          let one = group_size_of-none g (axes_in v.axes) e in
          let mark : mark_in v.extent (group_size_of g (axes_in v.axes)) v.mark ≡ Balanced = ap (λ p. mark_in v.extent p v.mark) one ∙ one_part v.extent v.mark (subst (λ p. IsDividing v.extent p v.mark) one h.dividing) in
          let none = halos.whole e in
          λ j. record { extent = v.extent; axes = e j; mark = mark j; low = none.0 j; high = none.1 j };
    }

pub is_ordered : (g : List ℕ) (v : DimensionView) → IsGrid g → AreAxesOf (length g) (axes_in v.axes) → HasNaturals v.mark → IsDimension g (described g v) → IsOrdered g v
unfolding described parts_of
is_ordered g v ok m naturals is =
    let some : 0 < group_size_of g (axes_in v.axes) = some_parts g (described g v) ok m in
    let most = group_size_of-le g (axes_in v.axes) (cell_count-some g ok.positive) m in
    let few = ok.small in
    record {
      axes = m;
      dividing = record { some = some; few = omega arith; order = order_from v.extent (group_size_of g (axes_in v.axes)) v.mark naturals is.divided is.normal };
    }

pub has_halos : (g : List ℕ) (v : DimensionView) → IsDimension g (described g v) → HasFittingHalos g (described g v)
has_halos g v is = record {
  fit = λ i l. (is.low i l, is.high i l);
  whole = λ e. let same = is.unsplit e in (ap (λ d. d.low) same, ap (λ d. d.high) same);
}

pub is_short : (g : List ℕ) (v : DimensionView) → IsGrid g → IsOrdered g v → HasFittingHalos g (described g v) → v.extent ≤ max_cells → IsShort v
unfolding described parts_of
is_short g v ok h halos few =
    let is = is_dividing v.extent (group_size_of g (axes_in v.axes)) v.mark h.dividing in
    let some = some_parts g (described g v) ok h.axes in
    record {
      extent = few;
      low = halo_small g (described g v) v.low is.divided some (λ i l. (halos.fit i l).0);
      high = halo_small g (described g v) v.high is.divided some (λ i l. (halos.fit i l).1);
    }

-- ---- all dimensions

-- what the code tests
pub record IsTested (g : GridValue) (views : List DimensionView) : Type 0 where
  pub rank : length views ≤ max_rank
  pub small : counted_cells (map (λ view. view.extent) views) ≤ max_cells
  pub axes : AreAxesOf (length g.extents) (viewed_axes views)
  pub ordered : All (IsOrdered g.extents) views
  pub halos : All (λ view. HasFittingHalos g.extents (described g.extents view)) views
  pub one_mark : HasOneMark (map (described g.extents) views)
  pub fits : counted_cells (map (largest_described g.extents) views) ≤ max_cells

axes-described : (g : List ℕ) (views : List DimensionView) → axes_of (map (described g) views) ≡ viewed_axes views
axes-described g [] = refl
axes-described g (v ∷ views) = ap₂ ◌++◌ (described_axes g v) (axes-described g views)

extents-described : (g : List ℕ) (views : List DimensionView) → map (λ d. d.extent) (map (described g) views) ≡ map (λ view. view.extent) views
unfolding described
extents-described g [] = refl
extents-described g (v ∷ views) = ap (λ ns. v.extent ∷ ns) (extents-described g views)

all_dimensions : (g : List ℕ) (views : List DimensionView) → AllByRecursion (IsOrdered g) views → AllByRecursion (λ view. HasFittingHalos g (described g view)) views → AllByRecursion (IsDimension g) (map (described g) views)
all_dimensions g [] h halos = tt
all_dimensions g (v ∷ views) h halos = (is_dimension g v h.0 halos.0, all_dimensions g views h.1 halos.1)

all_naturals : (g : List ℕ) (views : List DimensionView) → AllByRecursion (IsOrdered g) views → AllByRecursion (λ view. HasNaturals view.mark) views
all_naturals g [] h = tt
all_naturals g (v ∷ views) h = (order_naturals v.extent (group_size_of g (axes_in v.axes)) v.mark h.0.dividing.order, all_naturals g views h.1)

pub tested : (g : GridValue) (views : List DimensionView) → IsGrid g.extents → IsTested g views → IsAdmittedView g views
tested g views ok h =
    let e = g.extents in
    let ordered = recursion_from_All (IsOrdered e) views h.ordered in
    let halos = recursion_from_All (λ view. HasFittingHalos e (described e view)) views h.halos in
    let axes = subst (AreAxesOf (length e)) (sym (axes-described e views)) h.axes in
    record {
      naturals = all_naturals e views ordered;
      sharding = record {
        grid = ok;
        axes = axes;
        dimensions = all_dimensions e views ordered halos;
        short = rw (length-map views (described e)) h.rank;
        one_mark = h.one_mark;
        small = rw (extents-described e views) h.small;
        fits = cells_fit (described_sharding g views) max_cells axes (subst (λ ns. counted_cells ns ≤ max_cells) (map-described e views) h.fits);
      };
    }

all_ordered : (g : List ℕ) (views : List DimensionView) → IsGrid g → AllByRecursion (λ d. AreAxesOf (length g) d.axes) (map (described g) views) → AllByRecursion (λ view. HasNaturals view.mark) views
    → AllByRecursion (IsDimension g) (map (described g) views) → AllByRecursion (IsOrdered g) views
all_ordered g [] ok m naturals is = tt
all_ordered g (v ∷ views) ok m naturals is = (is_ordered g v ok (subst (AreAxesOf (length g)) (described_axes g v) m.0) naturals.0 is.0, all_ordered g views ok m.1 naturals.1 is.1)

all_halos : (g : List ℕ) (views : List DimensionView) → AllByRecursion (IsDimension g) (map (described g) views) → AllByRecursion (λ view. HasFittingHalos g (described g view)) views
all_halos g [] is = tt
all_halos g (v ∷ views) is = (has_halos g v is.0, all_halos g views is.1)

pub tests_hold : (g : GridValue) (views : List DimensionView) → IsAdmittedView g views → IsTested g views
tests_hold g views h =
    let e = g.extents in
    let s = h.sharding in
    let axes = axes_of-each (length e) (map (described e) views) s.axes in
    record {
      rank = let short = s.short in omega (arith, length-map views (described e));
      small = rw (← extents-described e views) s.small;
      axes = subst (AreAxesOf (length e)) (axes-described e views) s.axes;
      ordered = All-from_recursion (IsOrdered e) views (all_ordered e views s.grid axes h.naturals s.dimensions);
      halos = All-from_recursion (λ view. HasFittingHalos e (described e view)) views (all_halos e views s.dimensions);
      one_mark = s.one_mark;
      fits = subst (λ ns. counted_cells ns ≤ max_cells) (sym (map-described e views)) (largest_fit (described_sharding g views) max_cells s.grid s.axes s.fits);
    }

-- what the steps ask
pub each_axes : (g : List ℕ) (views : List DimensionView) → AreAxesOf (length g) (viewed_axes views) → All (λ view. AreAxesOf (length g) (axes_in view.axes)) views
each_axes g views m =
    All-from_recursion (λ view. AreAxesOf (length g) (axes_in view.axes)) views (each views (axes_of-each (length g) (map (described g) views) (subst (AreAxesOf (length g)) (sym (axes-described g views)) m)))
  where
    each : (views : List DimensionView) → AllByRecursion (λ d. AreAxesOf (length g) d.axes) (map (described g) views) → AllByRecursion (λ view. AreAxesOf (length g) (axes_in view.axes)) views
    each [] m = tt
    each (v ∷ views) m = (subst (AreAxesOf (length g)) (described_axes g v) m.0, each views m.1)

pub all_short : (g : List ℕ) (views : List DimensionView) → IsGrid g → All (IsOrdered g) views → All (λ view. HasFittingHalos g (described g view)) views → counted_cells (map (λ view. view.extent) views) ≤ max_cells
    → All IsShort views
all_short g views ok h halos small =
    All-from_recursion IsShort views
    (each g views ok (recursion_from_All (IsOrdered g) views h) (recursion_from_All (λ view. HasFittingHalos g (described g view)) views halos)
    (extents_few (map (described g) views) max_cells (rw (extents-described g views) small)))
  where
    each : (g : List ℕ) (views : List DimensionView) → IsGrid g → AllByRecursion (IsOrdered g) views → AllByRecursion (λ view. HasFittingHalos g (described g view)) views
        → AllByRecursion (λ d. d.extent ≤ max_cells) (map (described g) views) → AllByRecursion IsShort views
    each g [] ok h halos few = tt
    each g (v ∷ views) ok h halos few = (is_short g v ok h.0 halos.0 (subst (λ n. n ≤ max_cells) (described_extent g v) few.0), each g views ok h.1 halos.1 few.1)

pub all_balanced : (g : List ℕ) (views : List DimensionView) → All (λ view. (described g view).mark ≡ Balanced) views → AreBalanced (map (described g) views)
all_balanced g views h = each g views (recursion_from_All (λ view. (described g view).mark ≡ Balanced) views h)
  where
    each : (g : List ℕ) (views : List DimensionView) → AllByRecursion (λ view. (described g view).mark ≡ Balanced) views → AreBalanced (map (described g) views)
    each g [] h = tt
    each g (v ∷ views) h = (h.0, each g views h.1)

pub none_haloed : (g : List ℕ) (views : List DimensionView) → All (λ view. (view.low ≡ 0) × (view.high ≡ 0)) views → HasNoHalos (map (described g) views)
none_haloed g views h = each g views (recursion_from_All (λ view. (view.low ≡ 0) × (view.high ≡ 0)) views h)
  where
    each : (g : List ℕ) (views : List DimensionView) → AllByRecursion (λ view. (view.low ≡ 0) × (view.high ≡ 0)) views → HasNoHalos (map (described g) views)
    each g [] h = tt
    each g (v ∷ views) h = ((described_low g v ∙ h.0.0, described_high g v ∙ h.0.1), each g views h.1)

-- where not all are balanced and some has a halo
pub both_marks : (g : List ℕ) (views : List DimensionView) → HasOneMark (map (described g) views) → ¬ All (λ view. (described g view).mark ≡ Balanced) views
    → All (λ view. (view.low ≡ 0) × (view.high ≡ 0)) views
both_marks g views h some =
    All-from_recursion (λ view. (view.low ≡ 0) × (view.high ≡ 0)) views
    (each g views (h (λ all. some (All-from_recursion (λ view. (described g view).mark ≡ Balanced) views (balanced g views all)))))
  where
    balanced : (g : List ℕ) (views : List DimensionView) → AreBalanced (map (described g) views) → AllByRecursion (λ view. (described g view).mark ≡ Balanced) views
    balanced g [] h = tt
    balanced g (v ∷ views) h = (h.0, balanced g views h.1)

    each : (g : List ℕ) (views : List DimensionView) → HasNoHalos (map (described g) views) → AllByRecursion (λ view. (view.low ≡ 0) × (view.high ≡ 0)) views
    each g [] h = tt
    each g (v ∷ views) h = ((sym (described_low g v) ∙ h.0.0, sym (described_high g v) ∙ h.0.1), each g views h.1)
