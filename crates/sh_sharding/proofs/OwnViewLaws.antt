-- The views of dimensions in memory describe these dimensions.
use Rattle.std.proofs.Common.{◌≡◌, ℕ, ◌<◌, ◌≤◌, List, [], ◌∷◌, length, map, refl, ap, ap₂, sym, ◌∙◌, arith, subst}
use Rattle.std.specs.List.{AllByRecursion}
use Rattle.std.proofs.lemmas.List.Elements.{All-from_recursion}
use Rattle.sh_base.specs.Shape.{max_cells}
use Rattle.sh_base.proofs.IndexLaws.{cell_count-some}
use Rattle.sh_grid.specs.Grid.{IsGrid, AreAxesOf, group_size_of}
use Rattle.sh_grid.proofs.GroupSteps.{group_size_of-le}
use Rattle.sh_sharding.specs.declared.shardings.Dimension.{Dimension}
use Rattle.sh_sharding.specs.declared.views.DimensionView.{DimensionView}
use Rattle.sh_sharding.specs.Sharding.{parts_of, largest_local, IsMarked}
use Rattle.sh_sharding.specs.Views.{axes_in, mark_in, described, largest_described, IsDividing, IsOrdered, IsShort, IsViewOf, AreViewsOf, IsOwnView, AreOwnViews}
use Rattle.sh_sharding.proofs.HaloSizeLaws.{some_parts}
use Rattle.sh_sharding.proofs.ViewLaws.{is_shown}

-- no number of a dimension is large
abbrev pub HasSmall : Dimension → Type 0
HasSmall d = (d.extent ≤ max_cells) × (d.low ≤ d.extent) × (d.high ≤ d.extent)

pub own_view : (g : List ℕ) (view : DimensionView) (d : Dimension) → IsGrid g → IsMarked g d → IsViewOf view d → IsOwnView g view d
unfolding described parts_of
own_view g view d ok m h =
    let some : 0 < group_size_of g d.axes = some_parts g d ok m.axes in
    let most = group_size_of-le g d.axes (cell_count-some g ok.positive) m.axes in
    let few = ok.small in
    let is = is_shown d.extent (group_size_of g d.axes) view.mark d.mark some (omega arith) m.divided m.normal h.mark in
    let mark : mark_in view.extent (group_size_of g (axes_in view.axes)) view.mark ≡ d.mark = ap₂ (λ n axes. mark_in n (group_size_of g axes) view.mark) h.extent h.axes ∙ is.mark in
    record {
      ordered = record {
        axes = subst (AreAxesOf (length g)) (sym h.axes) m.axes;
        dividing = subst (λ n. IsDividing n (group_size_of g (axes_in view.axes)) view.mark) (sym h.extent) (subst (λ axes. IsDividing d.extent (group_size_of g axes) view.mark) (sym h.axes) is.dividing);
      };
      value = λ j. record { extent = h.extent j; axes = h.axes j; mark = mark j; low = h.low j; high = h.high j };
    }

own_ordered : (g : List ℕ) (views : List DimensionView) (ds : List Dimension) → IsGrid g → AllByRecursion (IsMarked g) ds → AreViewsOf views ds → AllByRecursion (IsOrdered g) views
own_ordered g [] ds ok m h = tt
own_ordered g (view ∷ views) [] ok m h = absurd h
own_ordered g (view ∷ views) (d ∷ ds) ok m h = ((own_view g view d ok m.0 h.0).ordered, own_ordered g views ds ok m.1 h.1)

own_values : (g : List ℕ) (views : List DimensionView) (ds : List Dimension) → IsGrid g → AllByRecursion (IsMarked g) ds → AreViewsOf views ds → map (described g) views ≡ ds
own_values g [] [] ok m h = refl
own_values g [] (d ∷ ds) ok m h = absurd h
own_values g (view ∷ views) [] ok m h = absurd h
own_values g (view ∷ views) (d ∷ ds) ok m h = ap₂ ◌∷◌ (own_view g view d ok m.0 h.0).value (own_values g views ds ok m.1 h.1)

pub own_views : (g : List ℕ) (views : List DimensionView) (ds : List Dimension) → IsGrid g → AllByRecursion (IsMarked g) ds → AreViewsOf views ds → AreOwnViews g views ds
own_views g views ds ok m h = record { ordered = All-from_recursion (IsOrdered g) views (own_ordered g views ds ok m h); value = own_values g views ds ok m h }

-- no number of the views is large
pub short_views : (views : List DimensionView) (ds : List Dimension) → AllByRecursion HasSmall ds → AreViewsOf views ds → AllByRecursion IsShort views
short_views [] ds small h = tt
short_views (view ∷ views) [] small h = absurd h
short_views (view ∷ views) (d ∷ ds) small h =
    let extent = h.0.extent in
    let low = h.0.low in
    let high = h.0.high in
    let few : d.extent ≤ max_cells = small.0.0 in
    let below : d.low ≤ d.extent = small.0.1 in
    let above : d.high ≤ d.extent = small.0.2 in
    (record { extent = omega arith; low = omega arith; high = omega arith }, short_views views ds small.1 h.1)

pub map-described : (g : List ℕ) (views : List DimensionView) → map (largest_described g) views ≡ map (largest_local g) (map (described g) views)
map-described g [] = refl
map-described g (view ∷ views) = ap (λ ns. largest_described g view ∷ ns) (map-described g views)
