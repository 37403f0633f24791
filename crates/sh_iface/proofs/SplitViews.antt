-- The split of a loop is in order exactly where its description alone is that of an admitted sharding.
use Rattle.std.proofs.Common.{ℕ, ℤ, ◌<◌, ◌≤◌, List, [], ◌∷◌, map, length, ap, sym, arith, subst}
use Rattle.std.proofs.lemmas.List.{append-nil}
use Rattle.sh_base.specs.Shape.{max_cells}
use Rattle.sh_grid.specs.Grid.{GridValue, IsGrid, AreAxesOf, group_size_of}
use Rattle.sh_grid.proofs.GroupSteps.{group_size_of-le}
use Rattle.sh_base.proofs.IndexLaws.{cell_count-some}
use Rattle.sh_sharding.specs.declared.shardings.Dimension.{Dimension}
use Rattle.sh_sharding.specs.declared.views.DimensionView.{DimensionView}
use Rattle.sh_sharding.specs.declared.views.MarkView.{MarkView}
use Rattle.sh_sharding.specs.declared.views.MarkView.TheVariants as mark_view
use Rattle.sh_sharding.specs.Made.{IsPlain}
use Rattle.sh_sharding.specs.OffsetLists.{AreOffsets}
use Rattle.sh_sharding.specs.Sharding.{IsDimension, parts_of, unsplit}
use Rattle.sh_sharding.specs.Views.{HasOrder, IsAdmittedView, IsOrdered, axes_in, described, scaled}
use Rattle.sh_sharding.proofs.HaloSizeLaws.{some_parts}
use Rattle.sh_sharding.proofs.MadeLaws.{in_order}
use Rattle.sh_sharding.proofs.ViewAdmissionLaws.{is_dimension, is_ordered, whole_fits}
use Rattle.sh_sharding.proofs.ViewLaws.{order_naturals, scaled-one}
use Rattle.sh_iface.specs.declared.options.Split.{Split}
use Rattle.sh_iface.specs.ScaledViews.{IsScaledView, ListsOffsets}
use Rattle.sh_iface.specs.Valid.{IsSplit}

listed_order : (zs : List ℤ) (mark : MarkView) (extent parts : ℕ) → ListsOffsets zs mark → HasOrder extent parts mark → AreOffsets extent parts zs
listed_order zs mark_view.Balanced extent parts lists h = absurd lists
listed_order zs (mark_view.Listed listing) extent parts lists h = subst (AreOffsets extent parts) lists h

order_listed : (zs : List ℤ) (mark : MarkView) (extent parts : ℕ) → ListsOffsets zs mark → AreOffsets extent parts zs → HasOrder extent parts mark
order_listed zs mark_view.Balanced extent parts lists h = absurd lists
order_listed zs (mark_view.Listed listing) extent parts lists h = subst (AreOffsets extent parts) (sym lists) h

module _ (g : GridValue) (extent : ℕ) (split : Split) (view : DimensionView) (ok : IsGrid g.extents) (small : extent ≤ max_cells) (is : IsScaledView view extent split 1) where
  -- what the view says of an order is what the split does
  split_of_order : IsOrdered g.extents view → IsSplit g.extents extent split
  split_of_order h =
      let order = listed_order (map (scaled 1) split.starts) view.mark view.extent (group_size_of g.extents (axes_in view.axes)) is.offsets h.dividing.order in
      let plain : AreOffsets view.extent (group_size_of g.extents (axes_in view.axes)) split.starts = subst (AreOffsets view.extent (group_size_of g.extents (axes_in view.axes))) (scaled-one split.starts) order in
      record {
        axes = subst (AreAxesOf (length g.extents)) is.axes h.axes;
        starts = subst (λ axes. AreOffsets extent (group_size_of g.extents axes) split.starts) is.axes
            (subst (λ n. AreOffsets n (group_size_of g.extents (axes_in view.axes)) split.starts) is.whole plain);
      }

  group_some : AreAxesOf (length g.extents) (axes_in view.axes) → 0 < group_size_of g.extents (axes_in view.axes)
  unfolding parts_of
  group_some axes = some_parts g.extents (record (unsplit 0) { axes = axes_in view.axes }) ok axes

  order_of_split : IsSplit g.extents extent split → IsOrdered g.extents view
  order_of_split h =
      let axes : AreAxesOf (length g.extents) (axes_in view.axes) = subst (AreAxesOf (length g.extents)) (sym is.axes) h.axes in
      let some : 0 < group_size_of g.extents (axes_in view.axes) = group_some axes in
      let most = group_size_of-le g.extents (axes_in view.axes) (cell_count-some g.extents ok.positive) axes in
      let few = ok.small in
      let starts : AreOffsets view.extent (group_size_of g.extents (axes_in view.axes)) split.starts =
      subst (λ axes. AreOffsets view.extent (group_size_of g.extents axes) split.starts) (sym is.axes)
      (subst (λ n. AreOffsets n (group_size_of g.extents split.axes) split.starts) (sym is.whole) h.starts) in
      let listed : AreOffsets view.extent (group_size_of g.extents (axes_in view.axes)) (map (scaled 1) split.starts) = subst (AreOffsets view.extent (group_size_of g.extents (axes_in view.axes))) (sym (scaled-one split.starts)) starts in
      record {
        axes = axes;
        dividing = record { some = some; few = omega (arith, most, few); order = order_listed (map (scaled 1) split.starts) view.mark view.extent (group_size_of g.extents (axes_in view.axes)) is.offsets listed };
      }

  plain_of : IsOrdered g.extents view → IsDimension g.extents (described g.extents view) → IsPlain g.extents (described g.extents view)
  unfolding described
  plain_of h d = record {
    divided = d.divided;
    normal = d.normal;
    low = is.low;
    high = is.high;
    whole = λ e. ap (λ (x : Dimension). x.mark) (d.unsplit e);
  }

  -- by the description alone the loop is admitted
  admitted_split : IsSplit g.extents extent split → IsAdmittedView g (view ∷ [])
  unfolding described
  admitted_split h =
      let ordered = order_of_split h in
      let dimension = is_dimension g.extents view ordered (whole_fits g.extents view is.low is.high) in
      record {
        naturals = (order_naturals view.extent (group_size_of g.extents (axes_in view.axes)) view.mark ordered.dividing.order, tt);
        sharding = (in_order (record { grid = g; dimensions = described g.extents view ∷ [] }) (record {
          grid = ok;
          axes = subst (AreAxesOf (length g.extents)) (sym (append-nil (axes_in view.axes))) ordered.axes;
          dimensions = (plain_of ordered dimension, tt);
          short = omega arith;
          small = let same = is.whole in let least = small in omega (arith, same, least);
        })).sharding;
      }

  split_admitted : IsAdmittedView g (view ∷ []) → IsSplit g.extents extent split
  unfolding described
  split_admitted h =
      let axes : AreAxesOf (length g.extents) (axes_in view.axes) = subst (AreAxesOf (length g.extents)) (append-nil (axes_in view.axes)) h.sharding.axes in
      split_of_order (is_ordered g.extents view ok axes h.naturals.0 h.sharding.dimensions.0)

pub split_is_admitted : (g : GridValue) (extent : ℕ) (split : Split) (view : DimensionView) → IsGrid g.extents → extent ≤ max_cells → IsScaledView view extent split 1
    → (IsAdmittedView g (view ∷ []) → IsSplit g.extents extent split) × (IsSplit g.extents extent split → IsAdmittedView g (view ∷ []))
split_is_admitted g extent split view ok small is = (split_admitted g extent split view ok small is, admitted_split g extent split view ok small is)
