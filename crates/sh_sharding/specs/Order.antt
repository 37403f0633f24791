-- An order of halo-free shardings of one shape on one grid.
use Rattle.std.specs.Prelude.{ℕ, List}
use Rattle.std.specs.declared.cmp.Ordering.{Ordering}
use Rattle.std.specs.Ordering.{ordering_then, nat_cmp}
use Rattle.std.specs.Cmp.Lexicographic.{slice_cmp}
use Rattle.sh_sharding.specs.declared.shardings.Dimension.{Dimension}
use Rattle.sh_sharding.specs.declared.views.DimensionView.{DimensionView}
use Rattle.sh_sharding.specs.Sharding.{parts_of, offsets_of}
use Rattle.sh_sharding.specs.Views.{described, mark_in}

-- all offsets of a dimension
abbrev pub offsets_along : List ℕ → Dimension → List ℕ
offsets_along g d = offsets_of d.extent (parts_of g d) d.mark

-- by the list of axes and then by the offsets, lists of numbers being compared from the front
unfoldable pub dimension_order : List ℕ → Dimension → Dimension → Ordering
dimension_order g d e =
    ordering_then (slice_cmp nat_cmp d.axes e.axes)
    (slice_cmp nat_cmp (offsets_along g d) (offsets_along g e))

-- dimension by dimension
abbrev pub order_of : List ℕ → List Dimension → List Dimension → Ordering
order_of g ds es = slice_cmp (dimension_order g) ds es

-- the same of views
abbrev pub viewed_offsets : ℕ → DimensionView → List ℕ
viewed_offsets parts view = offsets_of view.extent parts (mark_in view.extent parts view.mark)

abbrev pub dimension_view_order : List ℕ → DimensionView → DimensionView → Ordering
dimension_view_order g view other = dimension_order g (described g view) (described g other)
