-- The description of a dimension whose parts are so many times as long as those of a loop.
use Rattle.std.specs.Prelude.{◌≡◌, ℕ, ℤ, List, map}
use Rattle.sh_sharding.specs.declared.views.DimensionView.{DimensionView}
use Rattle.sh_sharding.specs.declared.views.MarkView.{MarkView}
use Rattle.sh_sharding.specs.declared.views.MarkView.TheVariants as mark_view
use Rattle.sh_sharding.specs.Views.{axes_in, offsets_in, scaled}
use Rattle.sh_iface.specs.declared.options.Split.{Split}

-- these offsets are listed
abbrev pub ListsOffsets : List ℤ → MarkView → Type 0
ListsOffsets zs mark_view.Balanced = ⊥
ListsOffsets zs (mark_view.Listed listing) = offsets_in listing ≡ zs

pub record IsScaledView (view : DimensionView) (extent : ℕ) (split : Split)
    (factor : ℕ) : Type 0 where
  pub whole : view.extent ≡ extent
  pub axes : axes_in view.axes ≡ split.axes
  pub offsets : ListsOffsets (map (scaled factor) split.starts) view.mark
  pub low : view.low ≡ 0
  pub high : view.high ≡ 0
