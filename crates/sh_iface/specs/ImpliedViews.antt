-- Descriptions of the dimensions of a value as an option implies them.
use Rattle.std.specs.Prelude.{◌≡◌, ℕ, ◌<◌, List, length, slice_get, Some}
use Rattle.sh_base.specs.Shape.{max_rank}
use Rattle.sh_sharding.specs.declared.views.DimensionView.{DimensionView}
use Rattle.sh_sharding.specs.Views.{HasNaturals, described}
use Rattle.sh_iface.specs.LoopNest.{LoopNest, NestValue}
use Rattle.sh_iface.specs.Splits.{OptionValue, implied_dimension}
use Rattle.sh_iface.specs.Valid.{AreSplits}

-- of dimension `dim`, on each grid
pub record IsImpliedView (nest : LoopNest) (o : OptionValue) (value : NestValue) (dim : ℕ)
    (view : DimensionView) : Type 0 where
  pub is : (g : List ℕ) → described g view ≡ implied_dimension g nest o value dim
  pub naturals : (g : List ℕ) → AreSplits g nest.loops o → HasNaturals view.mark

-- of the first so many dimensions
pub record AreImpliedViews (nest : LoopNest) (o : OptionValue) (value : NestValue) (count : ℕ)
    (views : List DimensionView) : Type 0 where
  pub long : length views ≡ max_rank
  pub each : (dim : ℕ) (view : DimensionView) → dim < count → slice_get views dim ≡ Some view
      → IsImpliedView nest o value dim view
