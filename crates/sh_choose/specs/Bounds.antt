-- What is known of all options that begin as a partial one does.
use Rattle.std.specs.Prelude.{◌≡◌, ◌≢◌, ℕ, true, List, slice_get, Option, Some, None}
use Rattle.sh_sharding.specs.Sharding.{dimension_of, is_split}
use Rattle.sh_iface.specs.declared.options.Follow.{Follow}
use Rattle.sh_iface.specs.declared.options.Split.{Split}
use Rattle.sh_iface.specs.LoopNest.{LoopNest, dim_at, value_at}
use Rattle.sh_iface.specs.Splits.{OptionValue}
use Rattle.sh_choose.specs.declared.chosen.Chosen.{Chosen}
use Rattle.sh_choose.specs.declared.chosen.Known.{Known}
use Rattle.sh_choose.specs.declared.chosen.Weight.{Weight}
use Rattle.sh_choose.specs.Least.{weight_in}
use Rattle.sh_choose.specs.Weights.{IsAtMost, IsLess}

-- the best so far is less
abbrev pub IsPast : Option Chosen → Weight → Type 0
IsPast None w = ⊥
IsPast (Some best) w = IsLess (weight_in best) w

-- the best so far isn't less
abbrev pub IsNoMore : Weight → Option Chosen → Type 0
IsNoMore w None = Unit {0}
IsNoMore w (Some best) = IsAtMost w (weight_in best)

-- the loop is there, and isn't split along these axes
abbrev pub HasOtherAxes : List ℕ → Option (Option Split) → Type 0
HasOtherAxes axes None = ⊥
HasOtherAxes axes (Some None) = Unit {0}
HasOtherAxes axes (Some (Some split)) = split.axes ≢ axes

abbrev pub FollowsOtherAxes : OptionValue → List ℕ → Option Follow → Type 0
FollowsOtherAxes o axes None = Unit {0}
FollowsOtherAxes o axes (Some f) = HasOtherAxes axes (slice_get o f.loop_index)

-- dimension `dim` of a known sharding is split, along other axes than the loop that it follows
pub record IsSplitOtherwise (nest : LoopNest) (o : OptionValue) (k : Known) (dim : ℕ) : Type 0 where
  pub split : is_split (dimension_of k.sharding dim) ≡ true
  pub otherwise : FollowsOtherAxes o (dimension_of k.sharding dim).axes
      (dim_at (value_at nest k.v) dim).follow
