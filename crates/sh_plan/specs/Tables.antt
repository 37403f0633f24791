-- Tables of states and numbers, in the order of the states.
use Rattle.std.specs.Prelude.{◌≡◌, ℕ, Bool, nat_eq, List, [], Some, All, slice_get, if◌then◌else◌}
use Rattle.std.specs.Cmp.Lexicographic.{pointwise}
use Rattle.std.specs.Ordering.{is_lt}
use Rattle.sh_grid.specs.Grid.{GridValue}
use Rattle.sh_sharding.specs.declared.shardings.Dimension.{Dimension}
use Rattle.sh_sharding.specs.Order.{order_of}
use Rattle.sh_sharding.specs.Sharding.{ShardingValue}
use Rattle.sh_plan.specs.declared.plans.Distance.{Distance}
use Rattle.sh_plan.specs.Plans.{IsListed, IsRising}
use Rattle.sh_plan.specs.States.{AreApart, IsStateTo}

-- the dimensions of a sharding on a grid of these extents; none where its grid has others
abbrev pub dimensions_on : List ℕ → ShardingValue → List Dimension
dimensions_on g s = if pointwise nat_eq s.grid.extents g then s.dimensions else []

-- whether an entry's state is before another's
abbrev pub is_before : List ℕ → Distance → Distance → Bool
is_before g a b =
    is_lt (order_of g (dimensions_on g a.sharding) (dimensions_on g b.sharding))

-- states to one target on the grid, none of them twice
pub record AreOn (g : GridValue) (states : List ShardingValue) : Type 0 where
  pub target : ShardingValue
  pub grid : target.grid ≡ g
  pub each : All (IsStateTo target) states
  pub apart : AreApart states

-- a state has a number
pub record HasNumber (states : List ShardingValue) (numbers : List ℕ) (s : ShardingValue) (n : ℕ)
    : Type 0 where
  pub place : ℕ
  pub state : slice_get states place ≡ Some s
  pub number : slice_get numbers place ≡ Some n

-- a table lists states with their numbers, and nothing else, in rising order
pub record IsTable (g : List ℕ) (states : List ShardingValue) (numbers : List ℕ)
    (table : List Distance) : Type 0 where
  pub rising : IsRising g table
  pub all : (s : ShardingValue) (n : ℕ) → HasNumber states numbers s n
      → IsListed table s.dimensions n
  pub only : All (λ e. HasNumber states numbers e.sharding e.cost) table
