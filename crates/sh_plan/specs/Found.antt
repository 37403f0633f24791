-- What a search between two states finds: the plan, and a table of distances that shows it.
use Rattle.std.specs.Prelude.{◌≡◌, ℕ, ◌+◌, ◌≤◌, List, All, Contains}
use Rattle.sh_sharding.specs.declared.shardings.Dimension.{Dimension}
use Rattle.sh_sharding.specs.Sharding.{HasNoHalos, ShardingValue}
use Rattle.sh_ways.specs.Graph.{Graph, IsDist, ThePlan}
use Rattle.sh_plan.specs.declared.moves.Move.{Move}
use Rattle.sh_plan.specs.declared.plans.Distance.{Distance}
use Rattle.sh_plan.specs.declared.planning.Found.{Found}
use Rattle.sh_plan.specs.Plans.{HasState, IsListed, IsRising}
use Rattle.sh_plan.specs.States.{IsStateTo, towards}

abbrev pub HasNoHalo : Dimension → Type 0
HasNoHalo d = (d.low ≡ 0) × (d.high ≡ 0)

-- the table is closed under moves, and no move undercuts a number
pub record IsUncut (g : Graph (List Dimension) Move) (table : List Distance) : Type 0 where
  pub closed : (ds : List Dimension) (m : Move) → HasState table ds → Contains (g.moves ds) m →
      HasState table (g.to ds m)
  pub below : (ds : List Dimension) (n : ℕ) (m : Move) (next : ℕ) → IsListed table ds n →
      Contains (g.moves ds) m → IsListed table (g.to ds m) next → n ≤ g.cost ds m + next

pub record IsFound (from to : ShardingValue) (found : Found) : Type 0 where
  pub plan : ThePlan (towards to) from.dimensions found.moves to.dimensions
  pub dist : IsDist (towards to) from.dimensions to.dimensions found.cost
  pub each : All (λ e. IsStateTo to e.sharding) found.table
  pub halo_free : All (λ e. HasNoHalos e.sharding.dimensions) found.table
  pub rising : IsRising to.grid.extents found.table
  pub source : IsListed found.table from.dimensions found.cost
  pub target : IsListed found.table to.dimensions 0
  pub uncut : IsUncut (towards to) found.table
