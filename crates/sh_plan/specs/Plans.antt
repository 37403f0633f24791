-- Plans of least cost, and the tables that show that a plan is one.
use Rattle.std.specs.Prelude.{◌≡◌, ◌↔◌, ℕ, ◌+◌, ◌<◌, ◌≤◌, IsTrue, List, Some, Contains, All, slice_get}
use Rattle.std.specs.declared.cmp.Ordering.TheVariants.{Less}
use Rattle.sh_sharding.specs.declared.shardings.Dimension.{Dimension}
use Rattle.sh_sharding.specs.Made.{without_halos}
use Rattle.sh_sharding.specs.Normal.{IsSame}
use Rattle.sh_sharding.specs.Order.{order_of}
use Rattle.sh_sharding.specs.Sharding.{ShardingValue, HasNoHalos, IsSharding, whole_of}
use Rattle.sh_ways.specs.Graph.{Graph, HasWay, IsDist, Leads, ThePlan, total}
use Rattle.sh_ways.specs.Rows.{no_number}
use Rattle.sh_plan.specs.declared.moves.Move.{Move}
use Rattle.sh_plan.specs.declared.plans.Distance.{Distance}
use Rattle.sh_plan.specs.declared.plans.Plan.{Plan}
use Rattle.sh_plan.specs.Costs.{reshards}

-- the state of a sharding: its dimensions without their halos
abbrev pub state_of : ShardingValue → List Dimension
state_of s = (without_halos s).dimensions

-- the states and moves between two shardings, for plans to the second
abbrev pub reshards_to : ShardingValue → Graph (List Dimension) Move
reshards_to to = reshards to.grid.extents (state_of to)

-- ---- what a plan says

-- the shardings differ, and this one has halos
abbrev pub DiffersWithHalos : ShardingValue → ShardingValue → ShardingValue → Type 0
DiffersWithHalos from to s = (¬ IsSame from to) × (¬ HasNoHalos s.dimensions)

pub record HasFlags (from to : ShardingValue) (p : Plan) : Type 0 where
  pub drop : IsTrue p.drop_halos ↔ DiffersWithHalos from to from
  pub add : IsTrue p.add_halos ↔ DiffersWithHalos from to to

-- the moves lead from source to target at the plan's cost, and no list of moves costs less
pub record IsLeast (from to : ShardingValue) (p : Plan) : Type 0 where
  pub leads : Leads (reshards_to to) (state_of from) p.moves (state_of to)
  pub sum : total (reshards_to to) (state_of from) p.moves ≡ p.cost
  pub dist : IsDist (reshards_to to) (state_of from) (state_of to) p.cost

-- at each state the first move that lies on a least way, at the distance
pub record IsThePlan (from to : ShardingValue) (p : Plan) : Type 0 where
  pub flags : HasFlags from to p
  pub moves : ThePlan (reshards_to to) (state_of from) p.moves (state_of to)
  pub dist : IsDist (reshards_to to) (state_of from) (state_of to) p.cost

-- ---- certificates

-- each entry's state is below those after it
abbrev pub IsRising : List ℕ → List Distance → Type 0
IsRising g table =
    (i j : ℕ) (a b : Distance) → i < j → slice_get table i ≡ Some a → slice_get table j ≡ Some b →
    order_of g a.sharding.dimensions b.sharding.dimensions ≡ Less

-- the table has this state, with this number
pub record IsListed (table : List Distance) (ds : List Dimension) (n : ℕ) : Type 0 where
  pub place : ℕ
  pub entry : Distance
  pub found : slice_get table place ≡ Some entry
  pub state : entry.sharding.dimensions ≡ ds
  pub number : entry.cost ≡ n

-- the table has this state
pub record HasState (table : List Distance) (ds : List Dimension) : Type 0 where
  pub number : ℕ
  pub listed : IsListed table ds number

-- each move from an entry leads to an entry
abbrev pub IsClosed : ShardingValue → List Distance → Type 0
IsClosed to table =
    (ds : List Dimension) (m : Move) → HasState table ds → Contains ((reshards_to to).moves ds) m →
    HasState table ((reshards_to to).to ds m)

-- the number at an entry is at most the cost of each move from there and the number where it leads
abbrev pub IsNotUndercut : ShardingValue → List Distance → Type 0
IsNotUndercut to table =
    (ds : List Dimension) (n : ℕ) (m : Move) (next : ℕ) → IsListed table ds n →
    Contains ((reshards_to to).moves ds) m → IsListed table ((reshards_to to).to ds m) next →
    n ≤ (reshards_to to).cost ds m + next

-- A plan's table is a certificate for it.
pub record IsCertificate (from to : ShardingValue) (p : Plan) : Type 0 where
  pub halo_free : All (λ e. HasNoHalos e.sharding.dimensions) p.table
  pub rising : IsRising to.grid.extents p.table
  pub source : HasState p.table (state_of from)
  pub target : HasState p.table (state_of to)
  pub closed : IsClosed to p.table
  pub zero_at : IsListed p.table (state_of to) 0
  pub below : IsNotUndercut to p.table
  pub leads : Leads (reshards_to to) (state_of from) p.moves (state_of to)
  pub sum : total (reshards_to to) (state_of from) p.moves ≡ p.cost
  pub distance : IsListed p.table (state_of from) p.cost
  pub flags : HasFlags from to p

-- ---- what holds of all shardings of one shape on one grid

-- Some moves lead from the one to the other, at a cost below the greatest number of 64 bits.
pub record Reaches (from to : ShardingValue) : Type 0 where
  pub cost : ℕ
  pub small : cost < no_number
  pub way : HasWay (reshards_to to) (state_of from) (state_of to) cost

-- two admitted shardings of one shape on one grid
pub record IsPair (from to : ShardingValue) : Type 0 where
  pub source : IsSharding from
  pub target : IsSharding to
  pub grid : from.grid ≡ to.grid
  pub whole : whole_of from ≡ whole_of to
