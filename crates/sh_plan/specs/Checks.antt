-- Tables as a check reads them.
use Rattle.std.specs.Prelude.{◌≡◌, ◌≢◌, ◌↔◌, ◌∷◌, ℕ, ◌+◌, ◌<◌, ◌≤◌, true, List, Option, Some, All, MatchOption, length, slice_get}
use Rattle.sh_sharding.specs.declared.shardings.Dimension.{Dimension}
use Rattle.sh_sharding.specs.Order.{order_of}
use Rattle.sh_sharding.specs.Sharding.{ShardingValue, whole_of}
use Rattle.sh_plan.specs.declared.plans.Distance.{Distance}
use Rattle.sh_plan.specs.declared.plans.Plan.{Plan}
use Rattle.sh_plan.specs.declared.moves.Move.{Move}
use Rattle.sh_plan.specs.declared.moves.Move.TheVariants.{M1, M2, M3, M4, M5}
use Rattle.sh_plan.specs.Moves.{may_be}
use Rattle.sh_plan.specs.Plans.{IsListed, IsRising}
use Rattle.sh_plan.specs.States.{IsStateTo, towards}
use Rattle.sh_ways.specs.Graph.{Leads, total}

-- states to one target in rising order
pub record IsTableOf (to : ShardingValue) (table : List Distance) : Type 0 where
  pub each : All (λ e. IsStateTo to e.sharding) table
  pub rising : IsRising to.grid.extents table

-- dimensions that stand where those of a state to the target do
pub record IsSought (to t : ShardingValue) (ds : List Dimension) : Type 0 where
  pub state : IsStateTo to t
  pub order : (es : List Dimension) →
      order_of to.grid.extents es ds ≡ order_of to.grid.extents es t.dimensions

-- an entry with these dimensions stands at this place
pub record StandsAt (table : List Distance) (ds : List Dimension) (i : ℕ) : Type 0 where
  pub entry : Distance
  pub found : slice_get table i ≡ Some entry
  pub state : entry.sharding.dimensions ≡ ds

-- the place of a state in a table; none where the table hasn't got it
abbrev pub IsPlaceOf : List Distance → List Dimension → Option ℕ → Type 0
IsPlaceOf table ds found =
    MatchOption found
    ((i : ℕ) (e : Distance) → slice_get table i ≡ Some e → e.sharding.dimensions ≢ ds)
    (StandsAt table ds)

-- ---- what is asked of moves

-- a move, if it may be made, leads from an entry to an entry, and doesn't undercut the number
pub record Covers (to : ShardingValue) (table : List Distance) (e : Distance) (m : Move)
    : Type 0 where
  pub next : ℕ
  pub listed : IsListed table ((towards to).to e.sharding.dimensions m) next
  pub within : e.cost ≤ (towards to).cost e.sharding.dimensions m + next

abbrev pub MoveHolds : ShardingValue → List Distance → Distance → Move → Type 0
MoveHolds to table e m = may_be e.sharding to m ≡ true → Covers to table e m

-- each move that names this dimension first
pub record DimensionHolds (to : ShardingValue) (table : List Distance) (e : Distance) (d : ℕ)
    : Type 0 where
  pub m1 : MoveHolds to table e (M1 d)
  pub m2 : (a : ℕ) → a < length e.sharding.grid.extents → MoveHolds to table e (M2 d a)
  pub m3 : (f : ℕ) → f < length e.sharding.dimensions → MoveHolds to table e (M3 d f)
  pub m4 : MoveHolds to table e (M4 d)
  pub m5 : MoveHolds to table e (M5 d)

-- each move from an entry
pub record EntryHolds (to : ShardingValue) (table : List Distance) (e : Distance) : Type 0 where
  pub each : (d : ℕ) → d < length e.sharding.dimensions → DimensionHolds to table e d

abbrev pub AllHold : ShardingValue → List Distance → Type 0
AllHold to table = All (EntryHolds to table) table

-- ---- ways through a table

-- the moves lead from a state to the target at this cost
pub record IsWay (to : ShardingValue) (ds : List Dimension) (ms : List Move) (n : ℕ) : Type 0 where
  pub leads : Leads (towards to) ds ms to.dimensions
  pub sum : total (towards to) ds ms ≡ n

-- no way at this cost begins with the move
pub record NotOnward (to : ShardingValue) (ds : List Dimension) (rest : ℕ) (m : Move) : Type 0 where
  pub none : (ms : List Move) → IsWay to ds (m ∷ ms) rest → ⊥

-- a way that begins with the move goes on from the entry at this place at the cost that is left
pub record IsOnward (to : ShardingValue) (table : List Distance) (ds : List Dimension) (rest : ℕ)
    (m : Move) (next : ℕ × ℕ) : Type 0 where
  pub place : StandsAt table ((towards to).to ds m) next.0
  pub ways : (ms : List Move) →
      IsWay to ds (m ∷ ms) rest ↔ IsWay to ((towards to).to ds m) ms next.1

-- from the source's entry to the target's the plan's moves cost least
pub record IsChecked (table : List Distance) (source target : Distance) (p : Plan) : Type 0 where
  pub zero : target.cost ≡ 0
  pub cost : source.cost ≡ p.cost
  pub hold : AllHold target.sharding table
  pub way : IsWay target.sharding source.sharding.dimensions p.moves p.cost

-- an entry's sharding has the target's shape and stands on its grid
pub record IsEntryFor (to : ShardingValue) (e : Distance) : Type 0 where
  pub grid : e.sharding.grid ≡ to.grid
  pub whole : whole_of e.sharding ≡ whole_of to
