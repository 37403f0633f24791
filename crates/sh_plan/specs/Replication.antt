-- From replication: which moves split alone, and how many of them a target needs.
use Rattle.std.specs.Prelude.{◌≡◌, ℕ, List, [], All, length, sum_by, if◌then◌else◌}
use Rattle.sh_sharding.specs.declared.shardings.Dimension.{Dimension}
use Rattle.sh_sharding.specs.Sharding.{ShardingValue, axes_of, is_uneven}
use Rattle.sh_plan.specs.declared.moves.Move.{Move}
use Rattle.sh_plan.specs.declared.moves.Move.TheVariants.{M1, M2, M3, M4, M5}
use Rattle.sh_plan.specs.declared.plans.Plan.{Plan}
use Rattle.sh_plan.specs.Plans.{IsPair, state_of}

-- no axis splits it
abbrev pub IsReplicated : ShardingValue → Type 0
IsReplicated s = axes_of s.dimensions ≡ []

-- the move splits a dimension, or splits it further, and takes no axis away
abbrev pub IsSplitMove : Move → Type 0
IsSplitMove (M1 d) = ⊥
IsSplitMove (M2 d a) = Unit {0}
IsSplitMove (M3 d e) = ⊥
IsSplitMove (M4 d) = ⊥
IsSplitMove (M5 d) = Unit {0}

-- how many moves split a whole dimension as this one: one where it is uneven, else one an axis
unfoldable pub splits_of : List ℕ → Dimension → ℕ
splits_of g d = if is_uneven g d then 1 else length d.axes

-- how many make the target from replication
abbrev pub splits_to : ShardingValue → ℕ
splits_to to = sum_by (splits_of to.grid.extents) (state_of to)

-- all moves split, each of them costs 1, and there are as many as the target needs
pub record OnlySplits (to : ShardingValue) (p : Plan) : Type 0 where
  pub moves : All IsSplitMove p.moves
  pub cost : p.cost ≡ length p.moves
  pub count : length p.moves ≡ splits_to to

-- what holds of a plan, or of any other least list of moves, where the source is replicated
abbrev pub OnlySplitsReplicated : ShardingValue → ShardingValue → Plan → Type 0
OnlySplitsReplicated from to p = IsPair from to → IsReplicated from → OnlySplits to p
