-- The instructions of device form that moves stand for.
use Rattle.std.specs.Prelude.{◌≡◌, ℕ, ◌+◌, true, List, [], ◌∷◌, length, map, Some, pos}
use Rattle.std.specs.List.{range_with_len}
use Rattle.sh_base.specs.declared.numbers.Width.{Width}
use Rattle.sh_base.specs.declared.places.Place.{Place}
use Rattle.sh_ir.specs.declared.operations.Op.{Op}
use Rattle.sh_ir.specs.declared.operations.OpKind.{OpKind}
use Rattle.sh_ir.specs.declared.operations.OpKind.TheVariants.{AllGather, AllSlice, AllToAll, Take}
use Rattle.sh_ir.specs.declared.shard_ops.GridAxes.{GridAxes}
use Rattle.sh_ir.specs.declared.types.ValueType.{ValueType}
use Rattle.sh_ir.specs.declared.types.ValueType.TheVariants.{Tensor}
use Rattle.sh_sem.specs.Steps.{steps_on}
use Rattle.sh_pieces.specs.Promises.{IsReshard}
use Rattle.sh_sharding.specs.declared.shardings.Dimension.{Dimension}
use Rattle.sh_sharding.specs.LocalTypes.{local_dims, part_sizes}
use Rattle.sh_sharding.specs.Made.{IsState}
use Rattle.sh_sharding.specs.Sharding.{HasNoHalos, ShardingValue, offset_at, parts_of, whole_of}
use Rattle.sh_sharding.specs.Splits.{TensorSplit, tensor_splitting}
use Rattle.sh_plan.specs.declared.moves.Move.{Move}
use Rattle.sh_plan.specs.declared.moves.Move.TheVariants.{M1, M2, M3, M4, M5}
use Rattle.sh_plan.specs.declared.plans.Plan.{Plan}
use Rattle.sh_plan.specs.Moves.{IsNamedAt, at, last_axis, may_be, moved}
use Rattle.sh_plan.specs.Plans.{IsPair, IsThePlan}

-- ---- what instructions write

-- the place of an operation that stands in no text
abbrev pub no_text : Place
no_text = record { line = 1; column = 1 }

-- the groups along some axes of a sharding's grid
abbrev pub groups_along : ShardingValue → List ℕ → GridAxes
groups_along s axes = record { grid = s.grid.name; grid_axes = map pos axes }

-- the type of the local tensors
abbrev pub local_type : Width → ShardingValue → ValueType
local_type w s = Tensor (record { dims = local_dims s; width = w })

-- where the parts of a dimension begin
unfoldable pub part_starts : List ℕ → Dimension → List ℕ
part_starts g d = map (offset_at g d) (range_with_len 0 (parts_of g d))

-- What a move does to local tensors of a width, by the shardings before and after it: gather along
-- the axes that a dimension loses, slice along the axis that one gains, exchange along the axis
-- that goes from one to another, or take the parts of the target.
unfoldable pub kind_of : Width → ShardingValue → ShardingValue → Move → OpKind
kind_of w s next (M1 d) =
    AllGather (record {
      on = groups_along s (last_axis (at s.dimensions d) ∷ []);
      gather_axis = d;
      operand_type = local_type w s;
    })
kind_of w s next (M2 d a) =
    AllSlice (record {
      on = groups_along s (a ∷ []);
      slice_axis = d;
      operand_type = local_type w s;
    })
kind_of w s next (M3 d e) =
    AllToAll (record {
      on = groups_along s (last_axis (at s.dimensions d) ∷ []);
      split_axis = e;
      concat_axis = d;
      operand_type = local_type w s;
    })
kind_of w s next (M4 d) =
    AllGather (record {
      on = groups_along s (at s.dimensions d).axes;
      gather_axis = d;
      operand_type = local_type w s;
    })
kind_of w s next (M5 d) =
    Take (record {
      on = groups_along s (at next.dimensions d).axes;
      axis = d;
      starts = map pos (part_starts s.grid.extents (at next.dimensions d));
      sizes = map pos (part_sizes s.grid.extents (at next.dimensions d));
      operand_type = local_type w s;
    })

-- the instruction of a move, which takes the value of one name and defines another
abbrev pub instruction_of : Width → ShardingValue → ShardingValue → Move → ℕ → ℕ → Op
instruction_of w s next m value name = record {
  kind = kind_of w s next m;
  operands = value ∷ [];
  defines = Some name;
  result = local_type w next;
  place = no_text;
}

-- The instructions of moves on the way to a target: the first takes the value of a name, each other
-- one the value before it, and they define names from `first` on.
abbrev pub instructions_of : Width → ShardingValue → ShardingValue → List Move → ℕ → ℕ → List Op
instructions_of w to s [] value first = []
instructions_of w to s (m ∷ ms) value first =
    instruction_of w s (moved s to m) m value first
    ∷ instructions_of w to (moved s to m) ms first (first + 1)

-- the name of the value after them
abbrev pub last_name : List Move → ℕ → ℕ → ℕ
last_name [] value first = value
last_name (m ∷ ms) value first = last_name ms first (first + 1)

-- ---- what they do

-- a move that may be made at a state on the way to a target without halos
pub record IsMoveAt (s to : ShardingValue) (m : Move) : Type 0 where
  pub state : IsState s
  pub target : IsState to
  pub grid : s.grid ≡ to.grid
  pub whole : whole_of s ≡ whole_of to
  pub named : IsNamedAt s m
  pub allowed : may_be s to m ≡ true

-- tensors of a width, split by a sharding
abbrev pub split_of : Width → ShardingValue → TensorSplit
split_of w s = record { sharding = s; width = w }

-- run in step, the instruction of a move makes the cuts by the one sharding those by the other
abbrev pub Reshards : Width → ShardingValue → ShardingValue → Move → ℕ → ℕ → Type 0
Reshards w s next m value name =
    IsReshard (steps_on s.grid.extents) tensor_splitting (split_of w s) (split_of w next)
    value name name (name + 1) (instruction_of w s next m value name ∷ [])

-- so do the instructions of moves that lead to a target
abbrev pub ReshardsAlong : Width → ShardingValue → ShardingValue → List Move → ℕ → ℕ → Type 0
ReshardsAlong w from to ms value first =
    IsReshard (steps_on to.grid.extents) tensor_splitting (split_of w from) (split_of w to)
    value first (last_name ms value first) (first + length ms)
    (instructions_of w to from ms value first)

-- the plan between two shardings of one shape on one grid, neither of which has halos
pub record IsPlainPlan (from to : ShardingValue) (p : Plan) : Type 0 where
  pub plan : IsThePlan from to p
  pub pair : IsPair from to
  pub source : HasNoHalos from.dimensions
  pub target : HasNoHalos to.dimensions
