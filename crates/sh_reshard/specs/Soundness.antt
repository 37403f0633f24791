-- Where the instructions of a reshard may stand, and what they keep there.
use Rattle.std.specs.Prelude.{◌≡◌, ℕ, ◌+◌, ◌≤◌, List, [], ◌∷◌, length, map, None, Some, pos}
use Rattle.sh_base.specs.declared.numbers.Width.{Width}
use Rattle.sh_base.specs.declared.rules.Rule.{Rule}
use Rattle.sh_ir.specs.declared.modules.GridItem.{GridItem}
use Rattle.sh_ir.specs.Rules.{KeepsOps}
use Rattle.sh_ir.specs.Scope.{Scope, Value, grid_item, value_named}
use Rattle.sh_ir.proofs.KeptLaws.{scope_behind}
use Rattle.sh_sharding.specs.Sharding.{ShardingValue}
use Rattle.sh_plan.specs.declared.moves.Move.{Move}
use Rattle.sh_plan.specs.Instructions.{instructions_of, last_name, local_type}
use Rattle.sh_plan.specs.Moves.{moved}

-- A scope of device form on a sharding's grid, in which a name has the type of the local tensors of
-- a width, and no name from the next one on is defined.
pub record IsReshardScope (w : Width) (s : ShardingValue) (value next : ℕ) (scope : Scope) : Type 0 where
  pub device : scope.device ≡ Some s.grid.name
  pub item : GridItem
  pub grid : grid_item scope.grids s.grid.name ≡ Some item
  pub extents : item.extents ≡ map pos s.grid.extents
  pub held : Value
  pub there : value_named scope.values value ≡ Some held
  pub typed : held.value_type ≡ local_type w s
  pub fresh : (name : ℕ) → next ≤ name → value_named scope.values name ≡ None

-- The instructions of moves keep all rules of device form, and behind them the last value has the
-- type of the local tensors by the target.
pub record AreSound (w : Width) (to from : ShardingValue) (ms : List Move) (value first : ℕ)
    (scope : Scope) : Type 0 where
  pub keeps : (rule : Rule) → KeepsOps rule scope (instructions_of w to from ms value first)
  pub behind : IsReshardScope w to (last_name ms value first) (first + length ms)
      (scope_behind scope (instructions_of w to from ms value first))

-- the shardings on the way, the first and the last included
abbrev pub states_along : ShardingValue → ShardingValue → List Move → List ShardingValue
states_along to s [] = s ∷ []
states_along to s (m ∷ ms) = s ∷ states_along to (moved s to m) ms
