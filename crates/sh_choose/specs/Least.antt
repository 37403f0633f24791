-- The least option of an operation under known shardings.
use Rattle.std.specs.Prelude.{◌≡◌, ◌≤◌, List, ◌∷◌, ◌++◌, length, Option, Some, None}
use Rattle.std.specs.List.{AllByRecursion}
use Rattle.sh_grid.specs.Grid.{GridValue}
use Rattle.sh_ir.specs.declared.operations.Op.{Op}
use Rattle.sh_sharding.specs.Sharding.{whole_of}
use Rattle.sh_iface.specs.LoopNest.{LoopNest, shape_of, value_at}
use Rattle.sh_iface.specs.Splits.{OptionValue}
use Rattle.sh_iface.specs.Table.{nest_of}
use Rattle.sh_iface.specs.Valid.{IsValid}
use Rattle.sh_choose.specs.declared.chosen.Chosen.{Chosen}
use Rattle.sh_choose.specs.declared.chosen.Known.{Known}
use Rattle.sh_choose.specs.declared.chosen.Weight.{Weight}
use Rattle.sh_choose.specs.Proposals.{options_of}
use Rattle.sh_choose.specs.Weights.{IsAtMost, IsLess, weight_of}

-- Among those that are valid the first of the least: those before it are greater, and no later one
-- is less.
pub record IsFirstLeast {X : Type 0} (Valid : X → Type 0) (weight : X → Weight) (xs : List X)
    (x : X) : Type 0 where
  pub before : List X
  pub after : List X
  pub there : xs ≡ before ++ x ∷ after
  pub valid : Valid x
  pub first : AllByRecursion (λ y. Valid y → IsLess (weight x) (weight y)) before
  pub least : AllByRecursion (λ y. Valid y → IsAtMost (weight x) (weight y)) after

-- the least option
abbrev pub IsLeast : LoopNest → GridValue → List Known → OptionValue → Type 0
IsLeast nest g known o =
    IsFirstLeast (IsValid nest g) (weight_of nest g known) (options_of nest known) o

-- the least option of an operation, by its kind and the type of its value
pub record IsLeastOf (op : Op) (g : GridValue) (known : List Known) (o : OptionValue) : Type 0 where
  pub nest : LoopNest
  pub is : nest_of op.kind op.result ≡ Some nest
  pub least : IsLeast nest g known o

-- the numbers that an answer keeps
abbrev pub weight_in : Chosen → Weight
weight_in c = record {
  user_differ = c.user_differ;
  other_differ = c.other_differ;
  points = c.points;
}

-- the least option, with its numbers
pub record IsChosen (nest : LoopNest) (g : GridValue) (known : List Known) (c : Chosen) : Type 0 where
  pub least : IsLeast nest g known c.option
  pub weight : weight_in c ≡ weight_of nest g known c.option

-- a sharding on the grid of the tensors of this value
pub record IsKnown (nest : LoopNest) (g : GridValue) (k : Known) : Type 0 where
  pub there : k.v ≤ length nest.operands
  pub grid : k.sharding.grid ≡ g
  pub shape : whole_of k.sharding ≡ shape_of (value_at nest k.v)

-- ---- of the options so far

abbrev pub IsBest : LoopNest → GridValue → List Known → List OptionValue → Option Chosen → Type 0
IsBest nest g known xs None = AllByRecursion (λ o. ¬ IsValid nest g o) xs
IsBest nest g known xs (Some c) =
    IsFirstLeast (IsValid nest g) (weight_of nest g known) xs c.option
    × (weight_in c ≡ weight_of nest g known c.option)
