-- The laws of an interface.
use Rattle.std.specs.Prelude.{◌≡◌, ℕ, ◌-◌, ◌<◌, ◌≤◌, pos, Bool, true, not, List, ◌++◌, map, length, slice_get, get_or, Option, Some, None, IsSome}
use Rattle.std.specs.List.{AllByRecursion}
use Rattle.sh_base.specs.declared.rules.Rule.{Rule}
use Rattle.sh_base.specs.Shape.{max_cells, max_rank}
use Rattle.sh_grid.specs.Grid.{GridValue, IsGrid}
use Rattle.sh_ir.specs.declared.modules.GridItem.{GridItem}
use Rattle.sh_ir.specs.declared.operations.Op.{Op}
use Rattle.sh_ir.specs.declared.types.ValueType.{ValueType}
use Rattle.sh_ir.specs.declared.types.ValueType.TheVariants.{Nothing, Scalar}
use Rattle.sh_ir.specs.Classes.{class_of}
use Rattle.sh_ir.specs.Formed.{is_scalar}
use Rattle.sh_ir.specs.Rules.{KeepsOps}
use Rattle.sh_ir.specs.Scope.{Scope, grid_item, value_named}
use Rattle.sh_pieces.specs.Promises.{IsLocalPart}
use Rattle.sh_sem.specs.Steps.{is_collective_class, steps_on}
use Rattle.sh_sharding.specs.Sharding.{counted_cells}
use Rattle.sh_sharding.specs.Splits.{tensor_splitting}
use Rattle.sh_iface.specs.declared.options.Follow.{Follow}
use Rattle.sh_iface.specs.declared.options.How.TheVariants.{Same}
use Rattle.sh_iface.specs.LoopNest.{Loop, LoopNest, NestDim, NestValue, shape_of, value_at}
use Rattle.sh_iface.specs.Meaning.{Meaning, operand_splits, result_split, local_type, instructions}
use Rattle.sh_iface.specs.Splits.{OptionValue, split_of}
use Rattle.sh_iface.specs.Valid.{IsValid, unsplit_loops}

-- ---- loops

abbrev pub FollowsBelow : ℕ → Option Follow → Type 0
FollowsBelow count None = Unit {0}
FollowsBelow count (Some f) = f.loop_index < count

-- within the limits of a type, and each dimension follows a loop that is there
pub record IsNestValue (count : ℕ) (value : NestValue) : Type 0 where
  pub short : length value.dims ≤ max_rank
  pub small : counted_cells (shape_of value) ≤ max_cells
  pub below : AllByRecursion (λ d. FollowsBelow count d.follow) value.dims

-- some dimension of an operand or of the result is divided as the loop is
pub record IsFollowed (nest : LoopNest) (l : ℕ) : Type 0 where
  pub value : ℕ
  pub there : value ≤ length nest.operands
  pub dim : ℕ
  pub found : NestDim
  pub at : slice_get (value_at nest value).dims dim ≡ Some found
  pub follows : found.follow ≡ Some (record { loop_index = l; how = Same })
  pub extent : (loop : Loop) → slice_get nest.loops l ≡ Some loop → loop.extent ≡ found.extent

pub record IsNest (nest : LoopNest) : Type 0 where
  pub few : length nest.loops ≤ max_rank
  pub small : AllByRecursion (λ loop. loop.extent ≤ max_cells) nest.loops
  pub values : (v : ℕ) → v ≤ length nest.operands
      → IsNestValue (length nest.loops) (value_at nest v)
  pub splittable : (l : ℕ) (loop : Loop) → slice_get nest.loops l ≡ Some loop
      → loop.splittable ≡ true → IsFollowed nest l

-- ---- rules

-- the local types of the tensor operands, and the types of the scalars
abbrev pub operand_types : Meaning → GridValue → OptionValue → List ValueType
operand_types m g o =
    map (λ value. local_type (split_of g m.nest o value)) m.nest.operands
    ++ map (λ w. Scalar w) m.scalars

-- A scope of device form on the grid, in which the operands 0, 1, .. are of these types, scalars
-- being constants, and no other name is defined.
pub record IsPartScope (g : GridValue) (types : List ValueType) (scope : Scope) : Type 0 where
  pub device : scope.device ≡ Some g.name
  pub item : GridItem
  pub grid : grid_item scope.grids g.name ≡ Some item
  pub extents : item.extents ≡ map (λ n. pos n) g.extents
  pub operands : (k : ℕ) → k < length types
      → value_named scope.values k
      ≡ Some (record {
        name = k;
        value_type = get_or types k Nothing;
        is_constant = is_scalar (get_or types k Nothing);
      })
  pub fresh : (name : ℕ) → length types ≤ name → value_named scope.values name ≡ None

abbrev pub is_local : Op → Bool
is_local op = not (is_collective_class (class_of op.kind))

-- the local type of the result is that of the last instruction
abbrev pub EndsWith : ValueType → List Op → Type 0
EndsWith type ops =
    (op : Op) → slice_get ops (length ops - 1) ≡ Some op → op.result ≡ type

-- What holds of the local part under a valid option, besides what it gives.
pub record KeepsForm (m : Meaning) (g : GridValue) (o : OptionValue) : Type 0 where
  -- its own instructions are local ones
  pub alone : AllByRecursion (λ op. is_local op ≡ true) (m.part g o).ops
  -- where the operands have their local types, all instructions keep the rules of device form
  pub keeps : (scope : Scope) (rule : Rule) → IsPartScope g (operand_types m g o) scope
      → KeepsOps rule scope (instructions m g o)
  -- the last of its own has the local type of the result, and so have the outs of a reduction
  pub typed : EndsWith (local_type (result_split m g o)) (m.part g o).ops
  pub outs : IsSome (m.part g o).combine
      → split_of g m.nest o (value_at m.nest (length m.nest.operands - 1)) ≡ result_split m g o

-- ---- the laws

pub record IsLawful (m : Meaning) : Type 0 where
  pub nest : IsNest m.nest
  -- where no loop is split the option is a valid one
  pub replicated : (g : GridValue) → IsGrid g.extents → IsValid m.nest g (unsplit_loops m.nest)
  -- under a valid option the local part keeps the rules, on the local types
  pub form : (g : GridValue) (o : OptionValue) → IsValid m.nest g o → KeepsForm m g o
  -- and makes the cut of the result of the cuts of the operands, wherever the operation isn't stuck
  pub cut : (g : GridValue) (o : OptionValue) → IsValid m.nest g o
      → IsLocalPart (steps_on g.extents) tensor_splitting m.whole (operand_splits m g o)
      (result_split m g o) (instructions m g o)
