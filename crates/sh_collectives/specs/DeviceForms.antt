-- Functions in device form that keep the limits and the rules, and what each of their instructions
-- then keeps wherever it is run.
use Rattle.std.specs.Prelude.{◌≡◌, ℕ, ◌<◌, true, List, length, map, Option, Some, IsSome, slice_get}
use Rattle.sh_base.specs.declared.rules.Rule.{Rule}
use Rattle.sh_grid.specs.Grid.{AreAxesOf}
use Rattle.sh_ir.specs.declared.functions.Carry.{Carry}
use Rattle.sh_ir.specs.declared.functions.Func.{Func}
use Rattle.sh_ir.specs.declared.modules.GridItem.{GridItem}
use Rattle.sh_ir.specs.declared.modules.Module.{Module}
use Rattle.sh_ir.specs.declared.operations.Op.{Op}
use Rattle.sh_ir.specs.declared.operations.OpKind.TheVariants.{UpdateHalo}
use Rattle.sh_ir.specs.declared.shard_ops.UpdateHalo as declared_halo
use Rattle.sh_ir.specs.Classes.{class_of}
use Rattle.sh_ir.specs.Faults.{KeepsModule}
use Rattle.sh_ir.specs.Formed.{IsFormed}
use Rattle.sh_ir.specs.Numbers.{as_naturals}
use Rattle.sh_ir.specs.Scope.{grid_item}
use Rattle.sh_pieces.specs.Instructions.{last_place, names_before}
use Rattle.sh_sem.specs.Steps.{axes_of, device_function, is_collective_class, steps_on}
use Rattle.sh_turns.specs.Program.{all_there}

-- a function of a module that is formed and keeps the limits and the rules
pub record IsVerifiedFunc (f : Func) : Type 0 where
  pub whole : Module
  pub formed : IsFormed whole
  pub keeps : (rule : Rule) → KeepsModule rule whole
  pub place : ℕ
  pub stands : slice_get whole.funcs place ≡ Some f

-- a function in device form of such a module, carried on a grid of these extents
pub record IsOfDevice (f : Func) (grid : List ℕ) : Type 0 where
  pub verified : IsVerifiedFunc f
  pub carry : Carry
  pub carried : f.carry ≡ Some carry
  pub item : GridItem
  pub named : grid_item verified.whole.grids carry.grid ≡ Some item
  pub extents : grid ≡ as_naturals item.extents

-- ---- its instructions

-- an instruction behind values of these names
pub record IsInOrder (grid : List ℕ) (names : List (Option ℕ)) (op : Op) : Type 0 where
  -- its operands are among them
  pub known : IsSome (all_there (map (last_place names) op.operands))
  -- a collective has an operand
  pub some : is_collective_class (class_of op.kind) ≡ true → 0 < length op.operands
  -- it stands along axes of the grid
  pub axes : AreAxesOf (length grid) (axes_of op.kind)

abbrev pub AreInOrder : Func → List ℕ → Type 0
AreInOrder f grid =
    (k : ℕ) (op : Op) → slice_get (device_function f).instructions k ≡ Some op
    → IsInOrder grid (names_before (steps_on grid) (device_function f) k) op

-- no instruction exchanges halos: what that gives isn't described yet
abbrev pub HasNoExchange : Func → Type 0
HasNoExchange f =
    (k : ℕ) (op : Op) (x : declared_halo.UpdateHalo)
    → slice_get (device_function f).instructions k ≡ Some op → op.kind ≡ UpdateHalo x → ⊥
