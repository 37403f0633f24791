-- Instructions that can be done on these values of all devices.
use Rattle.std.specs.Prelude.{◌≡◌, ℕ, ◌<◌, true, false, List, map, IfSome}
use Rattle.sh_base.specs.Shape.{cell_count}
use Rattle.sh_collectives.specs.Operands.{AreGroupOperands, IsSmall, shape_collected}
use Rattle.sh_eval.specs.Devices.{group_operands}
use Rattle.sh_eval.specs.Evaluations.{CanEvaluate}
use Rattle.sh_grid.specs.Grid.{place_in}
use Rattle.sh_ir.specs.declared.operations.Op.{Op}
use Rattle.sh_pieces.specs.Instructions.{State}
use Rattle.sh_sem.specs.Steps.{axes_of, seat_of, steps_on}
use Rattle.sh_tensor.specs.Tensor.{TensorValue}
use Rattle.sh_turns.specs.Program.{all_there}

-- the operands of a group, of which a collective can make the result at a place, which is small
pub record AreCollectable (grid : List ℕ) (op : Op) (place : ℕ) (ts : List TensorValue) : Type 0 where
  pub operands : AreGroupOperands op ts
  pub small : IsSmall (shape_collected grid op place ts)

-- An instruction can be done on a device, where its operands are there: a local one on the device's,
-- a collective on those of the device's group.
pub record CanStepOn (grid : List ℕ) (op : Op) (s : State TensorValue) (device : ℕ) : Type 0 where
  pub local : (steps_on grid).is_collective op ≡ false
      → IfSome (all_there (map (s device) op.operands)) (CanEvaluate op (seat_of grid op device))
  pub collective : (steps_on grid).is_collective op ≡ true
      → IfSome (group_operands grid op s device)
      (AreCollectable grid op (place_in grid (axes_of op.kind) device))

abbrev pub CanStepOnAll : List ℕ → Op → State TensorValue → Type 0
CanStepOnAll grid op s = (c : ℕ) → c < cell_count grid → CanStepOn grid op s c
