-- What a turn asks of its operands, and what it does to a device.
use Rattle.std.specs.Prelude.{◌≡◌, ℕ, ◌+◌, ◌-◌, ◌^◌, ◌<◌, List, length, map, Option, Some, slice_get, true, false, vec_len, vec_capacity}
use Rattle.sh_collectives.specs.Operands.{AreGroupOperands, IsSmall, shape_collected}
use Rattle.sh_grid.specs.Grid.{group_of, place_in}
use Rattle.sh_ir.specs.declared.operations.Op.{Op}
use Rattle.sh_ir.specs.Classes.{class_of}
use Rattle.sh_pieces.specs.Instructions.{value_under}
use Rattle.sh_sem.specs.Steps.{axes_of, is_collective_class}
use Rattle.sh_tensor.specs.Tensor.{TensorValue}
use Rattle.sh_turns.specs.declared.Turn.{Turn}
use Rattle.sh_turns.specs.declared.Turn.TheVariants.{Local, Posted, Took}
use Rattle.sh_turns.specs.Program.{all_there, there}
use Rattle.sh_turns.specs.World.{Device, World, device_at, no_longer_waiting, posted_for, with_post, with_value}
use Rattle.sh_world.specs.declared.states.State.{State}
use Rattle.sh_world.specs.declared.turning.Step.{Step}
use Rattle.sh_world.specs.declared.turning.Step.TheVariants.{Gives, Takes, Posts, Stops}
use Rattle.sh_world.specs.Machine.{Source, instructions_of, names_at}
use Rattle.sh_world.specs.States.{device_of, tensor_at}

-- ---- what is asked

-- the operands of an instruction on a device, if it has all
abbrev pub operands_on : Source → Device TensorValue → Op → Option (List TensorValue)
operands_on s d op = all_there (map (value_under (names_at s d.next) (there d.values)) op.operands)

-- what the group of a device posted to an instruction by posts of this number, if all did
abbrev pub posted_in : List ℕ → Op → ℕ → ℕ → ℕ → World TensorValue → Option (List TensorValue)
posted_in grid op c instruction number w =
    all_there (map (λ m. posted_for instruction (slice_get (device_at w m).posts number))
    (group_of grid (axes_of op.kind) c))

-- tensors of a group that a collective can collect at a place, and what it gives has few cells
pub record CanTake (op : Op) (grid : List ℕ) (ts : List TensorValue) (place : ℕ) : Type 0 where
  pub operands : AreGroupOperands op ts
  pub small : IsSmall (shape_collected grid op place ts)

-- the operands of a device's turn are ones that it can take
pub record CanTurn (can : Op → List ℕ → ℕ → List TensorValue → Type 0) (s : Source)
    (w : World TensorValue) (c : ℕ) : Type 0 where
  pub steps : (op : Op) (ts : List TensorValue)
      → slice_get (instructions_of s) (device_at w c).next ≡ Some op
      → is_collective_class (class_of op.kind) ≡ false
      → operands_on s (device_at w c) op ≡ Some ts → can op s.grid.extents c ts
  pub takes : (op : Op) (ts : List TensorValue)
      → slice_get (instructions_of s) (device_at w c).next ≡ Some op
      → (device_at w c).waits ≡ true
      → posted_in s.grid.extents op c (device_at w c).next (length (device_at w c).posts - 1) w
      ≡ Some ts
      → CanTake op s.grid.extents ts (place_in s.grid.extents (axes_of op.kind) c)

-- ---- what it does

-- the turn, and the device after it
abbrev pub step_of : State → Step → Turn × Device TensorValue
step_of s (Gives t) = (Local, with_value (device_of s) t)
step_of s (Takes t) = (Took, no_longer_waiting (with_value (device_of s) t))
step_of s (Posts place) = (Posted, with_post (device_of s) (tensor_at s.values.items place))
step_of s (Stops turn) = (turn, device_of s)

-- there is a number for the next instruction; what is posted is there, and there is room for it
abbrev pub CanMake : State → Step → Type 0
CanMake s (Gives t) = s.next + 1 < 2 ^ 64
CanMake s (Takes t) = s.next + 1 < 2 ^ 64
CanMake s (Posts place) =
    (place < length s.values.items) × (vec_len s.posts < vec_capacity s.posts)
CanMake s (Stops turn) = Unit {0}
