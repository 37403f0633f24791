-- How a function ends that is run in step, as the code answers it.
use Rattle.std.specs.Prelude.{◌≡◌, ℕ, ◌<◌, List, [], map, length, get_or, slice_get, Option, None, Some, if◌then◌else◌}
use Rattle.sh_base.specs.Shape.{cell_count}
use Rattle.sh_ir.specs.declared.operations.Op.{Op}
use Rattle.sh_lockstep.specs.declared.lock.Lock.{Lock}
use Rattle.sh_lockstep.specs.declared.lock.Lock.TheVariants as memory
use Rattle.sh_lockstep.specs.Rows.{AreGiven, IsLackingAt}
use Rattle.sh_lockstep.specs.Tables.{with_row}
use Rattle.sh_pieces.specs.Instructions.{State}
use Rattle.sh_sem.specs.Steps.{steps_on}
use Rattle.sh_tensor.specs.Tensor.{TensorValue}
use Rattle.sh_turns.specs.Lockstep.{Outcome, Done, MismatchAt, StuckAt}
use Rattle.sh_turns.specs.Program.{all_there}

-- what the code answers
abbrev pub outcome_in : Lock → Outcome TensorValue
outcome_in (memory.Done rows) = Done rows
outcome_in (memory.Stuck device op) = StuckAt op device
outcome_in (memory.Mismatch device op) = MismatchAt op device

-- the arguments with a number, on the first so many devices
pub record IsColumn (args : List (List TensorValue)) (at count : ℕ) (row : List TensorValue) : Type 0 where
  pub counted : length row ≡ count
  pub each : (c : ℕ) → c < count → slice_get row c ≡ slice_get (get_or args c []) at

-- the tensors of names on the first so many devices
pub record AreRows (s : State TensorValue) (names : List ℕ) (count : ℕ)
    (rows : List (List TensorValue)) : Type 0 where
  pub counted : length rows ≡ count
  pub each : (c : ℕ) → c < count → all_there (map (s c) names) ≡ slice_get rows c

module _ (grid : List ℕ) (op : Op) (at : ℕ) where
  -- how a function ends at this instruction for want of a value on a device
  abbrev pub fault_on : ℕ → Outcome TensorValue
  fault_on device =
      if (steps_on grid).is_collective op then MismatchAt at device else StuckAt at device

  -- the instruction is done, and its values on all devices stand under its name
  pub record IsDone (old new : State TensorValue) : Type 0 where
    pub row : List TensorValue
    pub given : AreGiven grid op old (cell_count grid) row
    pub after : new ≡ with_row op.defines row old

  -- it isn't, and the function ends so
  pub record IsEnd (lock : Lock) (old : State TensorValue) : Type 0 where
    pub device : ℕ
    pub lacking : IsLackingAt grid op old device
    pub ends : outcome_in lock ≡ fault_on device

  -- what the code says of the instruction
  abbrev pub IsStep : Option Lock → State TensorValue → State TensorValue → Type 0
  IsStep None old new = IsDone old new
  IsStep (Some lock) old new = IsEnd lock old
