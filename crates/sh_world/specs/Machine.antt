-- A function in device form on the devices of a grid, as the machine of turns runs it, and the lists
-- of turns for which a world stands.
use Rattle.std.specs.Prelude.{◌≡◌, ℕ, List, [], All, length, Option, Some, slice_get, slice_index_or}
use Rattle.sh_base.specs.Shape.{cell_count}
use Rattle.sh_collectives.specs.DeviceForms.{IsInOrder}
use Rattle.sh_grid.specs.Grid.{GridValue}
use Rattle.sh_ir.specs.declared.functions.Func.{Func}
use Rattle.sh_ir.specs.declared.operations.Op.{Op}
use Rattle.sh_ir.specs.declared.operations.OpKind.TheVariants.{UpdateHalo}
use Rattle.sh_ir.specs.declared.shard_ops.UpdateHalo as declared_halo
use Rattle.sh_pieces.specs.Instructions.{names_before}
use Rattle.sh_sem.specs.Steps.{device_function, device_program, steps_on}
use Rattle.sh_tensor.specs.Tensor.{TensorValue}
use Rattle.sh_turns.specs.Program.{Program}
use Rattle.sh_turns.specs.World.{World, run, start}

-- a function in device form on a grid, with the arguments of each device
pub record Source : Type 0 where
  pub function : Func
  pub grid : GridValue
  pub arguments : List (List TensorValue)

-- the program that the devices run
abbrev pub program_of : Source → Program TensorValue
program_of s =
    device_program s.function s.grid.extents (λ device. slice_index_or s.arguments device [])

-- its instructions: the operations but the return
abbrev pub instructions_of : Source → List Op
instructions_of s = (device_function s.function).instructions

-- the names of the parameters and of the values before instruction k
abbrev pub names_at : Source → ℕ → List (Option ℕ)
names_at s k = names_before (steps_on s.grid.extents) (device_function s.function) k

-- a world as contracts see it: what its devices run, and the devices
pub record WorldValue : Type 0 where
  pub source : Source
  pub devices : World TensorValue

-- the devices of the machine after a list of turns
abbrev pub IsAfter : Source → List ℕ → World TensorValue → Type 0
IsAfter s turns devices = run (program_of s) (start (program_of s)) turns ≡ Some devices

-- a world stands for a list of turns
abbrev pub StandsFor : WorldValue → List ℕ → Type 0
StandsFor m turns = IsAfter m.source turns m.devices

-- this is so of the machine's devices after each list of turns for which the world stands
abbrev pub AfterTurns : WorldValue → (World TensorValue → Type 0) → Type 0
AfterTurns m Holds =
    (turns : List ℕ) (devices : World TensorValue) → StandsFor m turns
    → IsAfter m.source turns devices → Holds devices

-- what is asked of an instruction behind values of these names
pub record IsInstruction (grid : List ℕ) (names : List (Option ℕ)) (op : Op) : Type 0 where
  pub order : IsInOrder grid names op
  -- what an exchange of halos gives isn't described yet
  pub described : (x : declared_halo.UpdateHalo) → op.kind ≡ UpdateHalo x → ⊥

-- what devices can run, as those of verified functions do: each device has an argument for each
-- parameter
pub record IsRunnable (s : Source) : Type 0 where
  pub instructions : (k : ℕ) (op : Op) → slice_get (instructions_of s) k ≡ Some op
      → IsInstruction s.grid.extents (names_at s k) op
  pub devices : length s.arguments ≡ cell_count s.grid.extents
  pub arguments : All (λ ts. length ts ≡ length s.function.args) s.arguments
