-- What an instruction gives on all devices.
use Rattle.std.specs.Prelude.{◌≡◌, ℕ, ◌<◌, List, length, slice_get, IsSome, None}
use Rattle.sh_ir.specs.declared.operations.Op.{Op}
use Rattle.sh_pieces.specs.Instructions.{State, gives}
use Rattle.sh_sem.specs.Steps.{steps_on}
use Rattle.sh_base.specs.Shape.{cell_count}
use Rattle.sh_tensor.specs.Tensor.{TensorValue}
use Rattle.sh_lockstep.specs.declared.steps.Row.{Row}
use Rattle.sh_lockstep.specs.declared.steps.Row.TheVariants.{Values, Lacking}

module _ (grid : List ℕ) (op : Op) (s : State TensorValue) where
  -- its values on the first so many devices
  pub record AreGiven (count : ℕ) (row : List TensorValue) : Type 0 where
    pub counted : length row ≡ count
    pub each : (c : ℕ) → c < count → gives (steps_on grid) op s c ≡ slice_get row c

  -- the first device on which it has none
  pub record IsLackingAt (device : ℕ) : Type 0 where
    pub there : device < cell_count grid
    pub lacks : gives (steps_on grid) op s device ≡ None
    pub lower : (c : ℕ) → c < device → IsSome (gives (steps_on grid) op s c)

  abbrev pub IsRow : Row → Type 0
  IsRow (Values row) = AreGiven (cell_count grid) row
  IsRow (Lacking device) = IsLackingAt device
