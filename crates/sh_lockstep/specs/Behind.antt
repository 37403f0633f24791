-- How far a function has been run in step, and what is asked of it there.
use Rattle.std.specs.Prelude.{◌≡◌, ℕ, ◌<◌, ◌≤◌, List, [], All, length, get_or, slice_get, IsSome, Some}
use Rattle.sh_base.specs.Shape.{cell_count}
use Rattle.sh_grid.specs.Grid.{AreAxesOf}
use Rattle.sh_ir.specs.declared.functions.Func.{Func}
use Rattle.sh_ir.specs.declared.operations.Op.{Op}
use Rattle.sh_pieces.specs.Instructions.{DeviceFunction, Semantics, State, gives}
use Rattle.sh_pieces.specs.Runs.{ResultsAreKnown, state_before}
use Rattle.sh_sem.specs.Steps.{axes_of, device_function, steps_on}
use Rattle.sh_tensor.specs.Tensor.{TensorValue}
use Rattle.sh_lockstep.specs.Groups.{HasOneList}
use Rattle.sh_lockstep.specs.Steps.{CanStepOnAll}

-- values that are one on all devices
abbrev pub AreAlike : {V I : Type 0} → Semantics V I → State V → State V → Type 0
AreAlike sem s t = (c name : ℕ) → c < sem.devices → s c name ≡ t c name

-- the first k instructions have been done, and these are the values behind them
pub record IsBehind (grid : List ℕ) (f : DeviceFunction Op) (arguments : ℕ → List TensorValue) (k : ℕ)
    (s : State TensorValue) : Type 0 where
  pub within : k ≤ length f.instructions
  pub alike : AreAlike (steps_on grid) s (state_before (steps_on grid) f arguments k)
  pub there : (i c : ℕ) (op : Op) → i < k → slice_get f.instructions i ≡ Some op
      → c < cell_count grid
      → IsSome (gives (steps_on grid) op (state_before (steps_on grid) f arguments i) c)

-- the arguments of a device
abbrev pub arguments_in : List (List TensorValue) → ℕ → List TensorValue
arguments_in args c = get_or args c []

-- A function in device form that can be run in step on these arguments of the devices of a grid.
pub record CanLock (f : Func) (grid : List ℕ) (args : List (List TensorValue)) : Type 0 where
  pub counted : length args ≡ cell_count grid
  pub arguments : All (λ ts. length ts ≡ length f.args) args
  pub known : ResultsAreKnown (steps_on grid) (device_function f)
  -- the groups of its instructions stand along axes of the grid
  pub lists : (k : ℕ) (op : Op) → slice_get (device_function f).instructions k ≡ Some op
      → HasOneList op.kind
  pub axes : (k : ℕ) (op : Op) → slice_get (device_function f).instructions k ≡ Some op
      → AreAxesOf (length grid) (axes_of op.kind)
  -- and each can be done where it is reached
  pub can : (k : ℕ) (op : Op) (s : State TensorValue)
      → slice_get (device_function f).instructions k ≡ Some op
      → IsBehind grid (device_function f) (arguments_in args) k s → CanStepOnAll grid op s
