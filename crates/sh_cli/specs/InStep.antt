-- The part of the headline that speaks of running in step, for the one form.
use Rattle.std.specs.Prelude.{◌≡◌, ℕ, ◌/◌, List, [], ◌∷◌, map, Some}
use Rattle.std.specs.List.{range_with_len}
use Rattle.sh_ir.specs.Shapes.{argument_types}
use Rattle.sh_tensor.specs.Tensor.{TensorValue}
use Rattle.sh_sharding.specs.Carried.{cuts_of, grid_of}
use Rattle.sh_sem.specs.Meaning.{means}
use Rattle.sh_sem.specs.Steps.{device_program}
use Rattle.sh_sem.specs.Types.{AreOfTypes}
use Rattle.sh_turns.specs.Lockstep.{Outcome, Done, lockstep}
use Rattle.sh_cli.specs.Modules.{carry_of, device_func, line_of_devices, source_func}

-- the cuts of these arguments, by device
abbrev pub argument_cuts : ℕ → ℕ → List TensorValue → ℕ → List TensorValue
argument_cuts extent devices = cuts_of (grid_of (line_of_devices devices)) (carry_of extent).args

-- how the device function ends in step, started on them
abbrev pub ends_in_step : ℕ → ℕ → List TensorValue → Outcome TensorValue
ends_in_step extent devices arguments =
    lockstep (device_program (device_func extent (extent / devices)) (devices ∷ [])
    (argument_cuts extent devices arguments))

-- the cuts of these results, by device
abbrev pub result_cuts : ℕ → ℕ → List TensorValue → List (List TensorValue)
result_cuts extent devices results =
    map (cuts_of (grid_of (line_of_devices devices)) (carry_of extent).results results)
    (range_with_len 0 devices)

-- The device function of the one form, started on the cuts of any arguments, runs in step to its end
-- and leaves each device the cut of the sum, which is there for all arguments.
abbrev pub StepsToSum : ℕ → ℕ → Type 0
StepsToSum extent devices =
    (arguments : List TensorValue)
    → AreOfTypes (argument_types (source_func extent)) arguments
    → (results : List TensorValue)
    × (means (source_func extent) arguments ≡ Some results)
    × (ends_in_step extent devices arguments ≡ Done (result_cuts extent devices results))
