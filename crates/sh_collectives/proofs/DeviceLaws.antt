-- The program that a function in device form is does what its instructions do by names.
use Rattle.std.proofs.Common.{ℕ, List}
use Rattle.sh_ir.specs.declared.functions.Func.{Func}
use Rattle.sh_pieces.specs.Laws.{IsByNames}
use Rattle.sh_pieces.specs.Runs.{HaveArguments}
use Rattle.sh_pieces.proofs.Bridge.{by_names}
use Rattle.sh_sem.specs.Steps.{device_function, device_program, steps_on}
use Rattle.sh_sem.proofs.Groups.{has_groups}
use Rattle.sh_tensor.specs.Tensor.{TensorValue}

pub device_by_names : (f : Func) (grid : List ℕ) (arguments : ℕ → List TensorValue) → HaveArguments (steps_on grid) (device_function f).parameters arguments
    → IsByNames (steps_on grid) (device_function f) arguments (device_program f grid arguments)
unfolding device_program
device_by_names f grid arguments counted = by_names (steps_on grid) (device_function f) arguments (has_groups grid) counted
