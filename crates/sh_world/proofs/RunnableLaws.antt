-- Devices can run a verified function in device form.
use Rattle.std.proofs.Common.{◌≡◌, List, length}
use Rattle.std.specs.Prelude.{All}
use Rattle.sh_base.specs.Shape.{cell_count}
use Rattle.sh_collectives.proofs.InstructionLaws.{in_order}
use Rattle.sh_collectives.specs.DeviceForms.{HasNoExchange, IsOfDevice}
use Rattle.sh_tensor.specs.Tensor.{TensorValue}
use Rattle.sh_world.specs.Machine.{IsRunnable, Source}

pub is_runnable : (s : Source) → IsOfDevice s.function s.grid.extents → HasNoExchange s.function
    → length s.arguments ≡ cell_count s.grid.extents
    → All (λ (ts : List TensorValue). length ts ≡ length s.function.args) s.arguments → IsRunnable s
is_runnable s d plain devices arguments = record {
  instructions = λ k op at.
      record { order = in_order s.function s.grid.extents d k op at; described = λ x is. plain k op x at is };
  devices = devices;
  arguments = arguments;
}
