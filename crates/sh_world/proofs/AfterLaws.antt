-- A world in which one device has changed.
use Rattle.std.proofs.Common.{◌≡◌, ℕ, List, map, take, get_or, ap, ◌∙◌}
use Rattle.std.specs.Prelude.{slice_set}
use Rattle.std.proofs.lemmas.List.{map-set}
use Rattle.std.proofs.Math.Seq.{map-set_same}
use Rattle.sh_tensor.specs.Tensor.{TensorValue}
use Rattle.sh_turns.specs.Program.{Program}
use Rattle.sh_turns.specs.World.{Device, after, device_at, turn_of}
use Rattle.sh_world.specs.declared.states.State.{State}
use Rattle.sh_world.specs.Sound.{arguments_in}
use Rattle.sh_world.specs.States.{device_of}

module _ (states : List State) (c : ℕ) (new d : State) where
  pub devices_after : (p : Program TensorValue) → device_of new ≡ (turn_of p (map device_of states) c (device_at (map device_of states) c)).1
      → map device_of (slice_set states c new) ≡ after p (map device_of states) c
  devices_after p e = map-set device_of states c new ∙ ap (λ (x : Device TensorValue). slice_set (map device_of states) c x) e

  pub devices_stay : device_of new ≡ device_of (get_or states c d) → map device_of (slice_set states c new) ≡ map device_of states
  devices_stay e = map-set_same device_of states c new d e

  pub arguments_stay : (n : ℕ) → take n new.values.items ≡ take n (get_or states c d).values.items → map (arguments_in n) (slice_set states c new) ≡ map (arguments_in n) states
  arguments_stay n e = map-set_same (arguments_in n) states c new d e
