-- What the parts of a world keep.
use Rattle.std.specs.Prelude.{◌≡◌, ℕ, List, All, length, map, take}
use Rattle.sh_tensor.specs.Tensor.{TensorValue}
use Rattle.sh_turns.specs.Program.{collectives}
use Rattle.sh_world.specs.declared.scripts.Script.{Script}
use Rattle.sh_world.specs.declared.states.State.{State}
use Rattle.sh_world.specs.Machine.{IsRunnable, Source, StandsFor, WorldValue, instructions_of, program_of}
use Rattle.sh_world.specs.Scripts.{AllArePlaced}
use Rattle.sh_world.specs.States.{HasPosted, HasRoom, device_of}

-- the arguments of a device are the first of its values
abbrev pub arguments_in : ℕ → State → List TensorValue
arguments_in arity s = take arity s.values.items

abbrev pub source_of : Script → List State → Source
source_of x states = record {
  function = x.func.now;
  grid = x.grid.now;
  arguments = map (arguments_in x.arity) states;
}

abbrev pub value_of : Script → List State → WorldValue
value_of x states = record { source = source_of x states; devices = map device_of states }

pub record IsSound (x : Script) (states : List State) : Type 0 where
  pub runnable : IsRunnable (source_of x states)
  pub arity : x.arity ≡ length x.func.now.args
  pub placed : AllArePlaced (map (λ a. a.id) x.func.now.args) (instructions_of (source_of x states))
      (length (instructions_of (source_of x states))) x.instructions.items
  pub results : x.results.items ≡ (program_of (source_of x states)).results
  pub posted : All HasPosted states
  pub room : All (HasRoom (collectives (program_of (source_of x states))
      (program_of (source_of x states)).size)) states
  pub stands : (turns : List ℕ) × StandsFor (value_of x states) turns
