use Rattle.std.proofs.Common.{◌≡◌, map}
use Rattle.std.specs.Prelude.{All}
use Rattle.sh_turns.specs.World.{fresh}
use Rattle.sh_world.specs.States.{device_of, HasPosted, HasRoom}
use Rattle.sh_world.proofs.states.start_states.Given as goal

abbrev pub invariant-loop-row : goal.invariant-loop-row
invariant-loop-row l = record {
  values : map (λ s. s.values.items) l.states.items ≡ l.yielded;
  devices : map device_of l.states.items ≡ map fresh l.yielded;
  posted : All HasPosted l.states.items;
  room : All (HasRoom l.posts) l.states.items;
}
