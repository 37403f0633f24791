use Rattle.std.proofs.Common.{◌≡◌, ◌++◌, drop, map}
use Rattle.std.specs.Prelude.{option_map}
use Rattle.sh_turns.specs.Program.{all_there}
use Rattle.sh_world.specs.Scripts.{places_in}
use Rattle.sh_world.proofs.places.places_of.Given as goal

abbrev pub invariant-loop-name : goal.invariant-loop-name
invariant-loop-name l =
    option_map (λ more. l.found.items ++ more) (all_there (map (places_in l.places) (drop l.name-index l.names)))
    ≡ all_there (map (places_in l.places) l.names)
