use Rattle.std.proofs.Common.{◌≡◌, take}
use Rattle.std.specs.Prelude.{filter_map}
use Rattle.sh_world.specs.Scripts.{places_in}
use Rattle.sh_world.proofs.places.known_places.Given as goal

abbrev pub invariant-loop-name : goal.invariant-loop-name
invariant-loop-name l = l.found.items ≡ filter_map (places_in l.places) (take l.name-index l.names)
