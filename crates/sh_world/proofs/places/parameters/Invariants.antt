use Rattle.std.proofs.Common.{◌≡◌, map, take, Some}
use Rattle.sh_pieces.specs.Instructions.{last_place}
use Rattle.sh_world.specs.Scripts.{places_in}
use Rattle.sh_world.proofs.places.parameters.Given as goal

abbrev pub invariant-loop-at : goal.invariant-loop-at
invariant-loop-at l = places_in l.places ≡ last_place (map (λ name. Some name) (map (λ a. a.id) (take l.at l.params)))
