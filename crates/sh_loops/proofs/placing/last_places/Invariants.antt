use Rattle.std.proofs.Common.{◌≡◌, map, take, Some}
use Rattle.sh_pieces.specs.Instructions.{last_place}
use Rattle.sh_loops.proofs.placing.last_places.Given as goal

abbrev pub invariant-loop-name : goal.invariant-loop-name
invariant-loop-name l = l.places.items ≡ map (last_place (map (λ n. Some n) l.names)) (take l.name-index l.wanted)
