use Rattle.std.proofs.Common.{◌≡◌, map, take, Some}
use Rattle.sh_pieces.specs.Instructions.{last_place}
use Rattle.sh_loops.proofs.placing.last_place.Given as goal

abbrev pub invariant-loop-at : goal.invariant-loop-at
invariant-loop-at l = l.found ≡ last_place (map (λ n. Some n) (take l.at l.names)) l.name
