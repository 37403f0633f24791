use Rattle.std.proofs.Common.{◌≡◌, Some, map, take}
use Rattle.sh_pieces.specs.Instructions.{last_place}
use Rattle.sh_pieces_demo.proofs.last_place.Given as goal

abbrev pub invariant-loop-place : goal.invariant-loop-place
invariant-loop-place l = l.found ≡ last_place (map (λ n. Some n) (take l.place l.names)) l.name
