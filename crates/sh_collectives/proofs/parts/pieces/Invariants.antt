use Rattle.std.proofs.Common.{◌≡◌, map, take, length}
use Rattle.sh_sem.specs.Collected.{piece_of}
use Rattle.sh_collectives.proofs.parts.pieces.Given as goal

abbrev pub invariant-loop-at : goal.invariant-loop-at
invariant-loop-at l = l.parts.items ≡ map (piece_of l.axis (length l.ts) l.place) (take l.at (map (λ t. t.now) l.ts))
