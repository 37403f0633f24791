use Rattle.std.proofs.Common.{◌≡◌, map, take}
use Rattle.sh_collectives.proofs.parts.borrow.Given as goal

abbrev pub invariant-loop-at : goal.invariant-loop-at
invariant-loop-at l = map (λ t. t.now) l.borrowed.items ≡ take l.at l.ts
