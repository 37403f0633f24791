use Rattle.std.proofs.Common.{◌≡◌, map, take}
use Rattle.sh_lockstep.proofs.lock.copies.Given as goal

abbrev pub invariant-loop-t : goal.invariant-loop-t
invariant-loop-t l = l.out ≡ map (λ t. t.now) (take l.t-index l.ts)
