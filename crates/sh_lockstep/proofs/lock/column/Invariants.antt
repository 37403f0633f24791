use Rattle.sh_lockstep.specs.Locks.{IsColumn}
use Rattle.sh_lockstep.proofs.lock.column.Given as goal

abbrev pub invariant-loop-ts : goal.invariant-loop-ts
invariant-loop-ts l = IsColumn l.args l.at l.ts-index l.row
