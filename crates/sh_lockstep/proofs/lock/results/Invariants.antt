use Rattle.sh_lockstep.specs.Locks.{AreRows}
use Rattle.sh_lockstep.specs.Tables.{values_in}
use Rattle.sh_lockstep.proofs.lock.results.Given as goal

abbrev pub invariant-loop-device : goal.invariant-loop-device
invariant-loop-device l = AreRows (values_in l.table) l.names l.device l.rows
