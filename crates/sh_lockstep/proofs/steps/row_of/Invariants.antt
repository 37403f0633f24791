use Rattle.sh_lockstep.specs.Rows.{AreGiven}
use Rattle.sh_lockstep.specs.Tables.{values_in}
use Rattle.sh_lockstep.proofs.steps.row_of.Given as goal

abbrev pub invariant-loop-device : goal.invariant-loop-device
invariant-loop-device l = AreGiven l.g.extents l.op (values_in l.table) l.device l.row
