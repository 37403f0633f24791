use Rattle.sh_lockstep.specs.Behind.{IsBehind, arguments_in}
use Rattle.sh_lockstep.specs.Tables.{values_in}
use Rattle.sh_sem.specs.Steps.{device_function}
use Rattle.sh_lockstep.proofs.lock.run.Given as goal

abbrev pub invariant-loop-at : goal.invariant-loop-at
invariant-loop-at l = IsBehind l.g.extents (device_function l.f) (arguments_in l.args) l.at (values_in l.table)
