use Rattle.sh_sharding.proofs.ViewAdmissionLaws.{IsTimes}
use Rattle.sh_sharding.proofs.admitted.times_in.Given as goal

abbrev pub invariant-loop-view : goal.invariant-loop-view
invariant-loop-view l = IsTimes l.views l.axis l.view-index l.times
