use Rattle.std.proofs.Common.{subst, sym}
use Rattle.std.specs.Prelude.{None}
use Rattle.sh_admission.specs.Found.{AreFuncFaults, IsReadyFunc}
use Rattle.sh_admission.proofs.FoundLaws.{found_next}
use Rattle.sh_admission.proofs.admission.check_funcs.Goals as goal

pub check_func-requires : goal.check_func-requires
check_func-requires c = subst IsReadyFunc (sym c.f-item.is) (c.requires c.loop-f.f-index c.f-item.result c.loop-f-test.true)

pub loop-f-preserved : goal.loop-f-preserved
loop-f-preserved c =
    let own = c.in_ok-found.ensures in
    found_next (AreFuncFaults c.args.table.now) c.args.funcs.now c.loop-f.f-index c.f-item.result None c.loop-f.found _
    own.0 c.loop-f-test.true c.f-item.is c.loop-f.invariant own.1 own.2
