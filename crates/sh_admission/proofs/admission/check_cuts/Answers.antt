use Rattle.std.proofs.Common.{refl}
use Rattle.sh_admission.specs.Found.{OfCut, fault_of}
use Rattle.sh_admission.proofs.FoundLaws.{found_next}
use Rattle.sh_admission.proofs.admission.check_cuts.Goals as goal

pub loop-cut-preserved : goal.loop-cut-preserved
loop-cut-preserved c =
    found_next (OfCut c.args.table.now c.args.place) c.args.cuts.now c.loop-cut.cut-index c.cut-item.result c.args.least c.loop-cut.found _
    (fault_of c.args.place c.in_ok-broken.broken) c.loop-cut-test.true c.cut-item.is c.loop-cut.invariant
    (c.in_ok-broken.broken, c.in_ok-broken.ensures, refl) c.with_broken-found.ensures
