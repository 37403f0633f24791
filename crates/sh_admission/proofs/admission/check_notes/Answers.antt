use Rattle.std.proofs.Common.{refl, subst}
use Rattle.sh_admission.specs.Faults.{NoteBreaks}
use Rattle.sh_admission.specs.Found.{OfNote, fault_of}
use Rattle.sh_admission.proofs.FoundLaws.{found_next}
use Rattle.sh_admission.proofs.admission.check_notes.Goals as goal

pub loop-op-preserved : goal.loop-op-preserved
loop-op-preserved c =
    let grids = c.args.table.now in
    let ops = c.args.ops.now in
    let broken = c.in_ok-broken.broken in
    let breaks : NoteBreaks grids ops c.op-item.result broken =
    subst (λ all. NoteBreaks grids all c.op-item.result broken) c.in_ok-notes.ensures c.in_ok-broken.ensures in
    found_next (OfNote grids ops) ops c.loop-op.op-index c.op-item.result c.args.least c.loop-op.found _
    (fault_of c.op-item.result.place broken) c.loop-op-test.true c.op-item.is c.loop-op.invariant
    (broken, breaks, refl) c.with_broken-found.ensures
