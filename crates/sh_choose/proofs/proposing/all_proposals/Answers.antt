use Rattle.std.proofs.Common.{sym, subst, map}
use Rattle.std.specs.List.{range_with_len}
use Rattle.sh_choose.specs.Proposals.{proposals}
use Rattle.sh_choose.specs.Thinned.{AreThinned}
use Rattle.sh_choose.proofs.ThinnedLaws.{more_loops}
use Rattle.sh_choose.proofs.proposing.all_proposals.Goals as goal

pub loop-l-preserved : goal.loop-l-preserved
loop-l-preserved g c =
    let by = proposals (g.O.HasLoops.meaning c.args.op.now).nest c.args.known.now in
    subst (AreThinned (map by (range_with_len 0 _))) (sym c.in_ok-push.ensures.ok) (more_loops by c.loop-l.l c.loop-l.all c.in_ok-one.one c.loop-l.invariant c.in_ok-one.ensures)
