use Rattle.sh_iface.specs.ImpliedViews.{AreImpliedViews}
use Rattle.sh_iface.specs.LoopNest.{value_at}
use Rattle.sh_iface.proofs.viewing.implied_views.Given as goal

abbrev pub invariant-loop-dim : goal.invariant-loop-dim
invariant-loop-dim g l =
    let nest = (g.O.HasLoops.meaning l.op).nest in
    AreImpliedViews nest l.o (value_at nest l.v) l.dim l.views
