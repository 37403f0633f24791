use Rattle.sh_sharding.proofs.ViewLaws.{IsCopied}
use Rattle.sh_sharding.proofs.views.AxisList.new.Given as goal

abbrev pub invariant-loop-at : goal.invariant-loop-at
invariant-loop-at l = IsCopied l.axes l.at l.list.axes l.list.count
