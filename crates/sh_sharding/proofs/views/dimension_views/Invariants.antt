use Rattle.sh_sharding.proofs.ViewLaws.{IsViewing}
use Rattle.sh_sharding.proofs.views.dimension_views.Given as goal

abbrev pub invariant-loop-at : goal.invariant-loop-at
invariant-loop-at l = IsViewing l.dimensions l.at l.views
