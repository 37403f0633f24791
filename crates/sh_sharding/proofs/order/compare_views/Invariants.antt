use Rattle.sh_sharding.specs.Order.{dimension_view_order}
use Rattle.sh_sharding.proofs.OrderLaws.{IsCompared}
use Rattle.sh_sharding.proofs.order.compare_views.Given as goal

-- the dimensions so far are equal
abbrev pub invariant-loop-at : goal.invariant-loop-at
invariant-loop-at l = IsCompared (dimension_view_order l.g.extents) l.a l.b l.at
