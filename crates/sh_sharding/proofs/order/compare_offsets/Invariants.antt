use Rattle.std.specs.Ordering.{nat_cmp}
use Rattle.sh_sharding.specs.Order.{viewed_offsets}
use Rattle.sh_sharding.proofs.OrderLaws.{IsCompared}
use Rattle.sh_sharding.proofs.order.compare_offsets.Given as goal

-- the offsets so far are equal
abbrev pub invariant-loop-part : goal.invariant-loop-part
invariant-loop-part l = IsCompared nat_cmp (viewed_offsets l.parts l.a) (viewed_offsets l.parts l.b) l.part
