use Rattle.std.proofs.Common.{◌≡◌, ◌++◌, drop}
use Rattle.sh_sharding.specs.AxisLists.{listed}
use Rattle.sh_sharding.proofs.axis_lists.listed_dimensions.Given as goal

-- the dimensions so far, and those to come
abbrev pub invariant-loop-at : goal.invariant-loop-at
invariant-loop-at l = l.dimensions.items ++ listed (drop l.at l.lists) (drop l.at l.s) ≡ listed l.lists l.s
