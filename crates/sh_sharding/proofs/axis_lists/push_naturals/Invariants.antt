use Rattle.std.proofs.Common.{◌≡◌, ◌++◌, take, map}
use Rattle.sh_sharding.specs.AxisLists.{natural}
use Rattle.sh_sharding.proofs.axis_lists.push_naturals.Given as goal

-- the numbers so far are appended
abbrev pub invariant-loop-number : goal.invariant-loop-number
invariant-loop-number l = l.out.items ≡ l.initial.out.items ++ map natural (take l.number-index l.numbers)
