use Rattle.std.proofs.Common.{◌≡◌, ◌+◌, ◌-◌, get_or}
use Rattle.std.specs.Prelude.{pos}
use Rattle.sh_sharding.specs.AxisLists.{natural}
use Rattle.sh_sharding.specs.Sharding.{largest_to}
use Rattle.sh_choose.proofs.weighing.longest_part.Given as goal

-- the longest of the parts so far
abbrev pub invariant-loop-i : goal.invariant-loop-i
invariant-loop-i l = l.longest ≡ largest_to (λ i. natural (get_or l.starts (i + 1) (pos 0)) - natural (get_or l.starts i (pos 0))) l.i
