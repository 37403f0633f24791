use Rattle.std.proofs.Common.{◌≡◌, drop}
use Rattle.std.specs.List.{list_all}
use Rattle.sh_eval.specs.Slices.{ranges_in}
use Rattle.sh_sem.specs.Slices.{lies_within}
use Rattle.sh_eval.proofs.slices.are_inside.Given as goal

abbrev pub invariant-loop-range : goal.invariant-loop-range
invariant-loop-range l = list_all lies_within (ranges_in (drop l.range-index l.ranges)) ≡ list_all lies_within (ranges_in l.ranges)
