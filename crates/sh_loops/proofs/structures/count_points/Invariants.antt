use Rattle.std.proofs.Common.{◌≡◌, take, min}
use Rattle.sh_base.specs.Shape.{cell_count}
use Rattle.sh_loops.proofs.structures.count_points.Given as goal

abbrev pub invariant-loop-extent : goal.invariant-loop-extent
invariant-loop-extent l = l.total ≡ min (cell_count (take l.extent-index l.extent-items)) 340282366920938463463374607431768211455
