use Rattle.std.proofs.Common.{◌≡◌, take}
use Rattle.sh_loops.specs.Folds.{coordinate_of}
use Rattle.sh_loops.proofs.points.coordinate.Given as goal

abbrev pub invariant-loop-at : goal.invariant-loop-at
invariant-loop-at l = l.total ≡ coordinate_of l.point (take l.at-index l.loops)
