use Rattle.std.proofs.Common.{◌≡◌, set, take}
use Rattle.sh_eval.specs.Cuts.{cut_shape}
use Rattle.sh_eval.proofs.shapes.with_extent.Given as goal

abbrev pub invariant-loop-at : goal.invariant-loop-at
invariant-loop-at l = l.all.items ≡ cut_shape (take l.at (set l.extents l.axis l.size))
