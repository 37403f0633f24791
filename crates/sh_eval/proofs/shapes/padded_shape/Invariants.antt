use Rattle.std.proofs.Common.{◌≡◌, ◌++◌, drop}
use Rattle.sh_eval.specs.Cuts.{cut_shape}
use Rattle.sh_ir.specs.Numbers.{as_naturals}
use Rattle.sh_sem.specs.Pieces.{padded_shape}
use Rattle.sh_eval.proofs.shapes.padded_shape.Given as goal

abbrev pub invariant-loop-at : goal.invariant-loop-at
invariant-loop-at l =
    l.all.items ++ cut_shape (padded_shape (as_naturals (drop l.at l.low)) (as_naturals (drop l.at l.high)) (drop l.at l.extents))
    ≡ cut_shape (padded_shape (as_naturals l.low) (as_naturals l.high) l.extents)
