use Rattle.std.proofs.Common.{◌≡◌, drop}
use Rattle.sh_ir.specs.Numbers.{as_naturals}
use Rattle.sh_sem.specs.Pieces.{is_own}
use Rattle.sh_eval.proofs.pieces.is_own.Given as goal

abbrev pub invariant-loop-at : goal.invariant-loop-at
invariant-loop-at l = is_own (as_naturals (drop l.at l.low)) (drop l.at l.extents) (drop l.at l.index) ≡ is_own (as_naturals l.low) l.extents l.index
