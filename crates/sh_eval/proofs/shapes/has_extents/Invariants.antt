use Rattle.std.proofs.Common.{◌≡◌, drop}
use Rattle.sh_sem.specs.Types.{have_extents}
use Rattle.sh_eval.proofs.shapes.has_extents.Given as goal

abbrev pub invariant-loop-at : goal.invariant-loop-at
invariant-loop-at l = have_extents (drop l.at l.dims) (drop l.at l.extents) ≡ have_extents l.dims l.extents
