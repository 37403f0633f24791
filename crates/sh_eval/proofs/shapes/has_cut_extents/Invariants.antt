use Rattle.std.proofs.Common.{◌≡◌, List, ℕ, drop}
use Rattle.sh_eval.specs.Cuts.{cut_shape}
use Rattle.sh_sem.specs.Types.{have_extents}
use Rattle.sh_eval.proofs.shapes.has_cut_extents.Given as goal

abbrev pub invariant-loop-at : goal.invariant-loop-at
invariant-loop-at l = (s : List ℕ) → l.extents ≡ cut_shape s → have_extents (drop l.at l.dims) (drop l.at s) ≡ have_extents l.dims s
