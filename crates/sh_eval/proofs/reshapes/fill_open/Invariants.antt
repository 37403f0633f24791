use Rattle.std.proofs.Common.{◌≡◌, ◌++◌, drop}
use Rattle.sh_eval.specs.Cuts.{cut_shape}
use Rattle.sh_sem.specs.Reshapes.{with_open}
use Rattle.sh_eval.proofs.reshapes.fill_open.Given as goal

abbrev pub invariant-loop-dim : goal.invariant-loop-dim
invariant-loop-dim l = l.all.items ++ cut_shape (with_open l.filler (drop l.dim-index l.dims)) ≡ l.initial.all.items ++ cut_shape (with_open l.filler l.dims)
