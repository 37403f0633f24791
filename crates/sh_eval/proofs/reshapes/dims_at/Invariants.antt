use Rattle.std.proofs.Common.{◌≡◌, take}
use Rattle.sh_ir.specs.Numbers.{as_naturals}
use Rattle.sh_sem.specs.Reshapes.{dims_at}
use Rattle.sh_eval.proofs.reshapes.dims_at.Given as goal

abbrev pub invariant-loop-dim : goal.invariant-loop-dim
invariant-loop-dim l = l.listed.items ≡ dims_at l.dims (as_naturals (take l.dim-index l.group))
