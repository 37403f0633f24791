use Rattle.std.proofs.Common.{◌≡◌, ◌≤◌, ◌+◌, drop}
use Rattle.sh_sem.specs.Reshapes.{open_count}
use Rattle.sh_eval.proofs.reshapes.open_count.Given as goal

abbrev pub invariant-loop-dim : goal.invariant-loop-dim
invariant-loop-dim l = record {
  value : l.count + open_count (drop l.dim-index l.dims) ≡ open_count l.dims;
  below : l.count ≤ l.dim-index;
}
