use Rattle.std.proofs.Common.{◌≡◌, ◌≤◌, ◌*◌, drop}
use Rattle.sh_eval.specs.Cuts.{cut_extent}
use Rattle.sh_sem.specs.Reshapes.{known_product}
use Rattle.sh_eval.proofs.reshapes.known_product.Given as goal

abbrev pub invariant-loop-at : goal.invariant-loop-at
invariant-loop-at l = record {
  value : cut_extent (l.total * known_product (drop l.at l.dims)) ≡ cut_extent (known_product l.dims);
  small : l.total ≤ 340282366920938463463374607431768211455;
}
