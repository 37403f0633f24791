use Rattle.std.proofs.Common.{◌≡◌, ◌≤◌, ◌*◌, drop}
use Rattle.sh_base.specs.Shape.{cell_count}
use Rattle.sh_eval.specs.Cuts.{cut_extent}
use Rattle.sh_ir.specs.Numbers.{as_naturals}
use Rattle.sh_sem.specs.Reshapes.{extents_at}
use Rattle.sh_eval.proofs.reshapes.product_at.Given as goal

abbrev pub invariant-loop-at : goal.invariant-loop-at
invariant-loop-at l = record {
  value : cut_extent (l.total * cell_count (extents_at l.extents (as_naturals (drop l.at l.group)))) ≡ cut_extent (cell_count (extents_at l.extents (as_naturals l.group)));
  small : l.total ≤ 340282366920938463463374607431768211455;
}
