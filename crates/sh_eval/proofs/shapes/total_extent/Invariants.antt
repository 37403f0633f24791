use Rattle.std.proofs.Common.{◌≡◌, ◌≤◌, ◌+◌, drop, map}
use Rattle.sh_eval.specs.Cuts.{cut_extent}
use Rattle.sh_sem.specs.Pieces.{total_extent}
use Rattle.sh_eval.proofs.shapes.total_extent.Given as goal

abbrev pub invariant-loop-at : goal.invariant-loop-at
invariant-loop-at l = record {
  value : cut_extent (l.total + total_extent l.axis (drop l.at (map (λ t. t.shape) (map (λ t. t.now) l.ts)))) ≡ cut_extent (total_extent l.axis (map (λ t. t.shape) (map (λ t. t.now) l.ts)));
  small : l.total ≤ 340282366920938463463374607431768211455;
}
