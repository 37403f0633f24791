use Rattle.std.proofs.Common.{◌≡◌, ◌+◌, ◌*◌, ◌≤◌, drop, map}
use Rattle.sh_sem.specs.Pieces.{total_extent}
use Rattle.sh_collectives.proofs.members.total_extent.Given as goal

abbrev pub invariant-loop-shape : goal.invariant-loop-shape
invariant-loop-shape l = record {
  value : l.total + total_extent l.axis (map (λ s. s.now) (drop l.shape-index l.shapes)) ≡ total_extent l.axis (map (λ s. s.now) l.shapes);
  small : l.total ≤ l.shape-index * 18446744073709551616;
}
