use Rattle.std.proofs.Common.{◌≡◌, ◌≤◌, map, take}
use Rattle.sh_base.specs.Cells.{IsCellOf}
use Rattle.sh_sem.specs.Collected.{combined}
use Rattle.sh_collectives.proofs.CombiningLaws.{numbered}
use Rattle.sh_collectives.proofs.combining.combined_cell.Given as goal

-- the cells of the tensors so far, combined
abbrev pub invariant-loop-at : goal.invariant-loop-at
invariant-loop-at l = record {
  value : l.cell ≡ combined l.kind l.width (take l.at (numbered l.number (map (λ t. t.now) l.ts)));
  within : IsCellOf l.width l.cell;
  some : 1 ≤ l.at;
}
