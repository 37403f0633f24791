use Rattle.std.proofs.Common.{◌≡◌, map}
use Rattle.std.specs.List.{All, range_with_len}
use Rattle.sh_base.specs.Cells.{IsCellOf}
use Rattle.sh_sem.specs.Collected.{combined}
use Rattle.sh_collectives.proofs.CombiningLaws.{numbered}
use Rattle.sh_collectives.proofs.combining.combined_cells.Given as goal

abbrev pub invariant-loop-number : goal.invariant-loop-number
invariant-loop-number l = record {
  value : l.cells.items ≡ map (λ k. combined l.kind l.width (numbered k (map (λ t. t.now) l.ts))) (range_with_len 0 l.number);
  within : All (IsCellOf l.width) l.cells.items;
}
