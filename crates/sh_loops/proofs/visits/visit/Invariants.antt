use Rattle.std.proofs.Common.{◌≡◌, ◌+◌, ℕ, map}
use Rattle.sh_base.specs.Shape.{unflat_of}
use Rattle.sh_loops.specs.Rows.{IsFoldedTo, with_last}
use Rattle.sh_loops.proofs.visits.visit.Given as goal

abbrev pub invariant-loop-k : goal.invariant-loop-k
invariant-loop-k l = record {
  folded : IsFoldedTo l.nest l.extents (map (λ t. t.now) l.ins) l.outs (l.row.start + l.k) l.cells.items;
  point : (z : ℕ) → with_last l.coordinates.items z ≡ with_last (unflat_of l.extents l.row.start) z;
}
