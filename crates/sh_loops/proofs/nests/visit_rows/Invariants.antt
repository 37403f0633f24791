use Rattle.std.proofs.Common.{◌≡◌, ◌*◌, map}
use Rattle.sh_loops.specs.Rows.{HasStrides, IsFoldedTo}
use Rattle.sh_loops.proofs.nests.visit_rows.Given as goal

abbrev pub invariant-loop-number : goal.invariant-loop-number
invariant-loop-number l = record {
  strides : HasStrides l.nest l.extents (map (λ t. t.now) l.ins) l.outs l.row;
  folded : IsFoldedTo l.nest l.extents (map (λ t. t.now) l.ins) l.outs (l.number * l.row.length) l.cells.items;
}
