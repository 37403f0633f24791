use Rattle.std.proofs.Common.{◌≡◌, map, take}
use Rattle.sh_loops.specs.Rows.{row_cells}
use Rattle.sh_loops.proofs.visits.gather.Given as goal

abbrev pub invariant-loop-at : goal.invariant-loop-at
invariant-loop-at l = l.cells.items ≡ take l.at (row_cells (map (λ t. t.now) l.ins) l.row.firsts.items l.row.strides.items l.k)
