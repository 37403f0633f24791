use Rattle.std.proofs.Common.{◌≡◌, map, ◌*◌, ◌≤◌, drop}
use Rattle.sh_base.specs.Shape.{cell_count, max_cells}
use Rattle.sh_ir.specs.Limits.{counted_dim}
use Rattle.sh_verify.proofs.sizes.have_few_cells.Given as goal

-- the cells of the extents so far, times those to come
abbrev pub invariant-loop-dim : goal.invariant-loop-dim
invariant-loop-dim l =
    (l.count * cell_count (map counted_dim (drop l.dim-index l.dims)) ≡ cell_count (map counted_dim l.dims))
    × (l.count ≤ max_cells)
