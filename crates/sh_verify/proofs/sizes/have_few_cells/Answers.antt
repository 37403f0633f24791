use Rattle.std.proofs.Common.{◌≡◌, ◌*◌, ◌+◌, map, drop, arith}
use Rattle.std.proofs.lemmas.Grind.{common_steps}
use Rattle.sh_base.specs.Shape.{cell_count}
use Rattle.sh_ir.specs.Limits.{counted_dim}
use Rattle.sh_verify.proofs.CellLaws.{cells_some, too_many}
use Rattle.sh_verify.proofs.sizes.have_few_cells.Goals as goal

pub returns-then-product : goal.returns-then-product
returns-then-product c =
    let rest = cell_count (map counted_dim (drop (c.loop-dim.dim-index + 1) c.args.dims.now)) in
    let e : c.loop-dim.count * (c.counted.result * rest) ≡ cell_count (map counted_dim c.args.dims.now) =
    grind (arith, common_steps, c.loop-dim.invariant.0, c.counted.ensures.value) in
    too_many c.loop-dim.count c.counted.result rest _ e c.if-product.true (cells_some _)
