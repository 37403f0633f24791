use Rattle.std.proofs.Common.{◌<◌, arith}
use Rattle.sh_ir.specs.Results.{dims_at}
use Rattle.sh_verify.specs.Lists.{above_extents}
use Rattle.sh_verify.proofs.ProductLaws.{has_cells_of}
use Rattle.sh_verify.proofs.slices.has_cells.Goals as goal

pub loop-number-init : goal.loop-number-init
loop-number-init c =
    let below : c.args.count < above_extents = omega arith in
    (has_cells_of c.args.count (dims_at c.args.dims.now c.args.group.now) below, omega arith)
