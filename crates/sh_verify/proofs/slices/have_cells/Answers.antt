use Rattle.std.proofs.Common.{◌<◌, arith}
use Rattle.sh_verify.specs.Lists.{above_extents}
use Rattle.sh_verify.proofs.ProductLaws.{has_cells_of}
use Rattle.sh_verify.proofs.slices.have_cells.Goals as goal

pub loop-dim-init : goal.loop-dim-init
loop-dim-init c =
    let below : c.args.count < above_extents = omega arith in
    (has_cells_of c.args.count c.args.dims.now below, omega arith)
