use Rattle.std.proofs.Common.{◌≡◌, ◌≤◌, ◌∙◌, ap, arith, get_or}
use Rattle.sh_base.specs.Shape.{max_cells}
use Rattle.sh_ir.specs.Numbers.{as_naturals}
use Rattle.sh_iface_tensor.proofs.SliceNest.{size_small}
use Rattle.sh_iface_tensor.proofs.slice_iface.size_at.Goals as goal

pub overflow_cast-result : goal.overflow_cast-result
overflow_cast-result c =
    let small : get_or (as_naturals c.args.x.now.slice.now.sizes) c.args.dim 0 ≤ max_cells = size_small c.args.x.now.kind c.args.x.now.slice.now c.args.x.now.dims.now c.args.x.now.width c.args.x.now.place c.args.x.now.read c.args.dim in
    let same : c.number_at.result ≡ get_or (as_naturals c.args.x.now.slice.now.sizes) c.args.dim 0 = c.number_at.ensures ∙ ap (λ ns. get_or (as_naturals ns) c.args.dim 0) c.as_slice.ensures in
    omega (arith, small, same)
