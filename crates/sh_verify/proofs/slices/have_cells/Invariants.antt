use Rattle.std.proofs.Common.{◌≡◌, ◌≤◌, drop}
use Rattle.sh_ir.specs.declared.types.Dim.TheVariants.{Known}
use Rattle.sh_ir.specs.Agreement.{dims_agree}
use Rattle.sh_ir.specs.Results.{product_dim}
use Rattle.sh_verify.specs.Lists.{above_extents, has_product}
use Rattle.sh_verify.proofs.slices.have_cells.Given as goal

-- the extents to come decide
abbrev pub invariant-loop-dim : goal.invariant-loop-dim
invariant-loop-dim l =
    (has_product l.count l.product (drop l.dim-index l.dims) ≡ dims_agree (Known l.count) (product_dim l.dims)) × (l.product ≤ above_extents)
