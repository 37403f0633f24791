use Rattle.std.proofs.Common.{◌≡◌, ◌≤◌, drop}
use Rattle.sh_ir.specs.declared.types.Dim.TheVariants.{Known}
use Rattle.sh_ir.specs.Agreement.{dims_agree}
use Rattle.sh_ir.specs.Results.{dims_at, product_dim}
use Rattle.sh_verify.specs.Lists.{above_extents, has_product}
use Rattle.sh_verify.proofs.slices.has_cells.Given as goal

-- the extents to come decide
abbrev pub invariant-loop-number : goal.invariant-loop-number
invariant-loop-number l =
    (has_product l.count l.product (dims_at l.dims (drop l.number-index l.group)) ≡ dims_agree (Known l.count) (product_dim (dims_at l.dims l.group)))
    × (l.product ≤ above_extents)
