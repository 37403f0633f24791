use Rattle.std.proofs.Common.{◌*◌, ◌∙◌, ap, ap₂, arith}
use Rattle.std.specs.Int.{w128}
use Rattle.std.specs.Prelude.{unsigned_abs}
use Rattle.std.proofs.lemmas.Int.{ints, to_z-of_z}
use Rattle.sh_sharding.proofs.ViewLaws.{scaled_product}
use Rattle.sh_iface.proofs.making.scaled_at_most.Goals as goal

pub returns : goal.returns
returns c =
    let number = to_z-of_z w128 c.args.number c.ranges.number in
    let found = rw c.in_ok-product.was at c.checked_mul.ensures in (
      scaled_product c.args.factor c.in_ok-product.product c.args.number (omega (arith, ints, c.if-number-lt0.false)) (found.1 ∙ ap₂ ◌*◌ (c.unsigned_abs.ensures.value ∙ ap unsigned_abs number) c.from.ensures),
      omega (arith, c.if-product-from.false, c.from-2.ensures),
    )
