use Rattle.std.proofs.Common.{ap, subst, sym, ◌∙◌}
use Rattle.std.specs.Int.{w128}
use Rattle.std.proofs.lemmas.Int.{to_z-of_z}
use Rattle.sh_sharding.specs.AxisLists.{natural}
use Rattle.sh_sharding.specs.Views.{IsBetween, scaled}
use Rattle.sh_sharding.proofs.ViewLaws.{found_some}
use Rattle.sh_iface.proofs.making.product.Goals as goal

pub unwrap-requires : goal.unwrap-requires
unwrap-requires c =
    let number = to_z-of_z w128 c.args.number c.ranges.number in
    found_some c.scaled_at_most.result _ _ _ c.scaled_at_most.ensures
    (subst (λ z. IsBetween c.args.extent (scaled c.args.factor z)) (sym number) c.requires)

pub returns : goal.returns
returns c =
    let number = to_z-of_z w128 c.args.number c.ranges.number in
    let found = rw c.unwrap.ensures at c.scaled_at_most.ensures in
    sym (ap natural found.0) ∙ ap (λ z. natural (scaled c.args.factor z)) number
