use Rattle.std.proofs.Common.{pos, rules, subst, sym, FitsSigned}
use Rattle.std.proofs.lemmas.Int.{to_z-of_z}
use Rattle.std.specs.Int.{w128}
use Rattle.std.specs.Prelude.{get_or}
use Rattle.sh_sharding.specs.Views.{IsBetween, scaled}
use Rattle.sh_iface.proofs.MakingLaws.{between_at}
use Rattle.sh_iface.proofs.making.products.Goals as goal

pub product-requires : goal.product-requires
product-requires c =
    let within = c.loop-number-test.true in
    let number = get_or c.args.numbers.now c.loop-number.number-index (pos 0) in
    let fits : FitsSigned w128 number = search rules in
    let there = between_at c.args.extent c.args.factor c.loop-number.number-index c.args.numbers.now c.requires within in
    subst (λ z. IsBetween c.args.extent (scaled c.args.factor z)) (sym (to_z-of_z w128 number fits)) there
