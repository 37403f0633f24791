use Rattle.std.proofs.Common.{◌∙◌, ap, sym, subst}
use Rattle.std.specs.Option.{SomeIff, option_copied}
use Rattle.sh_grid.specs.Grid.{GridValue, IsGrid}
use Rattle.sh_ir.specs.Scope.{grid_item}
use Rattle.sh_sharding.specs.Carried.{grid_of}
use Rattle.sh_admission.proofs.ReadLaws.{item_name}
use Rattle.sh_admission.proofs.rules.broken_by.Goals as goal

pub broken_on-requires-clause-named : goal.broken_on-requires-clause-named
broken_on-requires-clause-named c =
    let item = c.in-Some.item.now in
    let there = ap (grid_item c.args.table.now) (sym c.as_slice.ensures) ∙ (sym c.item.ensures ∙ ap option_copied c.in-Some.is) in
    let made = subst (λ o. SomeIff o (IsGrid (grid_of item).extents) (grid_of item)) c.in-Some-2.is c.in_ok-grid_of_item.ensures in
    sym (ap (λ (g : GridValue). g.name) made.1 ∙ item_name c.args.table.now c.args.raw.now.grid item there)
