use Rattle.std.proofs.Common.{◌∙◌, ap, sym, subst}
use Rattle.std.specs.Prelude.{◌↔◌, IsTrue}
use Rattle.std.specs.Option.{SomeIff, option_copied}
use Rattle.std.proofs.lemmas.Result.{IfOk-weaker}
use Rattle.sh_grid.specs.Grid.{IsGrid}
use Rattle.sh_ir.specs.Scope.{grid_item}
use Rattle.sh_sharding.specs.Carried.{grid_of}
use Rattle.sh_sharding.specs.CutRules.{FitsOn, KeepsCuts}
use Rattle.sh_verify.proofs.CutLaws.{kept_on_grid, kept_on_no_grid, kept_on_none, ready_on}
use Rattle.sh_verify.proofs.cut_rules.keeps_cuts.Goals as goal

pub returns-in-None-grid : goal.returns-in-None-grid
returns-in-None-grid c =
    kept_on_none c.args.tables.now c.args.f.now c.in-Some.carry c.in-Some.is
    (ap (grid_item c.args.tables.now.grids) (sym c.as_slice.ensures) ∙ (sym c.grid.ensures ∙ ap option_copied c.in-None-grid.is))

pub returns-in-None-2 : goal.returns-in-None-2
returns-in-None-2 c =
    let item = c.in-Some-grid.item.now in
    kept_on_no_grid c.args.tables.now c.args.f.now c.in-Some.carry item c.in-Some.is
    (ap (grid_item c.args.tables.now.grids) (sym c.as_slice.ensures) ∙ (sym c.grid.ensures ∙ ap option_copied c.in-Some-grid.is))
    (subst (λ o. SomeIff o (IsGrid (grid_of item).extents) (grid_of item)) c.in-None-2.is c.in_ok-grid_of_item-in-Some-grid.ensures)

pub fits_on-requires-clause-args : goal.fits_on-requires-clause-args
fits_on-requires-clause-args c =
    let item = c.in-Some-grid.item.now in
    (ready_on c.args.f.now c.in-Some.carry c.args.tables.now.grids item c.in-Some-2.g c.requires c.in-Some.is
    (ap (grid_item c.args.tables.now.grids) (sym c.as_slice.ensures) ∙ (sym c.grid.ensures ∙ ap option_copied c.in-Some-grid.is))
    (subst (λ o. SomeIff o (IsGrid (grid_of item).extents) (grid_of item)) c.in-Some-2.is c.in_ok-grid_of_item-in-Some-grid.ensures).1).0

pub fits_on-requires-clause-results : goal.fits_on-requires-clause-results
fits_on-requires-clause-results c =
    let item = c.in-Some-grid.item.now in
    (ready_on c.args.f.now c.in-Some.carry c.args.tables.now.grids item c.in-Some-2.g c.requires c.in-Some.is
    (ap (grid_item c.args.tables.now.grids) (sym c.as_slice.ensures) ∙ (sym c.grid.ensures ∙ ap option_copied c.in-Some-grid.is))
    (subst (λ o. SomeIff o (IsGrid (grid_of item).extents) (grid_of item)) c.in-Some-2.is c.in_ok-grid_of_item-in-Some-grid.ensures).1).1

pub returns-in-Some-2 : goal.returns-in-Some-2
returns-in-Some-2 c =
    let item = c.in-Some-grid.item.now in
    IfOk-weaker c.fits_on.result (λ kept. IsTrue kept ↔ FitsOn c.in-Some-2.g c.args.f.now c.in-Some.carry)
    (λ kept. IsTrue kept ↔ KeepsCuts c.args.tables.now c.args.f.now)
    (λ kept decides. kept_on_grid c.args.tables.now c.args.f.now c.in-Some.carry item c.in-Some-2.g kept c.in-Some.is
    (ap (grid_item c.args.tables.now.grids) (sym c.as_slice.ensures) ∙ (sym c.grid.ensures ∙ ap option_copied c.in-Some-grid.is))
    (subst (λ o. SomeIff o (IsGrid (grid_of item).extents) (grid_of item)) c.in-Some-2.is c.in_ok-grid_of_item-in-Some-grid.ensures).1
    decides)
    c.fits_on.ensures
