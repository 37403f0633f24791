use Rattle.std.proofs.Common.{◌∙◌, ap, sym, slice_get}
use Rattle.std.specs.Prelude.{option_and_then}
use Rattle.sh_admission.proofs.PlaceLaws.{grid_found}
use Rattle.sh_admission.proofs.grids.GridTable.item.Goals as goal

pub returns-in-Some : goal.returns-in-Some
returns-in-Some c = rw (← c.self.view_is)
    (c.get.ensures.value
    ∙ (ap (option_and_then (slice_get c.self.inside.grids.now)) (sym c.in-Some.is ∙ c.find.ensures _ c.self.invariant)
    ∙ grid_found c.self.inside.grids.now c.args.name.now))

pub returns-in-None : goal.returns-in-None
returns-in-None c = rw (← c.self.view_is)
    (ap (option_and_then (slice_get c.self.inside.grids.now)) (sym c.in-None.is ∙ c.find.ensures _ c.self.invariant)
    ∙ grid_found c.self.inside.grids.now c.args.name.now)
