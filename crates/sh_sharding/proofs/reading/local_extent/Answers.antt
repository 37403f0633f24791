use Rattle.std.proofs.Common.{ap, arith, ◌∙◌, subst}
use Rattle.sh_grid.specs.Grid.{GridValue}
use Rattle.sh_ir.specs.declared.types.Dim.TheVariants.{Known}
use Rattle.sh_sharding.specs.LocalTypes.{local_dim}
use Rattle.sh_sharding.specs.Views.{IsSeen}
use Rattle.sh_sharding.proofs.LocalTypeLaws.{IsKnown, known_through, other_extent}
use Rattle.sh_sharding.proofs.reading.local_extent.Goals as goal
use Rattle.sh_sharding.proofs.reading.local_extent.Goals.{In-Some}

known : (c : In-Some) → IsKnown c.args.s.now.grid.extents c.dimension-d.result.now c.in-Some.size
known c =
    known_through c.args.s.now.grid c.grid.result.now c.dimension-d.result.now _ c.in-Some.size _ c.grid.ensures
    c.division_of-parts.ensures c.dimension-d.ensures.admitted c.in-Some.ensures

pub haloed_size-requires : goal.haloed_size-requires
haloed_size-requires c =
    let size = known (goal.at.haloed_size-requires c).In-Some in
    omega (arith, c.dimension-d.ensures.small, size.low, size.high, size.within)

pub returns-in-Some : goal.returns-in-Some
returns-in-Some c =
    let size = known (goal.at.returns-in-Some c).In-Some in
    ap Known c.haloed_size.ensures ∙ size.value ∙ ap (local_dim c.args.s.now.grid.extents) c.dimension-d.ensures.value

pub returns-in-None : goal.returns-in-None
returns-in-None c =
    let d = c.dimension-d.result.now in
    let division = c.division_of-parts.result in
    let seen = subst (λ (g : GridValue). IsSeen g.extents d division.parts division.mark) c.grid.ensures c.division_of-parts.ensures in
    other_extent c.args.s.now.grid.extents d division.parts division.mark seen c.in-None.ensures ∙ ap (local_dim c.args.s.now.grid.extents) c.dimension-d.ensures.value
