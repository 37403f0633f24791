use Rattle.std.proofs.Common.{◌≡◌, true, arith, ◌∙◌}
use Rattle.sh_sharding.proofs.Cases.{not_both}
use Rattle.sh_sharding.proofs.HaloSizeLaws.{HasRoom, halos_fit, halos_misfit, has_room, made_haloed, sizes_read}
use Rattle.sh_sharding.proofs.halo_sizes.haloed_dimension.Goals as goal
use Rattle.sh_sharding.proofs.halo_sizes.haloed_dimension.Goals.{After-are_parts_at_least}

pub returns-then-not-are_parts_at_least : goal.returns-then-not-are_parts_at_least
returns-then-not-are_parts_at_least c = λ fit.
    let division = c.division_of-parts.result in
    let least = halos_misfit c.args.g.now.extents c.args.d.now c.args.halos.now c.number_at-low.result c.number_at-high.result c.number_at-low.ensures c.number_at-high.ensures fit in
    not_both c.are_parts_at_least.result
    (c.are_parts_at_least.ensures.1 (sizes_read c.args.g.now.extents c.args.d.now division.parts c.max.result division.mark c.division_of-parts.ensures (λ i l. rw c.max.ensures (least i l))))
    c.if-not-are_parts_at_least.true

-- where the parts are long enough
room : (c : After-are_parts_at_least) → c.are_parts_at_least.result ≡ true
    → HasRoom c.args.g.now.extents c.args.d.now c.max.result
room c long =
    has_room c.args.g.now.extents c.args.d.now _ c.max.result _ c.requires.grid c.requires.marked
    c.division_of-parts.ensures (c.are_parts_at_least.ensures.0 long)

pub with_sizes-requires : goal.with_sizes-requires
with_sizes-requires c =
    let small = (room (goal.at.with_sizes-requires c).After-are_parts_at_least c.if-not-are_parts_at_least.false).small in
    omega (arith, c.max.ensures)

pub returns : goal.returns
returns c =
    let sizes = (room (goal.at.returns c).After-are_parts_at_least c.if-not-are_parts_at_least.false).sizes in (
      halos_fit c.args.g.now.extents c.args.d.now c.args.halos.now c.number_at-low.result c.number_at-high.result c.number_at-low.ensures c.number_at-high.ensures (λ i l. rw (← c.max.ensures) (sizes i l)),
      c.in_ok-with_sizes.ensures
          ∙ made_haloed c.args.d.now c.args.halos.now c.number_at-low.result c.number_at-high.result c.number_at-low.ensures c.number_at-high.ensures,
    )
