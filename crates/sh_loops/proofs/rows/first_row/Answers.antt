use Rattle.std.proofs.Common.{◌≡◌, ◌<◌, length, map, ap, sym, ◌∙◌, arith}
use Rattle.sh_base.specs.Shape.{cell_count, unflat_of}
use Rattle.sh_loops.proofs.RowLaws.{next_below}
use Rattle.sh_loops.proofs.VisitLaws.{numbers_long}
use Rattle.sh_loops.proofs.rows.first_row.Goals as goal

pub numbers_at-requires-2-clause-below : goal.numbers_at-requires-2-clause-below
numbers_at-requires-2-clause-below c =
    let some : 0 < cell_count c.args.extents.now = omega (arith, c.requires.some, c.requires.count) in
    let next = next_below c.args.extents.now some in
    omega (arith, next, c.from-next.ensures, c.min.ensures, c.saturating_sub.ensures, c.row_length-length.ensures, c.requires.count)

pub distances-requires : goal.distances-requires
distances-requires c =
    ap (λ xs. length xs) (c.as_slice.ensures.value ∙ c.in_ok-seconds.ensures)
    ∙ numbers_long c.args.nest.now.inputs (map (λ t. t.now) c.args.ins.now) (unflat_of c.args.extents.now c.from-next.result) (unflat_of c.args.extents.now 0)
    ∙ sym (ap (λ xs. length xs) (c.as_slice-2.ensures.value ∙ c.in_ok-firsts.ensures))

pub output_at-second-requires-clause-below : goal.output_at-second-requires-clause-below
output_at-second-requires-clause-below c =
    let some : 0 < cell_count c.args.extents.now = omega (arith, c.requires.some, c.requires.count) in
    let next = next_below c.args.extents.now some in
    omega (arith, next, c.from-next.ensures, c.min.ensures, c.saturating_sub.ensures, c.row_length-length.ensures, c.requires.count)
