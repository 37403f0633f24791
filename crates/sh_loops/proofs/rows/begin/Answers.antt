use Rattle.std.proofs.Common.{◌≡◌, ◌<◌, ◌*◌, map, ap, ap₂, ◌∙◌, arith}
use Rattle.sh_base.specs.Shape.{cell_count}
use Rattle.sh_loops.specs.Rows.{numbers_of}
use Rattle.sh_loops.proofs.StepLaws.{place_taken}
use Rattle.sh_loops.proofs.VisitLaws.{row_begun}
use Rattle.sh_loops.proofs.rows.begin.Goals as goal

pub returns-clause-row : goal.returns-clause-row
returns-clause-row c =
    let some : 0 < cell_count c.args.extents.now = omega (arith, c.requires.some, c.requires.below, c.requires.count) in
    row_begun c.args.nest.now c.args.extents.now (map (λ t. t.now) c.args.ins.now) c.args.outs.now _ c.args.number c.requires.folds
    (record { length_is = c.requires.strides.length_is; strides_are = c.requires.strides.strides_are; stride_is = c.requires.strides.stride_is })
    some (ap (λ n. c.args.number * n) c.from.ensures)
    (c.in_ok-number_cells.ensures ∙ ap₂ (λ ms p. numbers_of ms (map (λ t. t.now) c.args.ins.now) p) c.as_slice.ensures c.point_at-point.ensures)
    (place_taken c.args.nest.now c.args.extents.now c.args.outs.now.shape (c.args.number * c.from.result) c.point_at-point.result c.as_slice-2.result.now c.place_in-row.result
    c.point_at-point.ensures c.as_slice-2.ensures c.place_in-row.ensures.value)
    (omega (arith, c.requires.below, c.requires.count)) c.are_tensors.ensures
    (record { whole = c.shape-whole.ensures.whole; small = c.shape-whole.ensures.small })
