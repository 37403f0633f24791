use Rattle.std.proofs.Common.{◌≡◌, ◌<◌, ◌*◌, ◌/◌, map, ap₂, sym, subst, ◌∙◌, arith}
use Rattle.sh_base.specs.Shape.{cell_count}
use Rattle.sh_loops.specs.Rows.{IsFoldedTo}
use Rattle.sh_loops.proofs.RowLaws.{row_some, rows_all}
use Rattle.sh_loops.proofs.nests.visit_rows.Goals as goal

pub nonzero_div-number-end : goal.nonzero_div-number-end
nonzero_div-number-end c =
    let some : 0 < cell_count c.args.extents.now = omega (arith, c.requires.some, c.requires.count) in
    let long = row_some c.args.extents.now some in
    let length_is = c.in_ok-row.ensures.length_is in
    omega (arith, long, length_is, c.from.ensures)

pub returns : goal.returns
returns c =
    let some : 0 < cell_count c.args.extents.now = omega (arith, c.requires.some, c.requires.count) in
    let last : c.loop-number.number ≡ c.args.count / c.from.result = omega (arith, c.loop-number-test.false, c.loop-number.auto.number-end) in
    let all : c.loop-number.number * c.loop-number.row.length ≡ c.args.count =
    ap₂ (λ a b. a * b) (last ∙ ap₂ (λ a b. a / b) c.requires.count (c.from.ensures ∙ c.in_ok-row.ensures.length_is)) c.loop-number.invariant.strides.length_is
    ∙ rows_all c.args.extents.now some ∙ sym c.requires.count in
    subst (λ n. IsFoldedTo c.args.nest.now c.args.extents.now (map (λ t. t.now) c.args.ins.now) c.args.outs.now n c.loop-number.cells.items) all c.loop-number.invariant.folded
