use Rattle.std.proofs.Common.{◌≡◌, ◌++◌, ◌∷◌, [], length, map, ap, ap₂, sym, subst, ◌∙◌, refl, arith}
use Rattle.std.proofs.lemmas.List.{length-map}
use Rattle.std.proofs.lemmas.Result.{IfOk-weaker}
use Rattle.sh_base.specs.Cells.{IsCellOf}
use Rattle.sh_base.specs.declared.numbers.Cell.TheVariants.{Undef}
use Rattle.sh_base.specs.declared.operations.CastOp.TheVariants.{Extsi}
use Rattle.sh_int.specs.Elements.{cast_of}
use Rattle.sh_loops.specs.Nests.{TakesCells, product_added}
use Rattle.sh_loops.specs.Regions.{CanRun, region_given}
use Rattle.sh_loops.specs.Rows.{row_cells}
use Rattle.sh_loops.proofs.StepLaws.{all_small, no_pair, pair_next, yielded_next}
use Rattle.sh_loops.proofs.VisitLaws.{factors_at, first_copied, length-row_cells, no_input}
use Rattle.sh_loops.proofs.visits.next_along.Goals as goal

pub returns-then-ins-eq0-clause-value : goal.returns-then-ins-eq0-clause-value
returns-then-ins-eq0-clause-value c =
    no_input (map (λ t. t.now) c.args.ins.now) c.args.row.now.firsts.items c.args.row.now.strides.items c.args.k c.args.step.now c.args.width c.args.point.now c.args.so_far
    c.in-Copied.is (length-map c.args.ins.now (λ t. t.now) ∙ c.if-ins-eq0.true)

pub returns-then-ins-ne2-clause-value : goal.returns-then-ins-ne2-clause-value
returns-then-ins-ne2-clause-value c =
    sym (no_pair c.args.step.now c.in-ProductAdded.first c.in-ProductAdded.second c.args.width c.args.point.now (row_cells (map (λ t. t.now) c.args.ins.now) c.args.row.now.firsts.items c.args.row.now.strides.items c.args.k) c.args.so_far c.in-ProductAdded.is
    (λ e. c.if-ins-ne2.true (sym (length-row_cells (map (λ t. t.now) c.args.ins.now) c.args.row.now.firsts.items c.args.row.now.strides.items c.args.k c.requires.there ∙ length-map c.args.ins.now (λ t. t.now)) ∙ e)))

pub extended-requires-clause-cell : goal.extended-requires-clause-cell
extended-requires-clause-cell c =
    let pair = factors_at c.args.step.now c.in-ProductAdded.first c.in-ProductAdded.second c.args.width (row_cells (map (λ t. t.now) c.args.ins.now) c.args.row.now.firsts.items c.args.row.now.strides.items c.args.k) c.in-ProductAdded.is (let long = (length-row_cells (map (λ t. t.now) c.args.ins.now) c.args.row.now.firsts.items c.args.row.now.strides.items c.args.k c.requires.there ∙ length-map c.args.ins.now (λ t. t.now)) in omega (arith, long, c.if-ins-ne2.false)) c.requires.cells in
    subst (IsCellOf c.in-ProductAdded.first) (sym c.cell_along-a.ensures) pair.first_cell

pub extended-requires-clause-widths : goal.extended-requires-clause-widths
extended-requires-clause-widths c =
    let pair = factors_at c.args.step.now c.in-ProductAdded.first c.in-ProductAdded.second c.args.width (row_cells (map (λ t. t.now) c.args.ins.now) c.args.row.now.firsts.items c.args.row.now.strides.items c.args.k) c.in-ProductAdded.is (let long = (length-row_cells (map (λ t. t.now) c.args.ins.now) c.args.row.now.firsts.items c.args.row.now.strides.items c.args.k c.requires.there ∙ length-map c.args.ins.now (λ t. t.now)) in omega (arith, long, c.if-ins-ne2.false)) c.requires.cells in
    pair.first_fits

pub extended-requires-in-ProductAdded-clause-cell : goal.extended-requires-in-ProductAdded-clause-cell
extended-requires-in-ProductAdded-clause-cell c =
    let pair = factors_at c.args.step.now c.in-ProductAdded.first c.in-ProductAdded.second c.args.width (row_cells (map (λ t. t.now) c.args.ins.now) c.args.row.now.firsts.items c.args.row.now.strides.items c.args.k) c.in-ProductAdded.is (let long = (length-row_cells (map (λ t. t.now) c.args.ins.now) c.args.row.now.firsts.items c.args.row.now.strides.items c.args.k c.requires.there ∙ length-map c.args.ins.now (λ t. t.now)) in omega (arith, long, c.if-ins-ne2.false)) c.requires.cells in
    subst (IsCellOf c.in-ProductAdded.second) (sym c.cell_along-b.ensures) pair.second_cell

pub extended-requires-in-ProductAdded-clause-widths : goal.extended-requires-in-ProductAdded-clause-widths
extended-requires-in-ProductAdded-clause-widths c =
    let pair = factors_at c.args.step.now c.in-ProductAdded.first c.in-ProductAdded.second c.args.width (row_cells (map (λ t. t.now) c.args.ins.now) c.args.row.now.firsts.items c.args.row.now.strides.items c.args.k) c.in-ProductAdded.is (let long = (length-row_cells (map (λ t. t.now) c.args.ins.now) c.args.row.now.firsts.items c.args.row.now.strides.items c.args.k c.requires.there ∙ length-map c.args.ins.now (λ t. t.now)) in omega (arith, long, c.if-ins-ne2.false)) c.requires.cells in
    pair.second_fits

pub yielded-requires : goal.yielded-requires
yielded-requires c =
    let takes = subst (λ s. TakesCells s c.args.width (row_cells (map (λ t. t.now) c.args.ins.now) c.args.row.now.firsts.items c.args.row.now.strides.items c.args.k)) c.in-Yielded.is c.requires.cells in
    subst (λ cs. CanRun c.in-Yielded.region.steps c.args.point.now (c.in-Yielded.region.scalars ++ cs ++ c.args.so_far ∷ []))
    (sym (c.as_slice.ensures.value ∙ c.in_ok-gather-in-Yielded.ensures))
    (takes.run c.args.point.now c.args.so_far (all_small c.args.point.now (λ i. let small = c.type_inv.point i in omega (arith, small))) c.requires.so_far)

pub returns-else-ins-eq0-clause-value : goal.returns-else-ins-eq0-clause-value
returns-else-ins-eq0-clause-value c =
    first_copied c.args.step.now c.args.width c.args.point.now (row_cells (map (λ t. t.now) c.args.ins.now) c.args.row.now.firsts.items c.args.row.now.strides.items c.args.k) c.cell_along.result c.args.so_far c.in-Copied.is
    (let long = (length-row_cells (map (λ t. t.now) c.args.ins.now) c.args.row.now.firsts.items c.args.row.now.strides.items c.args.k c.requires.there ∙ length-map c.args.ins.now (λ t. t.now)) in omega (arith, long, c.if-ins-eq0.false)) c.cell_along.ensures

pub returns-else-ins-ne2-clause-value : goal.returns-else-ins-ne2-clause-value
returns-else-ins-ne2-clause-value c =
    c.added.ensures.value
    ∙ ap₂ (λ a b. product_added c.args.width a b c.args.so_far)
    (c.extended.ensures.value ∙ ap (cast_of Extsi c.in-ProductAdded.first c.args.width) c.cell_along-a.ensures)
    (c.extended-in-ProductAdded.ensures.value ∙ ap (cast_of Extsi c.in-ProductAdded.second c.args.width) c.cell_along-b.ensures)
    ∙ pair_next c.args.step.now c.in-ProductAdded.first c.in-ProductAdded.second c.args.width c.args.point.now (row_cells (map (λ t. t.now) c.args.ins.now) c.args.row.now.firsts.items c.args.row.now.strides.items c.args.k) Undef Undef c.args.so_far c.in-ProductAdded.is
    (let long = (length-row_cells (map (λ t. t.now) c.args.ins.now) c.args.row.now.firsts.items c.args.row.now.strides.items c.args.k c.requires.there ∙ length-map c.args.ins.now (λ t. t.now)) in omega (arith, long, c.if-ins-ne2.false))

pub returns-in_ok-gather-in-Yielded-clause-value : goal.returns-in_ok-gather-in-Yielded-clause-value
returns-in_ok-gather-in-Yielded-clause-value c =
    IfOk-weaker c.yielded.result _ _
    (λ cell e.
    e ∙ ap (λ cs. region_given c.in-Yielded.region c.args.point.now (c.in-Yielded.region.scalars ++ cs ++ c.args.so_far ∷ [])) (c.as_slice.ensures.value ∙ c.in_ok-gather-in-Yielded.ensures)
    ∙ yielded_next c.args.step.now c.in-Yielded.region c.args.width c.args.point.now c.args.point.now (row_cells (map (λ t. t.now) c.args.ins.now) c.args.row.now.firsts.items c.args.row.now.strides.items c.args.k) c.args.so_far c.in-Yielded.is refl)
    c.yielded.ensures.value
