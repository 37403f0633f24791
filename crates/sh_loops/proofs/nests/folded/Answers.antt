use Rattle.std.proofs.Common.{◌≡◌, Some, map, ap, sym, subst, ◌∙◌, length, refl}
use Rattle.std.specs.List.{All}
use Rattle.sh_base.specs.Cells.{IsCellOf}
use Rattle.sh_base.specs.Shape.{cell_count}
use Rattle.sh_loops.proofs.VisitLaws.{folded_all, folded_fitting, folded_none, went_on}
use Rattle.sh_loops.proofs.nests.folded.Goals as goal

pub returns-then-count-eq0-clause-value : goal.returns-then-count-eq0-clause-value
returns-then-count-eq0-clause-value c =
    let counted : length c.args.outs.now.cells ≡ cell_count c.args.outs.now.shape = ap length (sym c.cells_of.ensures.value) ∙ c.cells_of.ensures.counted in
    let before = folded_none c.args.nest.now c.args.extents.now (map (λ t. t.now) c.args.ins.now) c.args.outs.now c.in_ok-cells.cells.items (c.in_ok-cells.ensures.items ∙ c.cells_of.ensures.value) (subst (All (IsCellOf c.args.outs.now.width)) c.cells_of.ensures.value c.cells_of.ensures.fitting) in
    ap (λ x. Some x) c.from_vec.ensures
    ∙ sym (folded_all c.args.nest.now c.args.extents.now (map (λ t. t.now) c.args.ins.now) c.args.outs.now 0 c.args.count c.in_ok-cells.cells.items before (sym c.if-count-eq0.true) counted)

pub visit_rows-requires-clause-before : goal.visit_rows-requires-clause-before
visit_rows-requires-clause-before c = folded_none c.args.nest.now c.args.extents.now (map (λ t. t.now) c.args.ins.now) c.args.outs.now c.in_ok-cells.cells.items (c.in_ok-cells.ensures.items ∙ c.cells_of.ensures.value) (subst (All (IsCellOf c.args.outs.now.width)) c.cells_of.ensures.value c.cells_of.ensures.fitting)

pub returns-then-branch-clause-value : goal.returns-then-branch-clause-value
returns-then-branch-clause-value c =
    let counted : length c.args.outs.now.cells ≡ cell_count c.args.outs.now.shape = ap length (sym c.cells_of.ensures.value) ∙ c.cells_of.ensures.counted in
    let folded = went_on c.args.nest.now c.args.extents.now (map (λ t. t.now) c.args.ins.now) c.args.outs.now c.args.count c.in_ok-visit_rows.field-0 c.visit_rows.new.cells.items c.if-branch.true c.in_ok-visit_rows.ensures in
    ap (λ x. Some x) c.from_vec-then-branch.ensures
    ∙ sym (folded_all c.args.nest.now c.args.extents.now (map (λ t. t.now) c.args.ins.now) c.args.outs.now c.args.count c.args.count c.visit_rows.new.cells.items folded refl counted)

pub returns-then-branch-clause-fitting : goal.returns-then-branch-clause-fitting
returns-then-branch-clause-fitting c =
    let folded = went_on c.args.nest.now c.args.extents.now (map (λ t. t.now) c.args.ins.now) c.args.outs.now c.args.count c.in_ok-visit_rows.field-0 c.visit_rows.new.cells.items c.if-branch.true c.in_ok-visit_rows.ensures in
    subst (All (IsCellOf c.args.outs.now.width)) (sym c.from_vec-then-branch.ensures)
    (folded_fitting c.args.nest.now c.args.extents.now (map (λ t. t.now) c.args.ins.now) c.args.outs.now c.args.count c.visit_rows.new.cells.items folded)
