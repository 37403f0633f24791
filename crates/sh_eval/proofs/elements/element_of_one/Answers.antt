use Rattle.std.proofs.Common.{◌∷◌, [], List, refl, ap, ap₂, sym, ◌∙◌, subst, length}
use Rattle.std.specs.List.{All}
use Rattle.sh_base.specs.declared.numbers.Cell.{Cell}
use Rattle.sh_base.specs.Cells.{IsCellOf}
use Rattle.sh_base.specs.Shape.{cell_count}
use Rattle.sh_loops.specs.Cells.{cells_by}
use Rattle.sh_loops.specs.Formulas.{formula_at, formula_of}
use Rattle.sh_loops.proofs.FormulaLaws.{cells_made, counted_by}
use Rattle.sh_eval.proofs.elements.element_of_one.Goals as goal

pub on_cells-requires-clause-first : goal.on_cells-requires-clause-first
on_cells-requires-clause-first c = subst (λ w. All (IsCellOf w) c.cells_of.result.now) c.requires.works.operands.0 c.cells_of.ensures.fitting

pub made-requires-clause-counted : goal.made-requires-clause-counted
made-requires-clause-counted c =
    counted_by (formula_at (formula_of c.args.formula) (c.cells_of.result.now ∷ [])) (length c.cells_of.result.now) (cell_count c.shape_of.result) c.in_ok-cells.cells c.in_ok-cells.ensures.value
    (c.cells_of.ensures.counted ∙ ap cell_count (sym c.shape_of.ensures.value))

pub returns : goal.returns
returns c =
    c.made.ensures
    ∙ cells_made c.args.formula c.args.a.now.shape (c.args.a.now ∷ []) (length c.cells_of.result.now) c.result_width.result c.shape_of.result c.in_ok-cells.cells
    (refl, tt) c.cells_of.ensures.counted c.result_width.ensures c.shape_of.ensures.value
    (c.in_ok-cells.ensures.value ∙ ap (λ cs. cells_by (formula_at (formula_of c.args.formula) cs) (length c.cells_of.result.now)) (ap₂ (λ (x : List Cell) (xs : List (List Cell)). x ∷ xs) c.cells_of.ensures.value (refl)))
