use Rattle.std.proofs.Common.{◌∷◌, [], List, refl, ap, ap₂, sym, ◌∙◌, subst, length}
use Rattle.std.specs.List.{All}
use Rattle.sh_base.specs.declared.numbers.Cell.{Cell}
use Rattle.sh_base.specs.Cells.{IsCellOf}
use Rattle.sh_base.specs.Shape.{cell_count}
use Rattle.sh_loops.specs.Cells.{cells_by}
use Rattle.sh_loops.specs.Formulas.{formula_at, formula_of}
use Rattle.sh_loops.proofs.FormulaLaws.{cells_made, counted_by}
use Rattle.sh_eval.proofs.elements.element_of_three.Goals as goal

pub on_triples-requires-clause-first : goal.on_triples-requires-clause-first
on_triples-requires-clause-first c = subst (λ w. All (IsCellOf w) c.cells_of-2.result.now) c.requires.works.operands.0 c.cells_of-2.ensures.fitting

pub on_triples-requires-clause-second : goal.on_triples-requires-clause-second
on_triples-requires-clause-second c = subst (λ w. All (IsCellOf w) c.cells_of-3.result.now) c.requires.works.operands.1.0 c.cells_of-3.ensures.fitting

pub made-requires-clause-counted : goal.made-requires-clause-counted
made-requires-clause-counted c =
    counted_by (formula_at (formula_of c.args.formula) (c.cells_of.result.now ∷ c.cells_of-2.result.now ∷ c.cells_of-3.result.now ∷ [])) (length c.cells_of-2.result.now) (cell_count c.shape_of.result) c.in_ok-cells.cells c.in_ok-cells.ensures.value
    (c.cells_of-2.ensures.counted ∙ ap cell_count (sym c.shape_of.ensures.value))

pub returns : goal.returns
returns c =
    c.made.ensures
    ∙ cells_made c.args.formula c.args.a.now.shape (c.args.conditions.now ∷ c.args.a.now ∷ c.args.b.now ∷ []) (length c.cells_of-2.result.now) c.result_width.result c.shape_of.result c.in_ok-cells.cells
    (c.requires.conditions, (refl, (c.requires.same, tt))) c.cells_of-2.ensures.counted c.result_width.ensures c.shape_of.ensures.value
    (c.in_ok-cells.ensures.value ∙ ap (λ cs. cells_by (formula_at (formula_of c.args.formula) cs) (length c.cells_of-2.result.now)) (ap₂ (λ (x : List Cell) (xs : List (List Cell)). x ∷ xs) c.cells_of.ensures.value (ap₂ (λ (x : List Cell) (xs : List (List Cell)). x ∷ xs) c.cells_of-2.ensures.value (ap₂ (λ (x : List Cell) (xs : List (List Cell)). x ∷ xs) c.cells_of-3.ensures.value (refl)))))
