use Rattle.std.proofs.Common.{◌≡◌, ◌∷◌, [], All, Some}
use Rattle.sh_base.specs.Cells.{IsCellOf}
use Rattle.sh_loops.specs.Cells.{cells_by}
use Rattle.sh_loops.specs.Formulas.{formula_at, formula_of, result_width}
use Rattle.sh_eval.proofs.elements.on_pairs.Given as goal

abbrev pub invariant-loop-at : goal.invariant-loop-at
invariant-loop-at l = record {
  value : cells_by (formula_at (formula_of l.formula) (l.first ∷ l.second ∷ [])) l.at ≡ Some l.cells.items;
  within : All (IsCellOf (result_width l.formula)) l.cells.items;
}
