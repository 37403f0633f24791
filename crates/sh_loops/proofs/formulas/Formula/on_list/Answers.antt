use Rattle.std.proofs.Common.{ap, sym, ◌∙◌}
use Rattle.sh_int.specs.Elements.{cast_of, comparison_of, element_of}
use Rattle.sh_loops.specs.Formulas.{formula_of}
use Rattle.sh_loops.proofs.RegionLaws.{not_one, not_three, not_two}
use Rattle.sh_sem.specs.Scalars.{formula_cell}
use Rattle.sh_loops.proofs.formulas.Formula.on_list.Goals as goal

pub returns-then-cells-ne3 : goal.returns-then-cells-ne3
unfolding formula_cell
returns-then-cells-ne3 c =
    sym (ap (λ f. formula_cell (formula_of f) c.args.cells.now) c.in-Choice.is ∙ not_three _ c.args.cells.now c.if-cells-ne3.true)

pub returns-then-cells-ne1 : goal.returns-then-cells-ne1
unfolding formula_cell
returns-then-cells-ne1 c =
    sym (ap (λ f. formula_cell (formula_of f) c.args.cells.now) c.in-Cast.is ∙ not_one _ c.args.cells.now c.if-cells-ne1.true)

pub returns-then-cells-ne2 : goal.returns-then-cells-ne2
unfolding formula_cell
returns-then-cells-ne2 c =
    sym (ap (λ f. formula_cell (formula_of f) c.args.cells.now) c.in-Binary.is ∙ not_two _ c.args.cells.now c.if-cells-ne2.true)

pub returns-then-cells-ne2-2 : goal.returns-then-cells-ne2-2
unfolding formula_cell
returns-then-cells-ne2-2 c =
    sym (ap (λ f. formula_cell (formula_of f) c.args.cells.now) c.in-Compare.is ∙ not_two _ c.args.cells.now c.if-cells-ne2-2.true)
