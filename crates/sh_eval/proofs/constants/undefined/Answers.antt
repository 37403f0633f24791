use Rattle.std.proofs.Common.{Some, ap, sym, ◌∙◌}
use Rattle.sh_base.specs.Shape.{cell_count}
use Rattle.sh_base.specs.declared.numbers.Cell.TheVariants.{Undef}
use Rattle.std.specs.Prelude.{option_map}
use Rattle.sh_loops.specs.Cells.{cells_by}
use Rattle.sh_loops.proofs.CellLaws.{built_by, fitting_by, undefined_fits}
use Rattle.sh_loops.proofs.FormulaLaws.{counted_by}
use Rattle.sh_eval.proofs.constants.undefined.Goals as goal

pub made-requires-clause-counted : goal.made-requires-clause-counted
made-requires-clause-counted c =
    counted_by (λ k. Some Undef) c.count_of.result (cell_count c.args.shape) c.in_ok-cells.cells c.in_ok-cells.ensures c.count_of.ensures

pub made-requires-clause-fitting : goal.made-requires-clause-fitting
made-requires-clause-fitting c = fitting_by (λ k. Some Undef) c.count_of.result c.args.width c.in_ok-cells.cells c.in_ok-cells.ensures (λ k a e. undefined_fits c.args.width a e)

pub returns : goal.returns
returns c =
    c.made.ensures
    ∙ ap (option_map (λ cs. record { shape = c.args.shape; width = c.args.width; cells = cs }))
    (c.in_ok-cells.ensures ∙ ap (cells_by (λ k. Some Undef)) c.count_of.ensures)
    ∙ sym (built_by c.args.shape c.args.width (λ i. Some Undef))
