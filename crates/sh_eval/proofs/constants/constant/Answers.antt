use Rattle.std.proofs.Common.{ap, sym, ◌∙◌}
use Rattle.sh_base.specs.Shape.{cell_count, flat_of, unflat_of}
use Rattle.sh_base.proofs.ShapeLaws.{flat_of-unflat_of}
use Rattle.std.specs.Prelude.{option_map}
use Rattle.sh_sem.specs.Given.{gives_constant}
use Rattle.sh_sem.specs.Scalars.{constant_cell}
use Rattle.sh_loops.specs.Cells.{cells_by}
use Rattle.sh_loops.proofs.CellLaws.{built_by, cells_by-same, constant_fits, fitting_by}
use Rattle.sh_loops.proofs.FormulaLaws.{counted_by}
use Rattle.sh_eval.proofs.constants.constant.Goals as goal

pub made-requires-clause-counted : goal.made-requires-clause-counted
made-requires-clause-counted c =
    counted_by (constant_cell c.args.literal.now.contents) c.count_of.result (cell_count c.args.shape) c.in_ok-cells.cells c.in_ok-cells.ensures c.count_of.ensures

pub made-requires-clause-fitting : goal.made-requires-clause-fitting
made-requires-clause-fitting c = fitting_by (constant_cell c.args.literal.now.contents) c.count_of.result c.args.width c.in_ok-cells.cells c.in_ok-cells.ensures (λ k a e. constant_fits c.args.width c.args.literal.now.contents k a c.requires.fitting e)

pub returns : goal.returns
unfolding gives_constant
returns c =
    c.made.ensures
    ∙ ap (option_map (λ cs. record { shape = c.args.shape; width = c.args.width; cells = cs }))
    (c.in_ok-cells.ensures ∙ ap (cells_by (constant_cell c.args.literal.now.contents)) c.count_of.ensures
    ∙ cells_by-same (constant_cell c.args.literal.now.contents) (λ k. constant_cell c.args.literal.now.contents (flat_of c.args.shape (unflat_of c.args.shape k))) (cell_count c.args.shape)
    (λ k l. ap (constant_cell c.args.literal.now.contents) (sym (flat_of-unflat_of c.args.shape k l))))
    ∙ sym (built_by c.args.shape c.args.width (λ i. constant_cell c.args.literal.now.contents (flat_of c.args.shape i)))
