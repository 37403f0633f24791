use Rattle.std.proofs.Common.{Some, ap, sym, ◌∙◌}
use Rattle.sh_base.specs.declared.numbers.Width.TheVariants.{I64}
use Rattle.sh_base.specs.declared.operations.CastOp.TheVariants.{Trunci}
use Rattle.sh_loops.proofs.RegionLaws.{not_one, one_cell}
use Rattle.sh_sem.specs.Scalars.{cast, formula_cell}
use Rattle.sh_loops.proofs.regions.cast_index.Goals as goal

pub returns-then-cells-ne1 : goal.returns-then-cells-ne1
unfolding formula_cell
returns-then-cells-ne1 c = sym (not_one _ c.args.cells.now c.if-cells-ne1.true)

pub returns : goal.returns
unfolding formula_cell
returns c =
    ap (λ x. Some x) c.index_cast.ensures.value
    ∙ sym (ap (formula_cell (cast Trunci I64 c.args.width)) (one_cell c.args.cells.now _ c.if-cells-ne1.false))
