use Rattle.std.proofs.Common.{map, ap, sym, ◌∙◌}
use Rattle.sh_base.specs.Shape.{cell_count}
use Rattle.sh_loops.specs.Nests.{folded_by}
use Rattle.sh_loops.proofs.FormulaLaws.{counted_by}
use Rattle.sh_loops.proofs.NestLaws.{nest_made}
use Rattle.sh_loops.proofs.nests.structured.Goals as goal

pub made-requires-clause-counted : goal.made-requires-clause-counted
made-requires-clause-counted c =
    counted_by (folded_by c.args.nest.now c.args.extents.now (map (λ t. t.now) c.args.ins.now) c.args.outs.now c.args.count) (cell_count c.args.outs.now.shape) (cell_count c.shape_of.result) c.in_ok-cells.cells
    c.in_ok-cells.ensures.value (ap cell_count (sym c.shape_of.ensures.value))

pub returns : goal.returns
returns c =
    λ s x stands.
    c.made.ensures
    ∙ nest_made c.args.nest.now s x c.args.extents.now (map (λ t. t.now) c.args.ins.now) c.args.outs.now c.args.count c.shape_of.result c.width.result c.in_ok-cells.cells
    stands c.requires.folds c.requires.count c.shape_of.ensures.value c.width.ensures c.in_ok-cells.ensures.value
