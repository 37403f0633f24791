use Rattle.std.proofs.Common.{map, ◌∙◌}
use Rattle.sh_eval.specs.Rules.{rule_cell}
use Rattle.sh_eval.proofs.LayoutLaws.{laid}
use Rattle.sh_loops.proofs.CellLaws.{length-cells_by}
use Rattle.sh_sem.specs.Given.{of_dims}
use Rattle.sh_eval.proofs.layouts.laid_out.Goals as goal

pub made-requires-clause-counted : goal.made-requires-clause-counted
made-requires-clause-counted c = length-cells_by _ _ c.in_ok-cells-in-Some.cells c.in_ok-cells-in-Some.ensures.value

pub returns-in_ok-cells-in-Some : goal.returns-in_ok-cells-in-Some
returns-in_ok-cells-in-Some c =
    λ s is few.
    c.made.ensures
    ∙ laid c.in-Some.shape c.args.width (rule_cell c.args.rule.now c.args.t.now (map (λ t. t.now) c.args.ts.now)) c.in_ok-cells-in-Some.cells (of_dims c.args.dims.now s) (c.in-Some.ensures.value s is few)
    c.in_ok-cells-in-Some.ensures.value
