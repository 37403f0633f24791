use Rattle.std.proofs.Common.{◌≤◌, arith}
use Rattle.sh_base.specs.Shape.{max_cells}
use Rattle.sh_plan.specs.Moves.{at}
use Rattle.sh_plan.proofs.CostSteps.{end_within}
use Rattle.sh_plan.proofs.costs.end.Goals as goal

pub overflow_add-result : goal.overflow_add-result
overflow_add-result c =
    let fits = end_within c.args.s.now c.args.dim c.args.device c.whole-admitted.ensures.admitted c.requires.dim c.requires.device in
    let small : (at c.args.s.now.dimensions c.args.dim).extent ≤ max_cells = rw c.dimension-dimension.ensures.value at c.dimension-dimension.ensures.small in
    omega (arith, fits, small, c.start.ensures, c.size.ensures)
