use Rattle.std.proofs.Common.{rules, ◌≡◌, length}
use Rattle.sh_grid.specs.Grid.{AreAxesOf}
use Rattle.sh_sharding.specs.Sharding.{dimension_of}
use Rattle.sh_plan.specs.Moves.{last_axis}
use Rattle.sh_plan.proofs.MoveSteps.{last_within}
use Rattle.sh_plan.proofs.allowed.last_axis_along.Goals as goal

pub returns-clause-within : goal.returns-clause-within
returns-clause-within c = λ split.
    let d = dimension_of c.args.s.now c.args.dim in
    let is : c.unwrap_or.result ≡ last_axis (dimension_of c.args.s.now c.args.dim) = search rules in
    let axes : AreAxesOf (length c.args.s.now.grid.extents) (dimension_of c.args.s.now c.args.dim).axes = rw c.dimension-d.ensures.value at c.dimension-d.ensures.axes in
    rw is (last_within c.args.s.now.grid.extents (dimension_of c.args.s.now c.args.dim) axes split)
