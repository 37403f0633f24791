use Rattle.std.proofs.Common.{arith, rules}
use Rattle.std.proofs.lemmas.Grind.{common_steps}
use Rattle.sh_grid.specs.Grid.{group_size_of, on_axes}
use Rattle.sh_grid.proofs.GroupSteps.{size_step, size_end}
use Rattle.sh_grid.proofs.groups.size_along.Goals as goal

pub loop-axis-init : goal.loop-axis-init
unfolding group_size_of on_axes
loop-axis-init c = search rules

pub overflow_mul-size : goal.overflow_mul-size
overflow_mul-size c = grind (arith, common_steps, size_step)

pub loop-axis-preserved : goal.loop-axis-preserved
loop-axis-preserved c = grind (arith, common_steps, size_step)

pub returns-clause-some : goal.returns-clause-some
returns-clause-some c = grind (arith, common_steps, size_end)

pub returns-clause-few : goal.returns-clause-few
returns-clause-few c = grind (arith, common_steps, size_end)
