use Rattle.std.proofs.Common.{arith}
use Rattle.std.proofs.lemmas.Grind.{common_steps}
use Rattle.std.proofs.lemmas.List.{take_rest}
use Rattle.sh_grid.proofs.GroupSteps.{stride_step, stride_end}
use Rattle.sh_grid.proofs.groups.stride_of.Goals as goal

pub overflow_mul-stride : goal.overflow_mul-stride
overflow_mul-stride c = grind (arith, common_steps, take_rest, stride_step)

pub loop-extent-preserved : goal.loop-extent-preserved
loop-extent-preserved c = grind (arith, common_steps, take_rest, stride_step)

pub returns-clause-value : goal.returns-clause-value
returns-clause-value c = grind (arith, common_steps, take_rest, stride_end)

pub returns-clause-some : goal.returns-clause-some
returns-clause-some c = grind (arith, common_steps, take_rest, stride_end)

pub returns-clause-few : goal.returns-clause-few
returns-clause-few c = grind (arith, common_steps, take_rest, stride_end)
