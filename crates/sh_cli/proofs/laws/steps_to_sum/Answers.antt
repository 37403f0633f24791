use Rattle.sh_cli.proofs.SumHeadline.{sum_in_step}
use Rattle.sh_cli.proofs.laws.steps_to_sum.Goals as goal

pub returns : goal.returns
returns c = sum_in_step
