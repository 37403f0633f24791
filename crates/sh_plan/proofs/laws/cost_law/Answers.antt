use Rattle.sh_plan.proofs.CostLaws.{by_lengths}
use Rattle.sh_plan.proofs.laws.cost_law.Goals as goal

pub returns : goal.returns
returns c = by_lengths
