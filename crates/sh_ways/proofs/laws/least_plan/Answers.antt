use Rattle.sh_ways.proofs.Least.{plan_dist}
use Rattle.sh_ways.proofs.laws.least_plan.Goals as goal

pub returns : goal.returns
returns g c = plan_dist
