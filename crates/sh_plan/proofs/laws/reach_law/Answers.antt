use Rattle.sh_plan.proofs.Reaches.{reaches}
use Rattle.sh_plan.proofs.laws.reach_law.Goals as goal

pub returns : goal.returns
returns c = reaches
