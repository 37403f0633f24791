use Rattle.sh_plan.proofs.Replication.{least_splits, plan_splits}
use Rattle.sh_plan.proofs.laws.replication_law.Goals as goal

pub returns : goal.returns
returns c = record { plan = plan_splits; least = least_splits }
