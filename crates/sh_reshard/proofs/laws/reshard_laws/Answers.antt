use Rattle.sh_reshard.proofs.Reshards.{move_reshards, plan_reshards}
use Rattle.sh_reshard.proofs.laws.reshard_laws.Goals as goal

pub returns : goal.returns
returns c = record { moves = move_reshards; plans = plan_reshards }
