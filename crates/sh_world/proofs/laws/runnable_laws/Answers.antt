use Rattle.sh_world.proofs.RunnableLaws.{is_runnable}
use Rattle.sh_world.proofs.laws.runnable_laws.Goals as goal

pub returns : goal.returns
returns c = is_runnable
