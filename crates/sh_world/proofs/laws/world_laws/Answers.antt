use Rattle.sh_world.proofs.MachineLaws.{in_every_order}
use Rattle.sh_world.proofs.laws.world_laws.Goals as goal

pub returns : goal.returns
returns c = in_every_order
