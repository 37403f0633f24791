use Rattle.sh_eval.proofs.DeviceWalk.{can_give_there}
use Rattle.sh_eval.proofs.devices.local_laws.Goals as goal

pub returns : goal.returns
returns c = can_give_there
