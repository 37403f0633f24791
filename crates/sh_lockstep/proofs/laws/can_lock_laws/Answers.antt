use Rattle.sh_lockstep.proofs.Verified.{can_lock}
use Rattle.sh_lockstep.proofs.laws.can_lock_laws.Goals as goal

pub returns : goal.returns
returns c = can_lock
