use Rattle.sh_iface.proofs.Implied.{unsplit_valid}
use Rattle.sh_iface.proofs.laws.unsplit_is_valid.Goals as goal

pub returns : goal.returns
returns c = unsplit_valid
