use Rattle.sh_sharding.proofs.EqualityLaws.{equality_laws}
use Rattle.sh_sharding.proofs.laws.equality_laws.Goals as goal

pub returns : goal.returns
returns c = equality_laws
