use Rattle.sh_sharding.proofs.EqualityLaws.{admission_laws}
use Rattle.sh_sharding.proofs.laws.admission_laws.Goals as goal

pub returns : goal.returns
returns c = admission_laws
