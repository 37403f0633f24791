use Rattle.sh_ways.proofs.Numbering.{holds}
use Rattle.sh_ways.proofs.laws.numbered.Goals as goal

pub returns : goal.returns
returns g c = holds
