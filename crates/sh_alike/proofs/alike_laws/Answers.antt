use Rattle.sh_alike.proofs.Alike.{reflexive, symmetric, transitive}
use Rattle.sh_alike.proofs.alike_laws.Goals as goal

pub returns : goal.returns
returns c = record { reflexive = reflexive; symmetric = symmetric; transitive = transitive }
