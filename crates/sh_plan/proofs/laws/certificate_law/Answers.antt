use Rattle.sh_plan.proofs.CertificateLaws.{least}
use Rattle.sh_plan.proofs.laws.certificate_law.Goals as goal

pub returns : goal.returns
returns c = least
