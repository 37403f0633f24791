use Rattle.sh_int.proofs.SignedLaws.{twos_complement}
use Rattle.sh_int.proofs.complement.signed_laws.Goals as goal

pub returns : goal.returns
returns c = twos_complement c.args.w
