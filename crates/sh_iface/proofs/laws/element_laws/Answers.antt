use Rattle.sh_iface.proofs.ElementLaws.{element_lawful}
use Rattle.sh_iface.proofs.ElementOf.{element_of_verified, element_interface}
use Rattle.sh_iface.proofs.laws.element_laws.Goals as goal

pub returns : goal.returns
returns c = record {
  lawful = element_lawful;
  verified = element_of_verified;
  interface = element_interface;
}
