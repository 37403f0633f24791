use Rattle.sh_verify_tests.proofs.OfModules.{network_within}
use Rattle.sh_verify_tests.proofs.samples.network_keeps_limits.Goals as goal

pub returns : goal.returns
returns c = network_within
