use Rattle.sh_ir_tests.proofs.Whole.{formed_network}
use Rattle.sh_ir_tests.proofs.formed.network_is_formed.Goals as goal

pub returns : goal.returns
returns c = formed_network
