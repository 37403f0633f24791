use Rattle.sh_verify_tests.proofs.OfCuts.{cuts_right}
use Rattle.sh_verify_tests.proofs.samples.cuts_give_local_types.Goals as goal

pub returns : goal.returns
returns c = cuts_right
