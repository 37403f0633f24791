use Rattle.sh_print_laws.proofs.PrintableForms.{printed_is_read}
use Rattle.sh_print_laws.proofs.modules_read_back.Goals as goal

pub returns : goal.returns
returns c = printed_is_read
