use Rattle.sh_print_laws.proofs.ReadingBack.{types_read}
use Rattle.sh_print_laws.proofs.types_read_back.Goals as goal

pub returns : goal.returns
returns c = types_read
