use Rattle.sh_print_laws.proofs.ReadingBack.{kinds_read}
use Rattle.sh_print_laws.proofs.right_sides_read_back.Goals as goal

pub returns : goal.returns
returns c = kinds_read
