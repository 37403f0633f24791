use Rattle.sh_print_laws.proofs.PrintedTwice.{twice_printed}
use Rattle.sh_print_laws.proofs.printing_twice.Goals as goal

pub returns : goal.returns
returns c = twice_printed
