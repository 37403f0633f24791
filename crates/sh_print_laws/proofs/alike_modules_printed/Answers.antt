use Rattle.sh_print_laws.proofs.PrintedTwice.{alike_printed}
use Rattle.sh_print_laws.proofs.alike_modules_printed.Goals as goal

pub returns : goal.returns
returns c = alike_printed
