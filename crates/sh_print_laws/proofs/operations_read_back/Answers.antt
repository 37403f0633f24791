use Rattle.sh_print_laws.proofs.OperationForms.{operations_read}
use Rattle.sh_print_laws.proofs.operations_read_back.Goals as goal

pub returns : goal.returns
returns c = operations_read
