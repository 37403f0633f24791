use Rattle.sh_collectives.proofs.InstructionLaws.{in_order, results_known}
use Rattle.sh_collectives.proofs.verified.device_form_laws.Goals as goal

pub returns-clause-instructions : goal.returns-clause-instructions
returns-clause-instructions c = in_order

pub returns-clause-results : goal.returns-clause-results
returns-clause-results c = results_known
