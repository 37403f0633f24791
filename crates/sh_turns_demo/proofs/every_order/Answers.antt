use Rattle.sh_turns_demo.specs.Plain.{program_of}
use Rattle.sh_turns_demo.proofs.Programs.{well_formed}
use Rattle.sh_turns_demo.proofs.every_order.Goals as goal

pub returns : goal.returns
returns c = λ p is. c.every_order.ensures (program_of p) (well_formed p is)
