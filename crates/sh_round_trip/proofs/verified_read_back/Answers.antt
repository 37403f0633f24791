use Rattle.sh_ir.specs.declared.modules.Module.{Module}
use Rattle.sh_print_laws.specs.Printable.{HasFewNames, IsPrintable}
use Rattle.sh_print_laws.proofs.PrintableForms.{printed_is_read}
use Rattle.sh_print_laws.proofs.PrintedTwice.{twice_printed}
use Rattle.sh_print_laws.proofs.RulesKept.{kept_printable}
use Rattle.sh_verify.specs.Verified.{IsVerified}
use Rattle.sh_round_trip.proofs.verified_read_back.Goals as goal

printable : (m : Module) → IsVerified m → HasFewNames m → IsPrintable m
printable m v few = kept_printable m v.formed v.keeps_V1 v.keeps_V2 v.keeps_V5 few

pub returns-clause-read : goal.returns-clause-read
returns-clause-read c = λ m v few. printed_is_read m (printable m v few)

pub returns-clause-again : goal.returns-clause-again
returns-clause-again c = λ m n v few reads. twice_printed m n (printable m v few) reads
