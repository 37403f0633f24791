use Rattle.sh_print_laws.proofs.RulesKept.{kept_printable}
use Rattle.sh_print_laws.proofs.kept_rules_printable.Goals as goal

pub returns : goal.returns
returns c = kept_printable
