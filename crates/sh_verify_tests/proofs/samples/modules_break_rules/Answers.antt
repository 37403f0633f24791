use Rattle.sh_verify_tests.proofs.OfModules.{counts_right, lengths_right, modules_right}
use Rattle.sh_verify_tests.proofs.samples.modules_break_rules.Goals as goal

pub returns-clause-modules : goal.returns-clause-modules
returns-clause-modules c = modules_right

pub returns-clause-counts : goal.returns-clause-counts
returns-clause-counts c = counts_right

pub returns-clause-lengths : goal.returns-clause-lengths
returns-clause-lengths c = lengths_right
