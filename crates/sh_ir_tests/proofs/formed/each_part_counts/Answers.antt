use Rattle.sh_ir_tests.proofs.Breaking.{each_breaks, callee_breaks, cast_breaks, index_breaks}
use Rattle.sh_ir_tests.proofs.formed.each_part_counts.Goals as goal

pub returns-clause-each : goal.returns-clause-each
returns-clause-each c = each_breaks

pub returns-clause-callee : goal.returns-clause-callee
returns-clause-callee c = callee_breaks

pub returns-clause-cast : goal.returns-clause-cast
returns-clause-cast c = cast_breaks

pub returns-clause-index : goal.returns-clause-index
returns-clause-index c = index_breaks
