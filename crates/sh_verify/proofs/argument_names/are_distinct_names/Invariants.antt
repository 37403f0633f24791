use Rattle.sh_verify.proofs.NameLaws.{AreSeen}
use Rattle.sh_verify.proofs.argument_names.are_distinct_names.Given as goal

abbrev pub invariant-loop-name : goal.invariant-loop-name
invariant-loop-name l = AreSeen l.seen.keys l.names l.name-index
