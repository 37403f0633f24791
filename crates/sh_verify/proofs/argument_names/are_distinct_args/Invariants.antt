use Rattle.sh_verify.proofs.NameLaws.{AreSeen, ids}
use Rattle.sh_verify.proofs.argument_names.are_distinct_args.Given as goal

abbrev pub invariant-loop-arg : goal.invariant-loop-arg
invariant-loop-arg l = AreSeen l.seen.keys (ids l.args) l.arg-index
