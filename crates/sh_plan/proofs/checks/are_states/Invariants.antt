use Rattle.std.proofs.Common.{All, take}
use Rattle.sh_sharding.specs.Sharding.{HasNoHalos}
use Rattle.sh_plan.specs.States.{IsStateTo}
use Rattle.sh_plan.proofs.checks.are_states.Given as goal

abbrev pub invariant-loop-entry : goal.invariant-loop-entry
invariant-loop-entry l = record {
  free : All (λ e. HasNoHalos e.sharding.dimensions) (take l.entry-index l.table);
  states : All (λ e. IsStateTo l.to e.sharding) (take l.entry-index l.table);
}
