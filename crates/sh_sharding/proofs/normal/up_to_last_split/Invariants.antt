use Rattle.sh_sharding.proofs.NormalLaws.{IsLastSplit}
use Rattle.sh_sharding.proofs.normal.up_to_last_split.Given as goal

abbrev pub invariant-loop-at : goal.invariant-loop-at
invariant-loop-at l = IsLastSplit l.dimensions l.at l.count
