use Rattle.sh_sharding.specs.Positions.{AreExtended}
use Rattle.sh_sharding.proofs.positions.extended.Given as goal

-- the positions at the entries so far
abbrev pub invariant-loop-entry : goal.invariant-loop-entry
invariant-loop-entry l = AreExtended l.positions l.stride l.from l.entry l.out.items
