use Rattle.sh_sharding.proofs.TogetherLaws.{IsFirstSoFar}
use Rattle.sh_sharding.proofs.together.compare.Given as goal

-- the first differing cell of the devices so far
abbrev pub invariant-loop-device : goal.invariant-loop-device
invariant-loop-device l = IsFirstSoFar l.s l.parts l.cells l.device l.first_device l.first_cell
