use Rattle.std.proofs.Common.{take}
use Rattle.sh_sharding.specs.Positions.{IsLeastDiffering}
use Rattle.sh_sharding.proofs.positions.least_differing.Given as goal

-- the least number so far
abbrev pub invariant-loop-position : goal.invariant-loop-position
invariant-loop-position l = IsLeastDiffering (take l.position-index l.positions) l.part l.cells l.least
