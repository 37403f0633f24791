use Rattle.std.proofs.Common.{◌≡◌, take}
use Rattle.sh_sharding_tests.proofs.readings.copies.Given as goal

-- the dimensions so far
abbrev pub invariant-loop-dimension : goal.invariant-loop-dimension
invariant-loop-dimension l = l.copies ≡ take l.dimension-index l.dimensions
