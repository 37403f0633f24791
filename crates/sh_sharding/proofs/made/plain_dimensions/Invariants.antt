use Rattle.std.proofs.Common.{◌≡◌, take, map}
use Rattle.sh_sharding.specs.Made.{plain}
use Rattle.sh_sharding.proofs.made.plain_dimensions.Given as goal

-- the dimensions so far
abbrev pub invariant-loop-dimension : goal.invariant-loop-dimension
invariant-loop-dimension l = l.bare ≡ map plain (take l.dimension-index l.dimensions)
