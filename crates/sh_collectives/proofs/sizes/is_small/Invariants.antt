use Rattle.std.proofs.Common.{◌≡◌, ◌+◌, take, map, min}
use Rattle.sh_base.specs.Shape.{max_cells}
use Rattle.sh_sharding.specs.Sharding.{counted_cells}
use Rattle.sh_collectives.proofs.sizes.is_small.Given as goal

-- the product so far, which stays too large once it is
abbrev pub invariant-loop-size : goal.invariant-loop-size
invariant-loop-size l = l.total ≡ min (counted_cells (map (λ n. n) (take l.size-index l.sizes))) (max_cells + 1)
