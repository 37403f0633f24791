use Rattle.std.proofs.Common.{◌≡◌, ◌+◌, take, map, min}
use Rattle.sh_base.specs.Shape.{max_cells}
use Rattle.sh_sharding.specs.Sharding.{counted_cells}
use Rattle.sh_sharding.specs.Views.{largest_described}
use Rattle.sh_sharding.proofs.local_sizes.is_local_small.Given as goal

-- the product so far, which stays too large once it is
abbrev pub invariant-loop-view : goal.invariant-loop-view
invariant-loop-view l = l.total ≡ min (counted_cells (map (largest_described l.g.extents) (take l.view-index l.views))) (max_cells + 1)
