use Rattle.std.proofs.Common.{◌≡◌, take}
use Rattle.sh_grid.specs.Grid.{group_size_of}
use Rattle.sh_grid.proofs.groups.size_along.Given as goal

-- the size of a group along the axes so far
abbrev pub invariant-loop-axis : goal.invariant-loop-axis
invariant-loop-axis l = l.size ≡ group_size_of l.g.extents (take l.axis-index l.axes)
