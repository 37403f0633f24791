use Rattle.std.proofs.Common.{◌≡◌, take}
use Rattle.sh_grid.specs.Grid.{place_in}
use Rattle.sh_grid.proofs.groups.place_in_group.Given as goal

-- the place in the group along the axes so far
abbrev pub invariant-loop-axis : goal.invariant-loop-axis
invariant-loop-axis l = l.place ≡ place_in l.g.extents (take l.axis-index l.axes) l.device
