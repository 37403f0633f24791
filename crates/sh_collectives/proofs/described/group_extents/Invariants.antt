use Rattle.std.proofs.Common.{◌≡◌, take, length}
use Rattle.sh_grid.specs.Grid.{on_axes}
use Rattle.sh_ir.specs.Numbers.{as_naturals}
use Rattle.sh_collectives.proofs.described.group_extents.Given as goal

abbrev pub invariant-loop-axis : goal.invariant-loop-axis
invariant-loop-axis l = record {
  value : l.found.items ≡ take l.axis-index (on_axes (as_naturals l.axes) l.g.extents);
  room : length l.found.items ≡ l.axis-index;
  capacity : l.found.capacity ≡ 6;
}
