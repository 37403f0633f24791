use Rattle.std.proofs.Common.{◌≡◌, take, length}
use Rattle.sh_ir.specs.Numbers.{as_naturals}
use Rattle.sh_world.proofs.groups.axes_on.Given as goal

abbrev pub invariant-loop-axis : goal.invariant-loop-axis
invariant-loop-axis l = record {
  value : l.found.items ≡ take l.axis-index (as_naturals l.axes);
  room : length l.found.items ≡ l.axis-index;
  capacity : l.found.capacity ≡ 6;
}
