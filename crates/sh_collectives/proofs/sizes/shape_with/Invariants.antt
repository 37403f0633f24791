use Rattle.std.proofs.Common.{◌≡◌, take, length}
use Rattle.sh_collectives.proofs.sizes.shape_with.Given as goal

abbrev pub invariant-loop-size : goal.invariant-loop-size
invariant-loop-size l = record {
  value : l.extents.items ≡ take l.size-index l.sizes;
  room : length l.extents.items ≡ l.size-index;
  capacity : l.extents.capacity ≡ 6;
}
