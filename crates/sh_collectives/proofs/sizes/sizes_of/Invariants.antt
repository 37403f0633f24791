use Rattle.std.proofs.Common.{◌≡◌, take, length}
use Rattle.sh_collectives.proofs.sizes.sizes_of.Given as goal

abbrev pub invariant-loop-extent : goal.invariant-loop-extent
invariant-loop-extent l = record {
  value : l.sizes.items ≡ take l.extent-index l.extents;
  room : length l.sizes.items ≡ l.extent-index;
  capacity : l.sizes.capacity ≡ 6;
}
