use Rattle.std.proofs.Common.{◌≡◌, take, length, set}
use Rattle.sh_collectives.proofs.sizes.sizes_with.Given as goal

abbrev pub invariant-loop-at : goal.invariant-loop-at
invariant-loop-at l = record {
  value : l.sizes.items ≡ take l.at (set l.extents l.axis l.size);
  room : length l.sizes.items ≡ l.at;
  capacity : l.sizes.capacity ≡ 6;
}
