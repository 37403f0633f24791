use Rattle.std.proofs.Common.{◌≡◌, length, take}
use Rattle.sh_eval.proofs.shapes.narrow.Given as goal

abbrev pub invariant-loop-extent : goal.invariant-loop-extent
invariant-loop-extent l = record {
  value : l.all.items ≡ take l.extent-index l.extents;
  room : length l.all.items ≡ l.extent-index;
  capacity : l.all.capacity ≡ 6;
}
