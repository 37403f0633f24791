use Rattle.std.proofs.Common.{◌≡◌, ◌++◌, drop, length}
use Rattle.sh_eval.specs.Cuts.{cut_index}
use Rattle.sh_eval.specs.Slices.{ranges_in}
use Rattle.sh_sem.specs.Slices.{sliced_index}
use Rattle.sh_eval.proofs.slices.sliced_index.Given as goal

abbrev pub invariant-loop-at : goal.invariant-loop-at
invariant-loop-at l = record {
  value : l.places.items ++ cut_index (sliced_index (ranges_in (drop l.at l.ranges)) (drop l.at l.index)) ≡ cut_index (sliced_index (ranges_in l.ranges) l.index);
  room : length l.places.items ≡ l.at;
  capacity : l.places.capacity ≡ 6;
}
