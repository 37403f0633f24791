use Rattle.std.proofs.Common.{◌≡◌, length, take, set}
use Rattle.sh_eval.specs.Cuts.{cut_index}
use Rattle.sh_eval.proofs.pieces.with_coordinate.Given as goal

abbrev pub invariant-loop-at : goal.invariant-loop-at
invariant-loop-at l = record {
  value : l.places.items ≡ take l.at (set l.index l.axis l.place);
  cut : l.places.items ≡ cut_index (take l.at (set l.index l.axis l.place));
  room : length l.places.items ≡ l.at;
  capacity : l.places.capacity ≡ 6;
}
