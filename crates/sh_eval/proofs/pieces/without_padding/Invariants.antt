use Rattle.std.proofs.Common.{◌≡◌, ◌++◌, drop, length}
use Rattle.sh_ir.specs.Numbers.{as_naturals}
use Rattle.sh_sem.specs.Pieces.{without_padding}
use Rattle.sh_eval.proofs.pieces.without_padding.Given as goal

abbrev pub invariant-loop-at : goal.invariant-loop-at
invariant-loop-at l = record {
  value : l.places.items ++ without_padding (as_naturals (drop l.at l.low)) (drop l.at l.index) ≡ without_padding (as_naturals l.low) l.index;
  room : length l.places.items ≡ l.at;
  capacity : l.places.capacity ≡ 6;
}
