use Rattle.std.proofs.Common.{◌≡◌, drop, get_or, map, set}
use Rattle.sh_tensor.specs.Tensor.{joined_at}
use Rattle.sh_eval.proofs.pieces.joined.Given as goal

abbrev pub invariant-loop-at : goal.invariant-loop-at
invariant-loop-at l = record {
  value : joined_at l.axis (drop l.at (map (λ t. t.now) l.ts)) (set l.index l.axis l.place) ≡ joined_at l.axis (map (λ t. t.now) l.ts) l.index;
  place : get_or (set l.index l.axis l.place) l.axis 0 ≡ l.place;
}
