use Rattle.std.proofs.Common.{◌≡◌, length, map}
use Rattle.sh_loops.specs.Sizes.{extents_with}
use Rattle.sh_loops.proofs.sizes.extents.Given as goal

abbrev pub invariant-loop-l : goal.invariant-loop-l
invariant-loop-l l = record {
  value : l.found.items ≡ extents_with l.maps (map (λ t. t.now) l.operands) l.l;
  room : length l.found.items ≡ l.l;
  capacity : l.found.capacity ≡ 6;
}
