use Rattle.std.proofs.Common.{◌≡◌, drop, map}
use Rattle.sh_loops.specs.Sizes.{all_with_room}
use Rattle.sh_loops.proofs.sizes.all_have_room.Given as goal

abbrev pub invariant-loop-at : goal.invariant-loop-at
invariant-loop-at l = all_with_room l.extents (drop l.at l.maps) (drop l.at (map (λ t. t.now) l.operands)) ≡ all_with_room l.extents l.maps (map (λ t. t.now) l.operands)
