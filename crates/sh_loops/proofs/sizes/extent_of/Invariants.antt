use Rattle.std.proofs.Common.{◌≡◌, drop, map}
use Rattle.sh_loops.specs.Sizes.{extent_by}
use Rattle.sh_loops.proofs.sizes.extent_of.Given as goal

abbrev pub invariant-loop-at : goal.invariant-loop-at
invariant-loop-at l =
    extent_by (drop l.at l.maps) (drop l.at (map (λ t. t.now) l.operands)) l.l
    ≡ extent_by l.maps (map (λ t. t.now) l.operands) l.l
