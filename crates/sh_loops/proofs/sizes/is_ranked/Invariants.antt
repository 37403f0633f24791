use Rattle.std.proofs.Common.{drop, map}
use Rattle.sh_loops.specs.Sizes.{AreRanked}
use Rattle.sh_loops.proofs.sizes.is_ranked.Given as goal

-- what is left decides
abbrev pub invariant-loop-at : goal.invariant-loop-at
invariant-loop-at l =
    AreRanked (drop l.at l.maps) (drop l.at (map (λ t. t.now) l.operands)) → AreRanked l.maps (map (λ t. t.now) l.operands)
