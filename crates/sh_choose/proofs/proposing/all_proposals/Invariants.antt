use Rattle.std.proofs.Common.{map}
use Rattle.std.specs.List.{range_with_len}
use Rattle.sh_choose.specs.Proposals.{proposals}
use Rattle.sh_choose.specs.Thinned.{AreThinned}
use Rattle.sh_choose.proofs.proposing.all_proposals.Given as goal

-- those of the loops so far
abbrev pub invariant-loop-l : goal.invariant-loop-l
invariant-loop-l g k =
    AreThinned (map (proposals (g.O.HasLoops.meaning k.op).nest k.known) (range_with_len 0 k.l)) k.all
