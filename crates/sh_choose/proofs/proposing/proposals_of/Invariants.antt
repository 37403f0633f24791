use Rattle.std.proofs.Common.{◌∷◌, take}
use Rattle.std.specs.Prelude.{None}
use Rattle.std.specs.List.{flat_map}
use Rattle.sh_choose.specs.Proposals.{proposals_by}
use Rattle.sh_choose.specs.Thinned.{IsThinned}
use Rattle.sh_choose.proofs.proposing.proposals_of.Given as goal

-- what the known shardings so far propose is added
abbrev pub invariant-loop-k : goal.invariant-loop-k
invariant-loop-k g k =
    IsThinned (None ∷ flat_map (proposals_by (g.O.HasLoops.meaning k.op).nest k.l) (take k.k-index k.known)) k.proposals
