use Rattle.std.proofs.Common.{List, ◌++◌}
use Rattle.std.specs.Prelude.{Option}
use Rattle.std.specs.List.{flat_map, range_with_len}
use Rattle.sh_iface.specs.declared.options.Split.{Split}
use Rattle.sh_choose.specs.Proposals.{listed, proposal_for}
use Rattle.sh_choose.specs.Thinned.{IsThinned}
use Rattle.sh_choose.proofs.proposing.add_by_known.Given as goal

-- what the dimensions so far propose is added
abbrev pub invariant-loop-dim : goal.invariant-loop-dim
invariant-loop-dim g k =
    (all : List (Option Split)) → IsThinned all k.fn.proposals
    → IsThinned (all ++ flat_map (λ dim. listed (proposal_for (g.O.HasLoops.meaning k.op).nest k.l k.k dim)) (range_with_len 0 k.dim)) k.proposals
