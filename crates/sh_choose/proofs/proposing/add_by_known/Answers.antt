use Rattle.std.proofs.Common.{◌++◌, arith, ℕ}
use Rattle.std.specs.List.{flat_map, range_with_len}
use Rattle.sh_choose.specs.Proposals.{listed, proposal_for}
use Rattle.sh_choose.proofs.ThinnedLaws.{all_dims, more_dims}
use Rattle.sh_choose.proofs.proposing.add_by_known.Goals as goal

pub loop-dim-preserved : goal.loop-dim-preserved
loop-dim-preserved g c =
    let by = λ (dim : ℕ). listed (proposal_for (g.O.HasLoops.meaning c.args.op.now).nest c.args.l c.args.k.now dim) in
    λ all h. more_dims by c.loop-dim.dim all c.add_by_dimension.new.proposals (c.in_ok-add_by_dimension.ensures (all ++ flat_map by (range_with_len 0 c.loop-dim.dim)) (c.loop-dim.invariant all h))

pub returns : goal.returns
returns g c =
    λ all h. all_dims (g.O.HasLoops.meaning c.args.op.now).nest c.args.l c.args.k.now c.loop-dim.dim all c.loop-dim.proposals (omega (arith, c.loop-dim-test.false, c.loop-dim.auto.dim-end, c.rank-dim-end.ensures.value)) (c.loop-dim.invariant all h)
