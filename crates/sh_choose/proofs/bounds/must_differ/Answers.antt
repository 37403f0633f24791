use Rattle.std.proofs.Common.{arith}
use Rattle.sh_choose.proofs.BoundLaws.{split_otherwise}
use Rattle.sh_choose.proofs.bounds.must_differ.Goals as goal

pub returns-then-is_split_otherwise : goal.returns-then-is_split_otherwise
returns-then-is_split_otherwise g c =
    λ t rest v. split_otherwise (g.O.HasLoops.meaning c.args.op.now).nest c.args.g.now c.args.o.now rest c.args.k.now c.loop-dim.dim c.requires
    (omega (arith, c.loop-dim-test.true, c.loop-dim.auto.dim-end, c.rank-dim-end.ensures.value)) (c.is_split_otherwise.ensures c.if-is_split_otherwise.true)
