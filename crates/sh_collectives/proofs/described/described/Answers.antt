use Rattle.sh_collectives.proofs.DescribedLaws.{described_gather, described_reduce, described_scatter, described_exchange, described_shift}
use Rattle.std.proofs.Common.{refl}
use Rattle.sh_collectives.proofs.described.described.Goals as goal

pub returns-in-AllGather-clause-some : goal.returns-in-AllGather-clause-some
returns-in-AllGather-clause-some c = described_gather c.args.kind.now c.args.g.now.extents _ c.in-AllGather.x c.in-AllGather.is refl c.dims_of.ensures

pub returns-in-AllReduce-clause-some : goal.returns-in-AllReduce-clause-some
returns-in-AllReduce-clause-some c = described_reduce c.args.kind.now c.args.g.now.extents _ c.in-AllReduce.x c.in-AllReduce.is refl c.dims_of-in-AllReduce.ensures

pub returns-in-ReduceScatter-clause-some : goal.returns-in-ReduceScatter-clause-some
returns-in-ReduceScatter-clause-some c =
    described_scatter c.args.kind.now c.args.g.now.extents _ c.in-ReduceScatter.x c.in-ReduceScatter.is refl c.dims_of-in-ReduceScatter.ensures

pub returns-in-AllToAll-clause-some : goal.returns-in-AllToAll-clause-some
returns-in-AllToAll-clause-some c = described_exchange c.args.kind.now c.args.g.now.extents _ c.in-AllToAll.x c.in-AllToAll.is refl c.dims_of-in-AllToAll.ensures

pub returns-in-Shift-clause-some : goal.returns-in-Shift-clause-some
returns-in-Shift-clause-some c =
    described_shift c.args.kind.now c.args.g.now.extents _ c.in-Shift.x c.shifting.result c.in-Shift.is refl c.shifting.ensures c.dims_of-in-Shift.ensures
