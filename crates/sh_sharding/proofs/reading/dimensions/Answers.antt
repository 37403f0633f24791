use Rattle.sh_sharding.proofs.NormalLaws.{marked_through}
use Rattle.sh_sharding.proofs.reading.dimensions.Goals as goal

pub returns-clause-marked : goal.returns-clause-marked
returns-clause-marked c = marked_through _ c.args.s.now c.as_slice.result.now c.s.view_is c.s.invariant.sharding c.as_slice.ensures
