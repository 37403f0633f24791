use Rattle.sh_sharding.proofs.ViewLaws.{viewing_more}
use Rattle.sh_sharding.proofs.views.dimension_views.Goals as goal

pub loop-at-preserved : goal.loop-at-preserved
loop-at-preserved c =
    viewing_more c.args.dimensions.now c.loop-at.at c.loop-at.views c.view.result c.index-dimensions-at.result c.loop-at.invariant c.requires c.loop-at-test.true c.index-dimensions-at.is c.view.ensures.value
