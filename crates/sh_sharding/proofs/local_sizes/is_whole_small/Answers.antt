use Rattle.sh_sharding.proofs.LocalSizeLaws.{counted_step}
use Rattle.sh_sharding.proofs.local_sizes.is_whole_small.Goals as goal

pub loop-view-preserved : goal.loop-view-preserved
loop-view-preserved c =
    counted_step (λ view. view.extent) c.args.views.now c.loop-view.view-index c.loop-view.total c.counted_with-total.result _ c.loop-view-test.true c.loop-view.invariant c.counted_with-total.ensures
