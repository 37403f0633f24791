use Rattle.sh_sharding.proofs.LocalSizeLaws.{counted_step}
use Rattle.sh_collectives.proofs.sizes.is_small.Goals as goal

pub loop-size-preserved : goal.loop-size-preserved
loop-size-preserved c =
    counted_step (λ n. n) c.args.sizes.now c.loop-size.size-index c.loop-size.total c.counted_with-total.result _ c.loop-size-test.true c.loop-size.invariant c.counted_with-total.ensures
