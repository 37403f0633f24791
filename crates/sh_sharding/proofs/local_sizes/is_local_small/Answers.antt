use Rattle.std.proofs.Common.{◌+◌, ◌*◌, min, max, ap, ◌∙◌}
use Rattle.sh_base.specs.Shape.{max_cells}
use Rattle.sh_sharding.specs.Views.{largest_described}
use Rattle.sh_sharding.proofs.LocalSizeLaws.{counted_step}
use Rattle.sh_sharding.proofs.local_sizes.is_local_small.Goals as goal

pub loop-view-preserved : goal.loop-view-preserved
loop-view-preserved c =
    counted_step (largest_described c.args.g.now.extents) c.args.views.now c.loop-view.view-index c.loop-view.total c.counted_with-total.result _ c.loop-view-test.true c.loop-view.invariant
    (c.counted_with-total.ensures ∙ ap (λ z. min (c.loop-view.total * max 1 z) (max_cells + 1)) c.largest_extent.ensures)
