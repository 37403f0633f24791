use Rattle.std.proofs.Common.{Some, map, subst}
use Rattle.sh_loops.specs.Placing.{IsAlike}
use Rattle.sh_sem.specs.Region.{placed_op}
use Rattle.sh_loops.proofs.PlacedLaws.{one_placed}
use Rattle.sh_loops.proofs.placing.placed_steps.Goals as goal

pub loop-at-preserved : goal.loop-at-preserved
loop-at-preserved c =
    one_placed _ _ _ _ _ _ c.args.ops.now c.loop-at.at _ c.loop-at-test.true c.index-ops-at.is c.loop-at.invariant
    (subst (λ ns. IsAlike c.in_ok-placed_step.field-0 (placed_op (map (λ n. Some n) ns) c.index-ops-at.result)) c.as_slice.ensures.value c.in_ok-placed_step.ensures) c.in_ok-push.ensures.items c.in_ok-push-2.ensures.items
