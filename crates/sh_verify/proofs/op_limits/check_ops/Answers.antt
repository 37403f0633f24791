use Rattle.sh_verify.specs.LimitFaults.{op_limits}
use Rattle.sh_verify.proofs.LeastLaws.{found_more}
use Rattle.sh_verify.proofs.op_limits.check_ops.Goals as goal

pub loop-op-preserved : goal.loop-op-preserved
loop-op-preserved c =
    found_more (op_limits c.args.in_device) c.args.ops.now c.loop-op.op-index c.op-item.result c.loop-op.found c.check_op-found.result _
    c.loop-op-test.true c.op-item.is c.loop-op.invariant c.check_op-found.ensures
