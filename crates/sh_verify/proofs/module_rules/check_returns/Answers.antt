use Rattle.sh_verify.specs.RuleFaults.{return_rules}
use Rattle.sh_verify.proofs.LeastLaws.{found_more}
use Rattle.sh_verify.proofs.module_rules.check_returns.Goals as goal

pub loop-op-preserved : goal.loop-op-preserved
loop-op-preserved c =
    found_more (return_rules c.args.results.now) c.args.ops.now c.loop-op.op-index c.op-item.result c.loop-op.found c.check_return-found.result _
    c.loop-op-test.true c.op-item.is c.loop-op.invariant c.check_return-found.ensures
