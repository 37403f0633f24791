use Rattle.sh_verify.specs.LimitFaults.{func_limits}
use Rattle.sh_verify.proofs.LeastLaws.{found_more}
use Rattle.sh_verify.proofs.module_limits.check_funcs.Goals as goal

pub loop-f-preserved : goal.loop-f-preserved
loop-f-preserved c =
    found_more func_limits c.args.funcs.now c.loop-f.f-index c.f-item.result c.loop-f.found c.check_func-found.result _
    c.loop-f-test.true c.f-item.is c.loop-f.invariant c.check_func-found.ensures
