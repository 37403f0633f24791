use Rattle.sh_verify.specs.RuleFaults.{call_rules}
use Rattle.sh_verify.proofs.LeastLaws.{found_more}
use Rattle.sh_verify.proofs.module_rules.check_calls.Goals as goal

pub loop-item-preserved : goal.loop-item-preserved
loop-item-preserved c =
    found_more call_rules c.args.items.now c.loop-item.item-index c.item-item.result c.loop-item.found c.check_call-found.result _
    c.loop-item-test.true c.item-item.is c.loop-item.invariant c.check_call-found.ensures
