use Rattle.std.proofs.lemmas.Result.{IfOk-weaker}
use Rattle.sh_verify.proofs.OpLaws.{op_found}
use Rattle.sh_verify.proofs.op_rules.check_op.Goals as goal

pub returns : goal.returns
returns c =
    IfOk-weaker c.check_region.result _ _
    (λ found is. op_found c.args.context.now c.args.op.now c.args.least c.in_ok-least.least c.check_types-least.result c.in_ok-least-2.least found
    c.in_ok-least.ensures c.check_types-least.ensures c.in_ok-least-2.ensures is)
    c.check_region.ensures
