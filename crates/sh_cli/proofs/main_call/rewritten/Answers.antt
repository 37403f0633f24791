use Rattle.std.proofs.Common.{IfOk, subst, sym}
use Rattle.sh_cli.specs.Ending.{IsRewriting}
use Rattle.sh_cli.specs.declared.status.Status.TheVariants.{Success}
use Rattle.sh_cli.proofs.main_call.rewritten.Goals as goal

pub returns-then-partition-clause-ok : goal.returns-then-partition-clause-ok
returns-then-partition-clause-ok c =
    subst (λ b. IfOk c.partitioned.result (λ output. IsRewriting b c.args.text.now Success output.items)) (sym c.if-partition.true)
    c.partitioned.ensures.ok

pub returns-else-partition-clause-ok : goal.returns-else-partition-clause-ok
returns-else-partition-clause-ok c =
    subst (λ b. IfOk c.printed.result (λ output. IsRewriting b c.args.text.now Success output.items)) (sym c.if-partition.false)
    c.printed.ensures.ok
