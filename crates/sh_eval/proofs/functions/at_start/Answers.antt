use Rattle.std.proofs.Common.{Some, ap, sym, ◌∙◌}
use Rattle.sh_ir.specs.declared.functions.Arg.{Arg}
use Rattle.sh_eval.specs.Stores.{values_in}
use Rattle.sh_sem.specs.Meaning.{with_value}
use Rattle.sh_eval.proofs.RunLaws.{start_more}
use Rattle.sh_eval.proofs.functions.at_start.Goals as goal

pub loop-at-preserved : goal.loop-at-preserved
loop-at-preserved c =
    start_more c.args.params.now c.args.args.now c.loop-at.at c.index-params-at.result c.index-args-at.result (values_in c.loop-at.store) (values_in c.define.new.self) c.loop-at-test.true c.requires
    c.index-params-at.is c.index-args-at.is c.loop-at.invariant
    (c.in_ok-define.ensures ∙ ap (λ (a : Arg). with_value (Some a.id) c.in_ok-new.field-0.value (values_in c.loop-at.store)) (sym c.index-params-at.is)
    ∙ ap (λ t. with_value (Some c.index-params-at.result.id) t (values_in c.loop-at.store)) (c.in_ok-new.ensures.ok ∙ c.in_ok-t.ensures))
