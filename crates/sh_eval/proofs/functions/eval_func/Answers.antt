use Rattle.std.proofs.Common.{length, ap, subst, sym, ◌∙◌}
use Rattle.std.proofs.lemmas.Result.{IfOk-weaker}
use Rattle.sh_eval.specs.Functions.{CanEvaluateFrom, outcome_in}
use Rattle.sh_eval.specs.Stores.{values_in}
use Rattle.sh_eval.proofs.OutcomeLaws.{outcome_says}
use Rattle.sh_eval.proofs.RunLaws.{as_many, outcome_by, source_evaluates, start_is}
use Rattle.sh_eval.proofs.functions.eval_func.Goals as goal

pub at_start-requires : goal.at_start-requires
at_start-requires c = ap length c.as_slice.ensures ∙ as_many c.args.f.now.args c.args.args.now.items c.requires.typed ∙ sym (ap length c.as_slice-2.ensures.value)

pub run-requires : goal.run-requires
run-requires c =
    subst (λ ops. CanEvaluateFrom ops (values_in c.in_ok-store.store)) (sym c.as_slice-ops.ensures)
    (subst (CanEvaluateFrom c.args.f.now.ops) (sym (start_is c.args.f.now c.args.args.now.items c.as_slice.result.now c.as_slice-2.result.now (values_in c.in_ok-store.store) c.as_slice.ensures c.as_slice-2.ensures.value c.in_ok-store.ensures)) (source_evaluates c.args.f.now c.args.args.now.items c.requires.verified c.requires.typed))

pub returns-clause-value : goal.returns-clause-value
returns-clause-value c = IfOk-weaker c.run.result _ _ (λ e p. p ∙ outcome_by c.args.f.now c.args.args.now.items c.as_slice-ops.result.now c.returned.result.now (values_in c.in_ok-store.store) c.as_slice-ops.ensures c.returned.ensures (start_is c.args.f.now c.args.args.now.items c.as_slice.result.now c.as_slice-2.result.now (values_in c.in_ok-store.store) c.as_slice.ensures c.as_slice-2.ensures.value c.in_ok-store.ensures)) c.run.ensures

pub returns-clause-meaning : goal.returns-clause-meaning
returns-clause-meaning c = IfOk-weaker c.run.result _ _ (λ e p. outcome_says c.args.f.now c.args.args.now.items (outcome_in e) (p ∙ outcome_by c.args.f.now c.args.args.now.items c.as_slice-ops.result.now c.returned.result.now (values_in c.in_ok-store.store) c.as_slice-ops.ensures c.returned.ensures (start_is c.args.f.now c.args.args.now.items c.as_slice.result.now c.as_slice-2.result.now (values_in c.in_ok-store.store) c.as_slice.ensures c.as_slice-2.ensures.value c.in_ok-store.ensures))) c.run.ensures
