use Rattle.std.proofs.Common.{map, ap, subst, sym, ◌∙◌}
use Rattle.std.specs.Prelude.{option_map}
use Rattle.std.proofs.lemmas.Result.{IfOk-weaker}
use Rattle.sh_eval.specs.Evaluations.{CanEvaluate}
use Rattle.sh_eval.specs.Functions.{IsReachedOn}
use Rattle.sh_eval.specs.Stores.{values_in}
use Rattle.sh_sem.specs.Given.{alone}
use Rattle.sh_turns.specs.Program.{all_there}
use Rattle.sh_eval.proofs.WorkLaws.{can_evaluate_there, reached_missing, reached_there}
use Rattle.sh_eval.proofs.steps.reach.Goals as goal

pub reach_on-requires-clause-can : goal.reach_on-requires-clause-can
reach_on-requires-clause-can c =
    subst (λ ts. CanEvaluate c.args.op.now alone (map (λ t. t.now) ts)) (sym c.as_slice-in-Some.ensures.value)
    (can_evaluate_there c.args.op.now (values_in c.args.store.now) (map (λ t. t.now) c.in-Some.ts.items) c.requires.can c.requires.computes (ap (option_map (λ ts. map (λ t. t.now) ts.items)) (sym c.in-Some.is) ∙ c.in_ok-ts.ensures ∙ ap (λ names. all_there (map (values_in c.args.store.now) names)) c.as_slice.ensures))

pub returns-in-Some : goal.returns-in-Some
returns-in-Some c =
    IfOk-weaker c.reach_on.result _ _
    (λ r p.
    reached_there c.args.op.now (values_in c.args.store.now) (map (λ t. t.now) c.in-Some.ts.items) c.args.so_far r c.requires.computes (ap (option_map (λ ts. map (λ t. t.now) ts.items)) (sym c.in-Some.is) ∙ c.in_ok-ts.ensures ∙ ap (λ names. all_there (map (values_in c.args.store.now) names)) c.as_slice.ensures)
    (subst (λ ts. IsReachedOn c.args.op.now (map (λ t. t.now) ts) c.args.so_far r) c.as_slice-in-Some.ensures.value p))
    c.reach_on.ensures

pub returns-in-None : goal.returns-in-None
returns-in-None c =
    reached_missing c.args.op.now (values_in c.args.store.now) c.args.so_far c.requires.small c.requires.computes (ap (option_map (λ ts. map (λ t. t.now) ts.items)) (sym c.in-None.is) ∙ c.in_ok-ts.ensures ∙ ap (λ names. all_there (map (values_in c.args.store.now) names)) c.as_slice.ensures)
