use mathlib.Core.Path.{◌∙◌, sym, subst}
use Rattle.sh_verify.specs.Least.{IsLeast, by_place}
use Rattle.sh_verify.proofs.LimitLaws.{limits_found}
use Rattle.sh_verify.proofs.OrderLaws.{least_found, none_found}
use Rattle.sh_verify.proofs.module_limits.limits.Goals as goal

pub returns-in-None-clause-kept : goal.returns-in-None-clause-kept
returns-in-None-clause-kept c =
    limits_found c.args.m.now ∙ none_found by_place _ (sym c.check_module.ensures ∙ c.in-None.is)

pub returns-in-Some-clause-refused : goal.returns-in-Some-clause-refused
returns-in-Some-clause-refused c =
    subst (λ faults. IsLeast by_place faults c.in-Some.refusal) (sym (limits_found c.args.m.now))
    (least_found by_place c.order_is_total.ensures _ _ (sym c.check_module.ensures ∙ c.in-Some.is))
