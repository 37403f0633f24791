use Rattle.std.proofs.Common.{ap, drop, subst, sym, ◌+◌, ◌∙◌, ◌∷◌}
use Rattle.std.proofs.lemmas.List.{drop_more}
use Rattle.sh_eval.specs.Functions.{IsStep}
use Rattle.sh_eval.specs.Stores.{values_in}
use Rattle.sh_eval.specs.Uses.{uses_in}
use Rattle.sh_eval.proofs.RunLaws.{can_behind, ends_behind}
use Rattle.sh_eval.proofs.UseLaws.{can_too, outcome_too, still_agree}
use Rattle.sh_eval.proofs.functions.run.Goals as goal

-- what is behind the operation, and the values that are let go are used no more
pub loop-at-preserved : goal.loop-at-preserved
loop-at-preserved c =
    let ops = c.args.ops.now in
    let names = c.args.names.now in
    let at = c.loop-at.at in
    let op = c.index-ops-at.result in
    let rest = drop (at + 1) ops in
    let old = values_in c.loop-at.store in
    let mid = values_in c.advance.new.store in
    let new = values_in c.forget_ended.new.store in
    let here = drop_more ops at op c.loop-at-test.true ∙ ap (λ o. o ∷ rest) (sym c.index-ops-at.is) in
    let done = subst (λ s. IsStep op old c.loop-at.work s mid) c.in-Done.is c.in_ok-sum.ensures in
    let can = can_behind ops names at op c.loop-at.work old _ here c.loop-at.invariant.0 c.loop-at.invariant.1.0 c.in-Done.sum mid done in
    let ends = ends_behind ops names at op c.loop-at.work old _ here c.loop-at.invariant.0 c.loop-at.invariant.1.0 c.in-Done.sum mid done in
    let agree = still_agree ops names at op (uses_in c.in_ok-uses.uses) mid new c.in_ok-uses.ensures c.forget_ended.ensures in
    (can_too rest names mid new agree can, (sym (outcome_too c.in-Done.sum (at + 1) rest names mid new agree) ∙ ends, done.small))
