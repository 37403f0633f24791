use Rattle.std.proofs.Common.{◌≡◌, ◌∙◌, ℕ, ap, true, false, refl, rules, subst, sym}
use Rattle.std.specs.Prelude.{IfNone}
use Rattle.sh_cli.specs.Answer.{IsPartitioning}
use Rattle.sh_cli.specs.Answer.IsPartitioning.{partitions, unbuilt}
use Rattle.sh_cli.specs.VectorSum.{IsVectorSum, IsDivisible, partitioned_text}
use Rattle.sh_cli.specs.declared.status.Status.TheVariants.{Success}
use Rattle.sh_cli.proofs.Begins.{one_sum}
use Rattle.sh_cli.proofs.main_call.partitioned.Goals as goal

pub returns-in_default-clause-err : goal.returns-in_default-clause-err
returns-in_default-clause-err c =
    let none : (extent devices : ℕ) → ¬ (IsVectorSum c.args.text.now extent devices) =
    subst (λ o. IfNone o ((extent devices : ℕ) → ¬ (IsVectorSum c.args.text.now extent devices))) c.in_default.is c.in_ok-sum.ensures.none in
    unbuilt (λ extent devices is divisible. none extent devices is)

pub returns-then-not-is_divisible-clause-err : goal.returns-then-not-is_divisible-clause-err
returns-then-not-is_divisible-clause-err c = unbuilt (λ extent devices is divisible.
    let sum = c.in-Some.sum in
    let read : IsVectorSum c.args.text.now sum.extent sum.devices = search rules in
    let same = one_sum c.args.text.now extent devices sum.extent sum.devices is read in
    let so : false ≡ true = c.if-not-is_divisible.ensures.1 (subst (IsDivisible sum.extent) same.1 (subst (λ n. IsDivisible n devices) same.0 divisible)) in
    absurd (cc so))

pub returns-clause-ok : goal.returns-clause-ok
returns-clause-ok c =
    let sum = c.in-Some.sum in
    let read : IsVectorSum c.args.text.now sum.extent sum.devices = search rules in
    let made : c.into_bytes.result.items ≡ partitioned_text sum.extent sum.devices =
    ap (λ v. v.items) c.into_bytes.ensures.value ∙ c.in_ok-partitioned_text.ensures in
    subst (IsPartitioning c.args.text.now Success) (sym made)
    (partitions sum.extent sum.devices read (c.if-not-is_divisible.ensures.0 refl))
