use Rattle.std.proofs.Common.{◌≤◌, ℕ, ap, refl, ◌∙◌, arith}
use Rattle.std.specs.Prelude.{◌==◌, count_by}
use Rattle.std.proofs.lemmas.List.Sums.{count_by-le-length}
use Rattle.sh_sharding.proofs.ViewAdmissionLaws.{times_more}
use Rattle.sh_sharding.proofs.admitted.times_in.Goals as goal

pub overflow_add-times : goal.overflow_add-times
overflow_add-times c =
    let here = count_by-le-length (λ (b : ℕ). b == c.args.axis) c.as_slice.result.now in
    let few = c.loop-view.invariant.few in
    omega (arith, c.times_listed-times.ensures, c.as_slice.ensures.short)

pub loop-view-preserved : goal.loop-view-preserved
loop-view-preserved c =
    let here = count_by-le-length (λ (b : ℕ). b == c.args.axis) c.as_slice.result.now in
    let few : c.times_listed-times.result ≤ 6 = omega (arith, c.times_listed-times.ensures, c.as_slice.ensures.short) in
    times_more c.args.views.now c.args.axis c.loop-view.view-index c.loop-view.times c.times_listed-times.result _ _ c.loop-view-test.true c.loop-view.invariant
    (c.times_listed-times.ensures ∙ ap (count_by (λ (b : ℕ). b == c.args.axis)) c.as_slice.ensures.value) few refl
