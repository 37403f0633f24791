use Rattle.std.proofs.Common.{◌≡◌, ◌+◌, ◌∙◌, ap, sym, take, ◌++◌, ◌∷◌, [], subst}
use Rattle.std.proofs.lemmas.List.{take_more}
use Rattle.sh_base.specs.declared.rules.Rule.TheVariants.{V10}
use Rattle.sh_verify.specs.CutFaults.{AreCutFaults}
use Rattle.sh_verify.specs.Least.{by_place, fault_unless, least_of}
use Rattle.sh_verify.proofs.CutLaws.{cut_faults_more}
use Rattle.sh_verify.proofs.LeastLaws.{least_of_both}
use Rattle.sh_verify.proofs.cut_rules.check_cuts.Goals as goal

pub loop-f-preserved : goal.loop-f-preserved
loop-f-preserved c =
    let faults = c.loop-f.invariant.0 in
    let one = fault_unless c.in_ok-kept.kept c.f-item.result.place V10 in
    let next : take (c.loop-f.f-index + 1) c.args.funcs.now ≡ take c.loop-f.f-index c.args.funcs.now ++ c.f-item.result ∷ [] =
    take_more c.args.funcs.now c.loop-f.f-index c.f-item.result c.loop-f-test.true
    ∙ ap (λ x. take c.loop-f.f-index c.args.funcs.now ++ x ∷ []) (sym c.f-item.is) in (
      faults ++ one,
      subst (λ fs. AreCutFaults c.args.tables.now fs (faults ++ one)) (sym next)
          (cut_faults_more c.args.tables.now (take c.loop-f.f-index c.args.funcs.now) faults c.f-item.result c.in_ok-kept.kept
          c.loop-f.invariant.1 c.in_ok-kept.ensures),
      c.unless_kept-found.ensures ∙ (ap (λ l. least_of by_place l one) c.loop-f.invariant.2
          ∙ sym (least_of_both by_place c.args.least faults one)),
    )
