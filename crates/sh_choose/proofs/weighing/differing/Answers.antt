use Rattle.sh_sharding.proofs.Cases.{not_both}
use Rattle.std.specs.Prelude.{◌&&◌}
use Rattle.sh_choose.specs.declared.chosen.Known.{Known}
use Rattle.sh_choose.specs.Weights.{differs, is_of}
use Rattle.sh_choose.proofs.BoundLaws.{count_after}
use Rattle.sh_choose.proofs.weighing.differing.Goals.{then-branch, else-branch}
use Rattle.sh_choose.proofs.weighing.differing.Goals as goal

pub loop-k-preserved : goal.loop-k-preserved
loop-k-preserved g c =
    let counted = λ (k : Known). is_of c.args.user k && differs (g.O.HasLoops.meaning c.args.op.now).nest c.args.g.now c.args.o.now k in
    let b = c.in_ok-counts.field-0 in
    let after = count_after counted c.args.known.now c.loop-k.k-index c.loop-k.count c.if-branch.count c.k-item.result b c.loop-k-test.true c.k-item.is c.in_ok-counts.ensures c.loop-k.invariant in
    elim c.if-branch.branch [
      | then-branch w ↦ after (λ t. w.count-is) (λ f. absurd (not_both b w.if-branch.true f))
      | else-branch w ↦ after (λ t. absurd (not_both b t w.if-branch.false)) (λ f. w.count-is)
    ]
