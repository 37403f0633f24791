use Rattle.std.proofs.Common.{arith, ◌∙◌, ap, ◌++◌, ◌∷◌, []}
use Rattle.std.specs.Prelude.{None}
use Rattle.sh_choose.proofs.ThinnedLaws.{all_known, first_proposal}
use Rattle.sh_choose.proofs.proposing.proposals_of.Goals as goal

pub loop-k-init : goal.loop-k-init
loop-k-init g c =
    first_proposal c.push.new.self (c.in_ok-push.ensures.ok ∙ ap (λ ps. ps ++ None ∷ []) c.new-proposals.ensures)

pub returns : goal.returns
returns g c =
    all_known (g.O.HasLoops.meaning c.args.op.now).nest c.args.known.now c.args.l c.loop-k.k-index c.loop-k.proposals (omega (arith, c.loop-k-test.false)) c.loop-k.invariant
