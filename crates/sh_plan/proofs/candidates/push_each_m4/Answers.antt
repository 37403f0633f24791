use Rattle.sh_plan.specs.declared.moves.Move.TheVariants.{M4}
use Rattle.sh_plan.proofs.CandidateSteps.{mapped_more}
use Rattle.sh_plan.proofs.candidates.push_each_m4.Goals as goal

pub loop-d-preserved : goal.loop-d-preserved
loop-d-preserved c = mapped_more M4 c.args.moves.now c.loop-d.moves c.push.new.self c.loop-d.d c.loop-d.invariant c.in_ok-push.ensures.ok
