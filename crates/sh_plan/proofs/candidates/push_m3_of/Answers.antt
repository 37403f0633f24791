use Rattle.sh_plan.specs.declared.moves.Move.TheVariants.{M3}
use Rattle.sh_plan.proofs.CandidateSteps.{mapped_more}
use Rattle.sh_plan.proofs.candidates.push_m3_of.Goals as goal

pub loop-e-preserved : goal.loop-e-preserved
loop-e-preserved c = mapped_more (M3 c.args.d) c.args.moves.now c.loop-e.moves c.push.new.self c.loop-e.e c.loop-e.invariant c.in_ok-push.ensures.ok
