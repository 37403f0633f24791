use Rattle.sh_plan.specs.declared.moves.Move.TheVariants.{M2}
use Rattle.sh_plan.proofs.CandidateSteps.{mapped_more}
use Rattle.sh_plan.proofs.candidates.push_m2_of.Goals as goal

pub loop-a-preserved : goal.loop-a-preserved
loop-a-preserved c = mapped_more (M2 c.args.d) c.args.moves.now c.loop-a.moves c.push.new.self c.loop-a.a c.loop-a.invariant c.in_ok-push.ensures.ok
