use Rattle.std.proofs.Common.{map}
use Rattle.std.specs.List.{range_with_len}
use Rattle.sh_plan.specs.declared.moves.Move.TheVariants.{M2}
use Rattle.sh_plan.proofs.CandidateSteps.{joined_more}
use Rattle.sh_plan.proofs.candidates.push_each_m2.Goals as goal

pub loop-d-preserved : goal.loop-d-preserved
loop-d-preserved c = joined_more (λ d. map (M2 d) (range_with_len 0 c.args.axes)) c.args.moves.now c.loop-d.moves c.push_m2_of.new.moves c.loop-d.d c.loop-d.invariant c.in_ok-push_m2_of.ensures
