use Rattle.std.proofs.Common.{map}
use Rattle.std.specs.List.{range_with_len}
use Rattle.sh_plan.specs.declared.moves.Move.TheVariants.{M3}
use Rattle.sh_plan.proofs.CandidateSteps.{joined_more}
use Rattle.sh_plan.proofs.candidates.push_each_m3.Goals as goal

pub loop-d-preserved : goal.loop-d-preserved
loop-d-preserved c = joined_more (λ d. map (M3 d) (range_with_len 0 c.args.rank)) c.args.moves.now c.loop-d.moves c.push_m3_of.new.moves c.loop-d.d c.loop-d.invariant c.in_ok-push_m3_of.ensures
