use Rattle.sh_plan.proofs.PlanReshards.{split_plan}
use Rattle.sh_plan.proofs.SplitLaws.{slice_reshards, take_reshards}
use Rattle.sh_plan.proofs.laws.split_law.Goals as goal

pub returns : goal.returns
returns c = record { slices = slice_reshards; takes = take_reshards; plan = split_plan }
