use Rattle.std.proofs.Common.{◌≡◌, ◌++◌, ◌-◌, take, replicate}
use Rattle.sh_base.specs.Shape.{max_rank}
use Rattle.sh_plan.proofs.moving.appended.Given as goal

abbrev pub invariant-loop-at : goal.invariant-loop-at
invariant-loop-at l = l.all ≡ take l.at l.axes ++ replicate (max_rank - l.at) l.axis
