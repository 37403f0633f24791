use Rattle.std.proofs.Common.{◌≡◌, take}
use Rattle.sh_plan.proofs.moving.copied.Given as goal

abbrev pub invariant-loop-d : goal.invariant-loop-d
invariant-loop-d l = l.copy.items ≡ take l.d-index l.listed
