use Rattle.std.proofs.Common.{◌≡◌, take}
use Rattle.sh_plan.specs.States.{code_of}
use Rattle.sh_plan.proofs.apart.code.Given as goal

abbrev pub invariant-loop-d : goal.invariant-loop-d
invariant-loop-d l = l.code ≡ code_of (take l.d-index l.listed)
