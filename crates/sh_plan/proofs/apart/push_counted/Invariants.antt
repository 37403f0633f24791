use Rattle.std.proofs.Common.{◌≡◌, ◌++◌, ◌∷◌, length, take}
use Rattle.sh_plan.proofs.apart.push_counted.Given as goal

abbrev pub invariant-loop-number : goal.invariant-loop-number
invariant-loop-number l = l.code ≡ l.fn.code ++ length l.listed ∷ take l.number-index l.listed
