use Rattle.std.proofs.Common.{◌≡◌, drop}
use Rattle.sh_ir.specs.Numbers.{are_distinct, as_naturals}
use Rattle.sh_verify.specs.Lists.{all_axes}
use Rattle.sh_verify.proofs.axis_lists.are_all_distinct.Given as goal

-- the lists to come decide
abbrev pub invariant-loop-at : goal.invariant-loop-at
invariant-loop-at l = are_distinct (as_naturals (all_axes (drop l.at l.lists))) ≡ are_distinct (as_naturals (all_axes l.lists))
