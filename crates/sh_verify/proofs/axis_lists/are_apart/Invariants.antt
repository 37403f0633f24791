use Rattle.std.proofs.Common.{◌≡◌, drop}
use Rattle.sh_verify.specs.Lists.{all_axes, is_apart}
use Rattle.sh_verify.proofs.axis_lists.are_apart.Given as goal

-- the numbers to come decide
abbrev pub invariant-loop-axis : goal.invariant-loop-axis
invariant-loop-axis l = is_apart (drop l.axis-index l.axes) (all_axes l.others) ≡ is_apart l.axes (all_axes l.others)
