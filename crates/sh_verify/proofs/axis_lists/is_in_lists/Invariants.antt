use Rattle.std.proofs.Common.{◌≡◌, drop}
use Rattle.sh_ir.specs.Numbers.{as_naturals}
use Rattle.sh_ir.specs.Regions.{is_among}
use Rattle.sh_verify.specs.Lists.{all_axes}
use Rattle.sh_verify.proofs.axis_lists.is_in_lists.Given as goal

-- the lists to come decide
abbrev pub invariant-loop-axes : goal.invariant-loop-axes
invariant-loop-axes l =
    is_among (as_naturals (all_axes (drop l.axes-index l.lists))) l.number
    ≡ is_among (as_naturals (all_axes l.lists)) l.number
