use Rattle.std.proofs.Common.{◌≡◌, drop}
use Rattle.std.specs.List.{list_all}
use Rattle.sh_ir.specs.Numbers.{is_below}
use Rattle.sh_verify.specs.Lists.{all_axes}
use Rattle.sh_verify.proofs.axis_lists.are_all_below.Given as goal

-- the lists to come decide
abbrev pub invariant-loop-axes : goal.invariant-loop-axes
invariant-loop-axes l =
    list_all (is_below l.bound) (all_axes (drop l.axes-index l.lists)) ≡ list_all (is_below l.bound) (all_axes l.lists)
