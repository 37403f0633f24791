use Rattle.std.proofs.Common.{◌≡◌, take}
use Rattle.sh_sharding.specs.AxisLists.{listed_axes}
use Rattle.sh_sharding.proofs.axis_lists.all_listed.Given as goal

-- the lists so far are appended
abbrev pub invariant-loop-list : goal.invariant-loop-list
invariant-loop-list l = l.out.items ≡ listed_axes (take l.list-index l.lists)
