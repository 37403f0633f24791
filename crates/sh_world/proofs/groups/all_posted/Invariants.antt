use Rattle.std.proofs.Common.{◌≡◌, true, map, length}
use Rattle.std.specs.Prelude.{nat_le}
use Rattle.std.specs.List.{list_all, range_with_len}
use Rattle.sh_grid.specs.Grid.{member_of}
use Rattle.sh_turns.specs.World.{device_at}
use Rattle.sh_world.specs.States.{device_of}
use Rattle.sh_world.proofs.groups.all_posted.Given as goal

abbrev pub invariant-loop-place : goal.invariant-loop-place
invariant-loop-place l =
    list_all (λ m. nat_le l.count (length (device_at (map device_of l.states) m).posts))
    (map (member_of l.g.extents l.axes l.device) (range_with_len 0 l.place)) ≡ true
