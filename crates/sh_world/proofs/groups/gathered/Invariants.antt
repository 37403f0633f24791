use Rattle.std.proofs.Common.{◌≡◌, map, Some}
use Rattle.std.specs.Prelude.{slice_get}
use Rattle.std.specs.List.{range_with_len}
use Rattle.sh_grid.specs.Grid.{member_of}
use Rattle.sh_turns.specs.Program.{all_there}
use Rattle.sh_turns.specs.World.{device_at, posted_for}
use Rattle.sh_world.specs.States.{device_of}
use Rattle.sh_world.proofs.groups.gathered.Given as goal

abbrev pub invariant-loop-place : goal.invariant-loop-place
invariant-loop-place l =
    all_there (map (λ m. posted_for l.instruction (slice_get (device_at (map device_of l.states) m).posts l.number))
    (map (member_of l.g.extents l.axes l.device) (range_with_len 0 l.place))) ≡ Some (map (λ t. t.now) l.found.items)
