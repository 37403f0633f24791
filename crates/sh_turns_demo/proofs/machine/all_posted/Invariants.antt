use Rattle.std.proofs.Common.{◌≡◌, true, take, length}
use Rattle.std.specs.Prelude.{nat_le}
use Rattle.std.specs.List.{list_all}
use Rattle.sh_turns.specs.World.{device_at}
use Rattle.sh_turns_demo.proofs.machine.all_posted.Given as goal

abbrev pub invariant-loop-member : goal.invariant-loop-member
invariant-loop-member l = list_all (λ m. nat_le l.count (length (device_at l.world m).posts)) (take l.member-index l.members) ≡ true
