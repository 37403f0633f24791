use Rattle.std.proofs.Common.{◌≡◌, Some, map, take}
use Rattle.std.specs.Prelude.{slice_get}
use Rattle.sh_turns.specs.Program.{all_there}
use Rattle.sh_turns.specs.World.{device_at, posted_for}
use Rattle.sh_turns_demo.proofs.machine.gathered.Given as goal

abbrev pub invariant-loop-member : goal.invariant-loop-member
invariant-loop-member l = all_there (map (λ m. posted_for l.instruction (slice_get (device_at l.world m).posts l.number)) (take l.member-index l.members)) ≡ Some l.operands.items
