use Rattle.std.proofs.Common.{◌≡◌, map, take}
use Rattle.sh_turns.specs.World.{fresh}
use Rattle.sh_turns_demo.proofs.machine.start.Given as goal

abbrev pub invariant-loop-arguments : goal.invariant-loop-arguments
invariant-loop-arguments l = l.world.items ≡ map fresh (take l.arguments-index l.program.arguments.items)
