use Rattle.std.proofs.Common.{◌≡◌, map, take}
use Rattle.sh_world.specs.Scripts.{without_return}
use Rattle.sh_world.proofs.scripts.instructions.Given as goal

abbrev pub invariant-loop-op : goal.invariant-loop-op
invariant-loop-op l = map (λ op. op.now) l.found.items ≡ without_return (take l.op-index l.ops)
