use Rattle.std.proofs.Common.{◌≡◌, map, take}
use Rattle.sh_world.specs.States.{tensor_at}
use Rattle.sh_world.proofs.turning.values_at.Given as goal

abbrev pub invariant-loop-place : goal.invariant-loop-place
invariant-loop-place l = map (λ t. t.now) l.found.items ≡ map (tensor_at l.values) (take l.place-index l.places)
