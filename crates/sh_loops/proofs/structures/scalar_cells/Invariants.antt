use Rattle.std.proofs.Common.{◌≡◌, [], map, take}
use Rattle.sh_tensor.specs.Tensor.{at}
use Rattle.sh_loops.proofs.structures.scalar_cells.Given as goal

abbrev pub invariant-loop-at : goal.invariant-loop-at
invariant-loop-at l = l.cells.items ≡ map (λ t. at t []) (map (λ t. t.now) (take l.at l.scalars))
