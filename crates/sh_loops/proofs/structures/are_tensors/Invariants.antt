use Rattle.std.proofs.Common.{map, take}
use Rattle.std.specs.List.{All}
use Rattle.sh_tensor.specs.Tensor.{IsHeld}
use Rattle.sh_loops.proofs.structures.are_tensors.Given as goal

abbrev pub invariant-loop-at : goal.invariant-loop-at
invariant-loop-at l = All IsHeld (take l.at (map (λ t. t.now) l.ins))
