use Rattle.std.proofs.Common.{◌≡◌, map, take}
use Rattle.std.specs.List.{All}
use Rattle.sh_tensor.specs.Tensor.{IsTensor}
use Rattle.sh_collectives.proofs.results.shapes_of.Given as goal

-- the shapes of the tensors so far, which are whole
abbrev pub invariant-loop-at : goal.invariant-loop-at
invariant-loop-at l = record {
  value : map (λ s. s.now) l.shapes.items ≡ map (λ t. t.shape) (take l.at (map (λ t. t.now) l.ts));
  whole : All IsTensor (take l.at (map (λ t. t.now) l.ts));
}
