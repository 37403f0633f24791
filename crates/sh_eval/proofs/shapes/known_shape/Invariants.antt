use Rattle.std.proofs.Common.{◌≡◌, ◌++◌, length, drop}
use Rattle.std.specs.Prelude.{option_map}
use Rattle.sh_sem.specs.Given.{known_shape}
use Rattle.sh_eval.proofs.shapes.known_shape.Given as goal

abbrev pub invariant-loop-dim : goal.invariant-loop-dim
invariant-loop-dim l = record {
  value : option_map (λ more. l.extents.items ++ more) (known_shape (drop l.dim-index l.dims)) ≡ known_shape l.dims;
  room : length l.extents.items ≡ l.dim-index;
  capacity : l.extents.capacity ≡ 6;
}
