use Rattle.std.proofs.Common.{◌≡◌, map, take}
use Rattle.sh_ir.specs.Shapes.{extent_of}
use Rattle.sh_admission.proofs.rules.whole_shape.Given as goal

abbrev pub invariant-loop-dim : goal.invariant-loop-dim
invariant-loop-dim l = l.extents.items ≡ map extent_of (take l.dim-index l.dim-items)
