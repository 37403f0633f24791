use Rattle.std.proofs.Common.{◌≡◌, ◌++◌, map, take}
use Rattle.sh_ir.specs.Shapes.{extent_of}
use Rattle.sh_print.proofs.spellings.push_extents.Given as goal

abbrev pub invariant-loop-dim : goal.invariant-loop-dim
invariant-loop-dim l =
    l.extents.items ≡ l.initial.extents.items ++ map extent_of (take l.dim-index l.dims)
