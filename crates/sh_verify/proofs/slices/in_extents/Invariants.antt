use Rattle.std.proofs.Common.{◌≡◌, drop}
use Rattle.sh_ir.specs.Attributes.{in_extents}
use Rattle.sh_ir.specs.Numbers.{as_naturals}
use Rattle.sh_verify.proofs.slices.in_extents.Given as goal

-- the dimensions to come decide
abbrev pub invariant-loop-at : goal.invariant-loop-at
invariant-loop-at l =
    in_extents (as_naturals (drop l.at l.offsets)) (as_naturals (drop l.at l.sizes)) (as_naturals (drop l.at l.strides)) (drop l.at l.dims)
    ≡ in_extents (as_naturals l.offsets) (as_naturals l.sizes) (as_naturals l.strides) l.dims
