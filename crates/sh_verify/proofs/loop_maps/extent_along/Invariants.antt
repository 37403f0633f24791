use Rattle.std.proofs.Common.{◌≡◌, drop}
use Rattle.sh_ir.specs.Operands.{following, loop_dim}
use Rattle.sh_verify.specs.Followings.{map_in}
use Rattle.sh_verify.proofs.loop_maps.extent_along.Given as goal

-- the dimensions to come decide
abbrev pub invariant-loop-at : goal.invariant-loop-at
invariant-loop-at l =
    loop_dim (following (drop l.at (map_in l.loops)) (drop l.at l.extents)) l.number
    ≡ loop_dim (following (map_in l.loops) l.extents) l.number
