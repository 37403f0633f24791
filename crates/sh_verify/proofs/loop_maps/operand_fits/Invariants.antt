use Rattle.std.proofs.Common.{◌≡◌, drop}
use Rattle.std.specs.List.{list_all}
use Rattle.sh_ir.specs.Operands.{following, has_extent}
use Rattle.sh_verify.specs.Followings.{followings, map_in}
use Rattle.sh_verify.proofs.loop_maps.operand_fits.Given as goal

-- the dimensions to come decide
abbrev pub invariant-loop-at : goal.invariant-loop-at
invariant-loop-at l =
    list_all (has_extent (followings l.all)) (following (drop l.at (map_in l.loops)) (drop l.at l.extents))
    ≡ list_all (has_extent (followings l.all)) (following (map_in l.loops) l.extents)
