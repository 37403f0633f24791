use Rattle.std.proofs.Common.{◌≡◌, drop}
use Rattle.std.specs.Prelude.{flat_map}
use Rattle.std.specs.List.{list_all}
use Rattle.sh_ir.specs.Operands.{has_extent}
use Rattle.sh_verify.specs.Followings.{followings, operands_in, placed_following}
use Rattle.sh_verify.proofs.loop_maps.extents_fit.Given as goal

-- the operands to come decide
abbrev pub invariant-loop-at : goal.invariant-loop-at
invariant-loop-at l =
    list_all (has_extent (followings l.all)) (flat_map placed_following (drop l.at (operands_in l.all)))
    ≡ list_all (has_extent (followings l.all)) (followings l.all)
