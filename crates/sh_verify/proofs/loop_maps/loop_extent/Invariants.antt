use Rattle.std.proofs.Common.{◌≡◌, drop}
use Rattle.std.specs.Prelude.{flat_map}
use Rattle.sh_ir.specs.Operands.{loop_dim}
use Rattle.sh_verify.specs.Followings.{followings, operands_in, placed_following}
use Rattle.sh_verify.proofs.loop_maps.loop_extent.Given as goal

-- the operands to come decide
abbrev pub invariant-loop-at : goal.invariant-loop-at
invariant-loop-at l =
    loop_dim (flat_map placed_following (drop l.at (operands_in l.all))) l.number ≡ loop_dim (followings l.all) l.number
