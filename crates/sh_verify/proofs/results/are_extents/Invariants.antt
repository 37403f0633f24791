use Rattle.std.proofs.Common.{◌≡◌, drop}
use Rattle.sh_ir.specs.Agreement.{shapes_agree}
use Rattle.sh_ir.specs.Numbers.{known_dims}
use Rattle.sh_verify.proofs.results.are_extents.Given as goal

-- the dimensions to come decide
abbrev pub invariant-loop-at : goal.invariant-loop-at
invariant-loop-at l =
    shapes_agree (known_dims (drop l.at l.written)) (drop l.at l.extents) ≡ shapes_agree (known_dims l.written) l.extents
