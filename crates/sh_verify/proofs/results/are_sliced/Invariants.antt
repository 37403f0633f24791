use Rattle.std.proofs.Common.{◌≡◌, drop}
use Rattle.sh_ir.specs.Agreement.{shapes_agree}
use Rattle.sh_ir.specs.Attributes.{sliced_dims}
use Rattle.sh_verify.proofs.results.are_sliced.Given as goal

-- the dimensions to come decide
abbrev pub invariant-loop-at : goal.invariant-loop-at
invariant-loop-at l =
    shapes_agree (sliced_dims (drop l.at l.sizes) (drop l.at l.whole)) (drop l.at l.part)
    ≡ shapes_agree (sliced_dims l.sizes l.whole) l.part
