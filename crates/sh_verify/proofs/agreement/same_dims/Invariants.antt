use Rattle.std.proofs.Common.{◌≡◌, drop}
use Rattle.std.specs.Cmp.Lexicographic.{pointwise}
use Rattle.sh_ir.specs.Agreement.{same_dim}
use Rattle.sh_verify.proofs.agreement.same_dims.Given as goal

-- the extents to come decide
abbrev pub invariant-loop-at : goal.invariant-loop-at
invariant-loop-at l = pointwise same_dim (drop l.at l.left) (drop l.at l.right) ≡ pointwise same_dim l.left l.right
