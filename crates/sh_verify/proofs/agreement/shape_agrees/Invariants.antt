use Rattle.std.proofs.Common.{◌≡◌, drop}
use Rattle.std.specs.Cmp.Lexicographic.{pointwise}
use Rattle.sh_ir.specs.Agreement.{dims_agree}
use Rattle.sh_verify.proofs.agreement.shape_agrees.Given as goal

-- the extents to come decide
abbrev pub invariant-loop-at : goal.invariant-loop-at
invariant-loop-at l = pointwise dims_agree (drop l.at l.left) (drop l.at l.right) ≡ pointwise dims_agree l.left l.right
