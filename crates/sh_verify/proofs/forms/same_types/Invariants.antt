use Rattle.std.proofs.Common.{◌≡◌, drop}
use Rattle.std.specs.Cmp.Lexicographic.{pointwise}
use Rattle.sh_ir.specs.Agreement.{same_type}
use Rattle.sh_verify.proofs.forms.same_types.Given as goal

-- the types to come decide
abbrev pub invariant-loop-at : goal.invariant-loop-at
invariant-loop-at l = pointwise same_type (drop l.at l.left) (drop l.at l.right) ≡ pointwise same_type l.left l.right
