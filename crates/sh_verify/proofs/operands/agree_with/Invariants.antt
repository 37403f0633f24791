use Rattle.std.proofs.Common.{◌≡◌, drop, map}
use Rattle.std.specs.Cmp.Lexicographic.{pointwise}
use Rattle.sh_ir.specs.Agreement.{types_agree}
use Rattle.sh_verify.proofs.operands.agree_with.Given as goal

-- the operands to come decide
abbrev pub invariant-loop-at : goal.invariant-loop-at
invariant-loop-at l =
    pointwise types_agree (drop l.at l.types) (map (λ arg. arg.value_type) (drop l.at l.args))
    ≡ pointwise types_agree l.types (map (λ arg. arg.value_type) l.args)
