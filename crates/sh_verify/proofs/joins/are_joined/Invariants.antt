use Rattle.std.proofs.Common.{◌≡◌, drop}
use Rattle.sh_ir.specs.Agreement.{all_related, dims_agree}
use Rattle.sh_ir.specs.Results.{joined_dim}
use Rattle.sh_verify.proofs.joins.are_joined.Given as goal

-- the dimensions to come decide
abbrev pub invariant-loop-at : goal.invariant-loop-at
invariant-loop-at l =
    all_related (λ i d e. dims_agree (joined_dim l.axis l.types i) e) l.at (drop l.at l.extents) (drop l.at l.extents)
    ≡ all_related (λ i d e. dims_agree (joined_dim l.axis l.types i) e) 0 l.extents l.extents
