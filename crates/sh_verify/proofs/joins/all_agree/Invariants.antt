use Rattle.std.proofs.Common.{◌≡◌, drop}
use Rattle.std.specs.List.{list_all}
use Rattle.sh_ir.specs.Agreement.{dims_agree}
use Rattle.sh_verify.specs.Joins.{dim_at}
use Rattle.sh_verify.proofs.joins.all_agree.Given as goal

-- the operands to come decide
abbrev pub invariant-loop-value_type : goal.invariant-loop-value_type
invariant-loop-value_type l =
    list_all (λ t. dims_agree l.dim (dim_at t l.at)) (drop l.value_type-index l.types) ≡ list_all (λ t. dims_agree l.dim (dim_at t l.at)) l.types
