use Rattle.std.proofs.Common.{◌≡◌, drop}
use Rattle.std.specs.List.{list_all}
use Rattle.sh_ir.specs.Agreement.{same_rank_and_bits}
use Rattle.sh_verify.proofs.joins.are_like.Given as goal

-- the operands to come decide
abbrev pub invariant-loop-value_type : goal.invariant-loop-value_type
invariant-loop-value_type l =
    list_all (same_rank_and_bits l.first) (drop l.value_type-index l.types) ≡ list_all (same_rank_and_bits l.first) l.types
