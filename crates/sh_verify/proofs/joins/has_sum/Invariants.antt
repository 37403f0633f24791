use Rattle.std.proofs.Common.{◌≡◌, ◌*◌, ◌≤◌, drop}
use Rattle.sh_ir.specs.Results.{dims_along}
use Rattle.sh_verify.specs.Joins.{has_sum}
use Rattle.sh_verify.specs.Lists.{above_extents}
use Rattle.sh_verify.proofs.joins.has_sum.Given as goal

-- the operands to come decide
abbrev pub invariant-loop-value_type : goal.invariant-loop-value_type
invariant-loop-value_type l =
    (has_sum l.count l.total (dims_along l.axis (drop l.value_type-index l.types)) ≡ has_sum l.count 0 (dims_along l.axis l.types))
    × (l.total ≤ l.value_type-index * above_extents)
