use Rattle.std.proofs.Common.{◌≡◌, drop}
use Rattle.sh_verify.specs.Joins.{column}
use Rattle.sh_verify.proofs.joins.column.Given as goal

-- the operands to come decide
abbrev pub invariant-loop-value_type : goal.invariant-loop-value_type
invariant-loop-value_type l = column (drop l.value_type-index l.types) l.at ≡ column l.types l.at
