use Rattle.std.proofs.Common.{◌≡◌, ◌-◌}
use Rattle.std.specs.List.{range_with_len}
use Rattle.sh_verify.specs.Joins.{columns_agree}
use Rattle.sh_verify.proofs.joins.columns_agree.Given as goal

-- the dimensions to come decide
abbrev pub invariant-loop-at : goal.invariant-loop-at
invariant-loop-at l =
    columns_agree l.axis l.types (range_with_len l.at (l.rank - l.at)) ≡ columns_agree l.axis l.types (range_with_len 0 l.rank)
