use Rattle.std.proofs.Common.{◌≡◌}
use Rattle.std.specs.List.{flat_map, range_with_len}
use Rattle.sh_tensor.specs.Runs.{joined_row}
use Rattle.sh_tensor.proofs.joins.rows_joined.Given as goal

-- the rows so far
abbrev pub invariant-loop-at : goal.invariant-loop-at
invariant-loop-at l = l.out.items ≡ flat_map (joined_row l.parts l.rows) (range_with_len 0 l.at)
