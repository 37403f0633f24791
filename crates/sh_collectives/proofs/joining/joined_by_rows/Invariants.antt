use Rattle.std.proofs.Common.{◌≡◌, map}
use Rattle.std.specs.List.{flat_map, range_with_len}
use Rattle.sh_tensor.specs.Runs.{joined_row}
use Rattle.sh_collectives.proofs.joining.joined_by_rows.Given as goal

-- the rows so far
abbrev pub invariant-loop-at : goal.invariant-loop-at
invariant-loop-at l = l.out.items ≡ flat_map (joined_row (map (λ t. t.now) l.ts) l.rows) (range_with_len 0 l.at)
