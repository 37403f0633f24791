use Rattle.std.proofs.Common.{◌≡◌, ◌++◌, map, take}
use Rattle.sh_tensor.specs.Runs.{joined_row}
use Rattle.sh_collectives.proofs.joining.push_row.Given as goal

-- the rows of the tensors so far have been appended
abbrev pub invariant-loop-t : goal.invariant-loop-t
invariant-loop-t l = l.out.items ≡ l.fn.out.items ++ joined_row (take l.t-index (map (λ t. t.now) l.ts)) l.rows l.at
