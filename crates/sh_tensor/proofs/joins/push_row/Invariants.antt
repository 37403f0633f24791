use Rattle.std.proofs.Common.{◌≡◌, ◌++◌, take}
use Rattle.sh_tensor.specs.Runs.{joined_row}
use Rattle.sh_tensor.proofs.joins.push_row.Given as goal

-- the rows of the parts so far have been appended
abbrev pub invariant-loop-part : goal.invariant-loop-part
invariant-loop-part l = l.out.items ≡ l.fn.out.items ++ joined_row (take l.part-index l.parts) l.rows l.at
