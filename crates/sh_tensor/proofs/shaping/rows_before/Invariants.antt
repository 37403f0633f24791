use Rattle.std.proofs.Common.{◌≡◌, take}
use Rattle.sh_base.specs.Shape.{cell_count}
use Rattle.sh_tensor.proofs.shaping.rows_before.Given as goal

-- the product so far
abbrev pub invariant-loop-extent : goal.invariant-loop-extent
invariant-loop-extent l = l.rows ≡ cell_count (take l.extent-index l.extent-items)
