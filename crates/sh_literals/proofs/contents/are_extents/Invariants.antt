use Rattle.std.proofs.Common.{◌≡◌, ◌≤◌, drop, length}
use Rattle.sh_literals.specs.LiteralCells.{are_extents}
use Rattle.sh_literals.proofs.contents.are_extents.Given as goal

abbrev pub invariant-loop-at : goal.invariant-loop-at
invariant-loop-at l =
    (are_extents (drop l.at l.dims) (drop l.at l.extents) ≡ are_extents l.dims l.extents)
    × (l.at ≤ length l.extents)
