use Rattle.std.proofs.Common.{◌≡◌, ◌*◌, ◌≤◌, drop, min}
use Rattle.sh_verify.specs.Lists.{above_extents}
use Rattle.sh_verify.specs.Relations.{size_of_axes}
use Rattle.sh_verify.proofs.relations.count_along.Given as goal

-- those along the axes so far, times those to come
abbrev pub invariant-loop-axis : goal.invariant-loop-axis
invariant-loop-axis l =
    (min (l.count * size_of_axes l.extents (drop l.axis-index l.axes)) above_extents ≡ min (size_of_axes l.extents l.axes) above_extents)
    × (l.count ≤ above_extents)
