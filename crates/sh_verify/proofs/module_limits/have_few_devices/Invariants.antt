use Rattle.std.proofs.Common.{◌≡◌, ◌*◌, ◌+◌, ◌≤◌, drop, min}
use Rattle.sh_base.specs.Shape.{cell_count}
use Rattle.sh_base.specs.Limits.{max_devices}
use Rattle.sh_ir.specs.Numbers.{as_naturals}
use Rattle.sh_verify.proofs.module_limits.have_few_devices.Given as goal

-- the product so far, cut where it is too great, times those to come
abbrev pub invariant-loop-extent : goal.invariant-loop-extent
invariant-loop-extent l =
    (min (max_devices + 1) (l.count * cell_count (as_naturals (drop l.extent-index l.extents)))
    ≡ min (max_devices + 1) (cell_count (as_naturals l.extents)))
    × (l.count ≤ max_devices + 1)
