use Rattle.std.proofs.Common.{◌≡◌, ◌-◌}
use Rattle.std.specs.Prelude.{filter, not, slice_get}
use Rattle.std.specs.List.{range_with_len}
use Rattle.sh_ir.specs.Loops.{unlisted}
use Rattle.sh_ir.specs.Numbers.{as_naturals}
use Rattle.sh_ir.specs.Regions.{is_among}
use Rattle.sh_iface_linalg.proofs.maps.unlisted_at.Given as goal

-- so many are still before it
abbrev pub invariant-loop-number : goal.invariant-loop-number
invariant-loop-number l =
    slice_get (filter (λ n. not (is_among (as_naturals l.listed) n)) (range_with_len l.number (l.bound - l.number))) l.before
    ≡ slice_get (unlisted l.bound (as_naturals l.listed)) l.at
