use Rattle.std.proofs.Common.{◌≡◌, ◌+◌, ◌-◌, ◌≤◌, length}
use Rattle.std.specs.Prelude.{filter, not}
use Rattle.std.specs.List.{range_with_len}
use Rattle.sh_ir.specs.Loops.{unlisted}
use Rattle.sh_ir.specs.Numbers.{as_naturals}
use Rattle.sh_ir.specs.Regions.{is_among}
use Rattle.sh_iface_linalg.proofs.maps.unlisted_count.Given as goal

-- those so far and those to come are all
abbrev pub invariant-loop-number : goal.invariant-loop-number
invariant-loop-number l =
    (l.count + length (filter (λ n. not (is_among (as_naturals l.listed) n)) (range_with_len l.number (l.bound - l.number)))
    ≡ length (unlisted l.bound (as_naturals l.listed)))
    × (l.count ≤ l.number)
