use Rattle.std.proofs.Common.{◌≡◌, ◌+◌, drop, nat_eq}
use Rattle.std.specs.List.{position_or_len}
use Rattle.sh_ir.specs.Numbers.{as_naturals}
use Rattle.sh_iface_linalg.proofs.maps.place_of.Given as goal

-- it is behind those so far
abbrev pub invariant-loop-at : goal.invariant-loop-at
invariant-loop-at l =
    l.at + position_or_len (nat_eq l.number) (as_naturals (drop l.at l.written))
    ≡ position_or_len (nat_eq l.number) (as_naturals l.written)
