use Rattle.std.proofs.Common.{◌≡◌, ◌-◌, drop, nat_eq}
use Rattle.std.specs.Cmp.Lexicographic.{pointwise}
use Rattle.std.specs.List.{range_with_len}
use Rattle.sh_verify.proofs.maps.count_up.Given as goal

-- the names to come decide
abbrev pub invariant-loop-at : goal.invariant-loop-at
invariant-loop-at l =
    pointwise nat_eq (drop l.at l.names) (range_with_len l.at (l.bound - l.at)) ≡ pointwise nat_eq l.names (range_with_len 0 l.bound)
