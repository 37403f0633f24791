use Rattle.std.proofs.Common.{◌≡◌, ◌≤◌, ◌-◌, drop, nat_eq}
use Rattle.std.specs.Prelude.{flat_map}
use Rattle.std.specs.Cmp.Lexicographic.{pointwise}
use Rattle.std.specs.List.{range_with_len}
use Rattle.sh_ir.specs.Numbers.{as_naturals}
use Rattle.sh_verify.proofs.slices.count_up.Given as goal

-- the groups to come decide
abbrev pub invariant-loop-group : goal.invariant-loop-group
invariant-loop-group l =
    (pointwise nat_eq (flat_map as_naturals (drop l.group-index l.groups)) (range_with_len l.next (l.bound - l.next))
    ≡ pointwise nat_eq (flat_map as_naturals l.groups) (range_with_len 0 l.bound))
    × (l.next ≤ l.bound)
