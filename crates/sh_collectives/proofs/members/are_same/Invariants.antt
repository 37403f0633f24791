use Rattle.std.proofs.Common.{◌≡◌, drop, map}
use Rattle.std.specs.List.{list_all}
use Rattle.std.specs.Prelude.{nat_eq}
use Rattle.std.specs.Cmp.Lexicographic.{pointwise}
use Rattle.sh_collectives.proofs.members.are_same.Given as goal

abbrev pub invariant-loop-other : goal.invariant-loop-other
invariant-loop-other l =
    list_all (pointwise nat_eq l.first) (map (λ s. s.now) (drop l.other-index l.others)) ≡ list_all (pointwise nat_eq l.first) (map (λ s. s.now) l.others)
