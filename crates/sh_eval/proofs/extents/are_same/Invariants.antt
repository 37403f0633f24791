use Rattle.std.proofs.Common.{◌≡◌, drop, map}
use Rattle.std.specs.Prelude.{nat_eq}
use Rattle.std.specs.Cmp.Lexicographic.{pointwise}
use Rattle.std.specs.List.{list_all}
use Rattle.sh_eval.proofs.extents.are_same.Given as goal

abbrev pub invariant-loop-at : goal.invariant-loop-at
invariant-loop-at l =
    list_all (pointwise nat_eq l.s) (drop l.at (map (λ t. t.shape) (map (λ t. t.now) l.ts))) ≡ list_all (pointwise nat_eq l.s) (map (λ t. t.shape) (map (λ t. t.now) l.ts))
