use Rattle.std.proofs.Common.{◌≡◌, drop, nat_eq}
use Rattle.std.specs.Cmp.Lexicographic.{pointwise}
use Rattle.sh_eval.specs.Slices.{ranges_in}
use Rattle.sh_sem.specs.Slices.{sizes_of}
use Rattle.sh_eval.proofs.slices.are_extents.Given as goal

abbrev pub invariant-loop-at : goal.invariant-loop-at
invariant-loop-at l = pointwise nat_eq (sizes_of (ranges_in (drop l.at l.ranges))) (drop l.at l.extents) ≡ pointwise nat_eq (sizes_of (ranges_in l.ranges)) l.extents
