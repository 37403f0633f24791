use Rattle.std.proofs.Common.{◌≡◌, drop, set, nat_eq}
use Rattle.std.specs.Cmp.Lexicographic.{pointwise}
use Rattle.sh_eval.proofs.shapes.is_like.Given as goal

abbrev pub invariant-loop-at : goal.invariant-loop-at
invariant-loop-at l = pointwise nat_eq (drop l.at (set l.s l.axis 0)) (drop l.at (set l.other l.axis 0)) ≡ pointwise nat_eq (set l.s l.axis 0) (set l.other l.axis 0)
