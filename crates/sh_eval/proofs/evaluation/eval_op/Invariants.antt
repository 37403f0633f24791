use Rattle.std.proofs.Common.{◌≡◌, map, take}
use Rattle.sh_eval.proofs.evaluation.eval_op.Given as goal

abbrev pub invariant-loop-at : goal.invariant-loop-at
invariant-loop-at l = map (λ t. t.now) l.ts.items ≡ take l.at l.ins
