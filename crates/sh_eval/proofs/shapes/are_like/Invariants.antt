use Rattle.std.proofs.Common.{◌≡◌, drop, map}
use Rattle.std.specs.List.{list_all}
use Rattle.sh_sem.specs.Pieces.{is_like}
use Rattle.sh_eval.proofs.shapes.are_like.Given as goal

abbrev pub invariant-loop-at : goal.invariant-loop-at
invariant-loop-at l =
    list_all (is_like l.axis l.s) (drop l.at (map (λ t. t.shape) (map (λ t. t.now) l.ts))) ≡ list_all (is_like l.axis l.s) (map (λ t. t.shape) (map (λ t. t.now) l.ts))
