use Rattle.std.proofs.Common.{◌≡◌, drop}
use Rattle.sh_ir.specs.Agreement.{all_related}
use Rattle.sh_verify.specs.Relations.{relates}
use Rattle.sh_verify.proofs.relations.are_related.Given as goal

-- the dimensions to come decide
abbrev pub invariant-loop-at : goal.invariant-loop-at
invariant-loop-at l =
    all_related (relates l.relation) l.at (drop l.at l.left) (drop l.at l.right) ≡ all_related (relates l.relation) 0 l.left l.right
