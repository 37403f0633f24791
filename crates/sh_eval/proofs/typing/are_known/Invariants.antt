use Rattle.std.proofs.Common.{◌≡◌, drop, map}
use Rattle.sh_ir.specs.Classes.{class_of}
use Rattle.sh_ir.specs.declared.classification.OpClass.TheVariants.{Note}
use Rattle.sh_ir.specs.Typing.{typing_of}
use Rattle.sh_sem.specs.Given.{have_all_extents}
use Rattle.sh_eval.proofs.typing.are_known.Given as goal

abbrev pub invariant-loop-at : goal.invariant-loop-at
invariant-loop-at l =
    (class_of l.kind ≡ Note → ⊥)
    → have_all_extents (drop l.at (typing_of l.kind l.result_type)) (drop l.at (map (λ t. t.shape) (map (λ t. t.now) l.ts)))
    ≡ have_all_extents (typing_of l.kind l.result_type) (map (λ t. t.shape) (map (λ t. t.now) l.ts))
