use Rattle.sh_sharding.proofs.Cases.{not_both}
use Rattle.sh_sharding.proofs.ViewAdmissionLaws.{all_balanced, none_haloed, both_marks}
use Rattle.sh_sharding.proofs.admitted.has_one_mark.Goals as goal

pub returns-then-are_all_balanced : goal.returns-then-are_all_balanced
returns-then-are_all_balanced c = (
  λ t. λ some. absurd (some (all_balanced c.args.g.now.extents c.args.views.now (c.are_all_balanced.ensures.0 c.if-are_all_balanced.true))),
  λ h. c.if-are_all_balanced.true,
)

pub returns-else-are_all_balanced : goal.returns-else-are_all_balanced
returns-else-are_all_balanced c = (
  λ t. λ some. none_haloed c.args.g.now.extents c.args.views.now (c.are_without_halos.ensures.0 t),
  λ h. c.are_without_halos.ensures.1
      (both_marks c.args.g.now.extents c.args.views.now h (λ all. not_both c.are_all_balanced.result (c.are_all_balanced.ensures.1 all) c.if-are_all_balanced.false)),
)
