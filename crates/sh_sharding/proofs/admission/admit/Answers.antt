use Rattle.std.proofs.Common.{◌∙◌}
use Rattle.sh_sharding.proofs.AdmissionLaws.{is_held}
use Rattle.sh_sharding.proofs.admission.admit.Goals as goal

pub invariant_of-result : goal.invariant_of-result
invariant_of-result c =
    let admitted = c.in_ok-dimensions.ensures.admitted in
    is_held c.args.g.now c.args.raw.now c.args.s.now c.in_ok-grid.grid c.shape.result c.from_vec.result c.in_ok-dimensions.ensures.grid c.extents.ensures.short c.requires.small admitted.0 c.in_ok-grid.ensures
    (c.shape.ensures ∙ c.extents.ensures.value) (c.from_vec.ensures ∙ admitted.1)
