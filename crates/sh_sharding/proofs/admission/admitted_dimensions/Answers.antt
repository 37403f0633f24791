use Rattle.sh_sharding.proofs.admission.admitted_dimensions.Goals as goal

pub with_small_parts-requires-clause-kept : goal.with_small_parts-requires-clause-kept
with_small_parts-requires-clause-kept c =
    let divided = c.in_ok-marked.ensures.kept in
    let haloed = c.in_ok-dimensions.ensures.kept in
    record { grid = c.check_lists.ensures.grid; small = c.requires.small; lists = c.in_ok-check_lists.ensures.kept; divisions = divided.0; halos = haloed.0 }
