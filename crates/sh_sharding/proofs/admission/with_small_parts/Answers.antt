use Rattle.std.proofs.Common.{arith, ◌∙◌}
use Rattle.sh_sharding.proofs.AdmissionLaws.{is_too_large, written_rank}
use Rattle.sh_sharding.proofs.admission.with_small_parts.Goals as goal

pub has_small_parts-requires : goal.has_small_parts-requires
has_small_parts-requires c =
    let own = c.as_slice.ensures.value ∙ c.requires.dimensions in
    let rank = written_rank c.args.g.now c.args.raw.now c.args.s.now c.as_slice.result.now own in
    let short = c.extents-short.ensures.short in
    record { kept = c.requires.kept; dimensions = own; few = omega arith }

pub returns-then-not-has_small_parts-clause-refused : goal.returns-then-not-has_small_parts-clause-refused
returns-then-not-has_small_parts-clause-refused c =
    is_too_large c.args.g.now c.args.raw.now c.args.s.now c.has_small_parts.result c.requires.kept
    c.has_small_parts.ensures.1 c.if-not-has_small_parts.true
