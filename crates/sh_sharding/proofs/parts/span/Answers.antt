use Rattle.std.proofs.Common.{◌∙◌, arith}
use Rattle.sh_sharding.specs.Sharding.{parts_of}
use Rattle.sh_sharding.proofs.PartLaws.{is_span}
use Rattle.sh_sharding.proofs.parts.span.Goals as goal

pub offset-requires-clause-part : goal.offset-requires-clause-part
unfolding parts_of
offset-requires-clause-part c = omega (arith, c.place_in_group-part.ensures.below, c.division_of-parts.ensures.parts)

pub part_size-requires-clause-part : goal.part_size-requires-clause-part
unfolding parts_of
part_size-requires-clause-part c = omega (arith, c.place_in_group-part.ensures.below, c.division_of-parts.ensures.parts)

pub returns : goal.returns
returns c =
    let seen = c.division_of-parts.ensures in
    let part = c.place_in_group-part.result in
    let is = is_span c.args.g.now.extents c.args.d.now c.args.device part c.offset.result c.part_size.result c.requires.device c.requires.axes c.requires.admitted c.place_in_group-part.ensures.value
    (c.offset.ensures.value ∙ seen.offset part) (c.part_size.ensures.value ∙ seen.size part) in
    record { start = is.start; size = is.size; within = is.within; low = is.low; high = is.high }
