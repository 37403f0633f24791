use Rattle.std.proofs.Common.{◌∙◌}
use Rattle.sh_sharding.proofs.OffsetListLaws.{asked_offsets, made_mark}
use Rattle.sh_sharding.proofs.offset_lists.marked_dimension.Goals as goal

pub mark_for-requires-clause-offsets : goal.mark_for-requires-clause-offsets
mark_for-requires-clause-offsets c = λ some.
    asked_offsets c.args.g.now.extents c.args.d.now c.group_size.result c.args.offsets.now c.group_size.ensures.value c.requires.split c.requires.offsets some

pub returns : goal.returns
returns c =
    made_mark c.args.g.now.extents c.args.d.now c.group_size.result c.args.offsets.now c.shape.result c.in_ok-mark.mark c.group_size.ensures.value (c.shape.ensures ∙ c.extents.ensures.value) c.in_ok-mark.ensures
