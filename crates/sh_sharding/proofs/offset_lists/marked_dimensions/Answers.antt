use Rattle.sh_sharding.proofs.OffsetListLaws.{none_taken}
use Rattle.sh_sharding.proofs.offset_lists.marked_dimensions.Goals as goal

pub marked_dimension-requires-clause-split : goal.marked_dimension-requires-clause-split
marked_dimension-requires-clause-split c = λ whole.
    none_taken c.args.g.now.extents c.dimension-item.result c.loop-dimension.rest.now c.split_at.result.0.now c.offsets_taken.result c.min.result whole c.offsets_taken.ensures c.min.ensures c.split_at.ensures.front
