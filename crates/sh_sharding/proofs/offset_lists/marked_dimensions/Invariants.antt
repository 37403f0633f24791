use Rattle.sh_sharding.proofs.OffsetListLaws.{IsMarking}
use Rattle.sh_sharding.proofs.offset_lists.marked_dimensions.Given as goal

abbrev pub invariant-loop-dimension : goal.invariant-loop-dimension
invariant-loop-dimension l = IsMarking l.g.extents l.dimensions l.offsets l.dimension-index l.out.items l.rest
