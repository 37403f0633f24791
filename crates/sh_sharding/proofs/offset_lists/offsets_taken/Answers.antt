use Rattle.std.proofs.Common.{sym}
use Rattle.sh_sharding.proofs.OffsetListLaws.{count_split, count_unsplit}
use Rattle.sh_sharding.proofs.offset_lists.offsets_taken.Goals as goal

pub returns-then-is_split_dimension : goal.returns-then-is_split_dimension
returns-then-is_split_dimension c = count_split c.args.g.now.extents c.args.d.now c.group_size.result (sym c.if-is_split_dimension.ensures) c.group_size.ensures.value

pub returns-else-is_split_dimension : goal.returns-else-is_split_dimension
returns-else-is_split_dimension c = count_unsplit c.args.g.now.extents c.args.d.now (sym c.if-is_split_dimension.ensures)
