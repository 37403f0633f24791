use Rattle.std.proofs.Common.{sym}
use Rattle.sh_sharding.proofs.HaloSizeLaws.{halo_count-split, halo_count-unsplit}
use Rattle.sh_sharding.proofs.halo_sizes.halos_taken.Goals as goal

pub returns-then-is_split_dimension : goal.returns-then-is_split_dimension
returns-then-is_split_dimension c = halo_count-split c.args.d.now (sym c.if-is_split_dimension.ensures)

pub returns-else-is_split_dimension : goal.returns-else-is_split_dimension
returns-else-is_split_dimension c = halo_count-unsplit c.args.d.now (sym c.if-is_split_dimension.ensures)
