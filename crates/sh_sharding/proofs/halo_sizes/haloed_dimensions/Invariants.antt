use Rattle.sh_sharding.proofs.HaloSizeLaws.{IsHaloing}
use Rattle.sh_sharding.proofs.halo_sizes.haloed_dimensions.Given as goal

abbrev pub invariant-loop-dimension : goal.invariant-loop-dimension
invariant-loop-dimension l = IsHaloing l.g.extents l.dimensions l.halos l.dimension-index l.out.items l.rest
