use Rattle.std.proofs.Common.{◌≡◌, take}
use Rattle.std.specs.List.{flat_map}
use Rattle.sh_sharding.specs.Spelling.{halo_sizes}
use Rattle.sh_sharding.proofs.spelling.all_halo_sizes.Given as goal

-- the halo sizes so far
abbrev pub invariant-loop-dimension : goal.invariant-loop-dimension
invariant-loop-dimension l = l.halos ≡ flat_map halo_sizes (take l.dimension-index l.dimensions)
