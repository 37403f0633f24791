use Rattle.std.proofs.Common.{◌≡◌, take}
use Rattle.std.specs.List.{flat_map}
use Rattle.sh_sharding.specs.Spelling.{part_offsets}
use Rattle.sh_sharding.proofs.spelling.all_offsets.Given as goal

-- the offsets so far
abbrev pub invariant-loop-dimension : goal.invariant-loop-dimension
invariant-loop-dimension l = l.offsets ≡ flat_map (part_offsets l.g.extents) (take l.dimension-index l.dimensions)
