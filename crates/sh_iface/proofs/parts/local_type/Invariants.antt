use Rattle.std.proofs.Common.{◌≡◌, map, take}
use Rattle.sh_sharding.specs.LocalTypes.{local_dim}
use Rattle.sh_iface.proofs.parts.local_type.Given as goal

-- the extents so far
abbrev pub invariant-loop-dim : goal.invariant-loop-dim
invariant-loop-dim l = l.dims ≡ map (local_dim l.s.grid.extents) (take l.dim l.s.dimensions)
