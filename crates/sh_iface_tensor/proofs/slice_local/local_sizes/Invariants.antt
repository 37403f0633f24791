use Rattle.std.proofs.Common.{◌≡◌, map, take}
use Rattle.sh_sharding.specs.Sharding.{largest_local}
use Rattle.sh_iface_tensor.specs.Slices.{written}
use Rattle.sh_iface_tensor.proofs.slice_local.local_sizes.Given as goal

-- the sizes so far
abbrev pub invariant-loop-dim : goal.invariant-loop-dim
invariant-loop-dim l = l.sizes ≡ written (map (largest_local l.s.grid.extents) (take l.dim l.s.dimensions))
