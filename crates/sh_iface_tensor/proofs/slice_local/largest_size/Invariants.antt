use Rattle.std.proofs.Common.{◌≡◌}
use Rattle.sh_sharding.specs.Sharding.{dimension_of, largest_to, part_size}
use Rattle.sh_iface_tensor.proofs.slice_local.largest_size.Given as goal

-- the largest so far
abbrev pub invariant-loop-part : goal.invariant-loop-part
invariant-loop-part l = l.largest ≡ largest_to (part_size l.s.grid.extents (dimension_of l.s l.dim)) l.part
