use Rattle.std.proofs.Common.{◌≡◌, map, pos}
use Rattle.std.specs.List.{range_with_len}
use Rattle.sh_sharding.specs.Sharding.{dimension_of, offset_at}
use Rattle.sh_reshard.proofs.numbers.part_starts.Given as goal

-- the starts so far
abbrev pub invariant-loop-part : goal.invariant-loop-part
invariant-loop-part l = l.starts ≡ map pos (map (offset_at l.s.grid.extents (dimension_of l.s l.fn.dim)) (range_with_len 0 l.part))
