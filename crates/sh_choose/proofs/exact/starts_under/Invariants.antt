use Rattle.std.proofs.Common.{◌≡◌, map}
use Rattle.std.specs.Prelude.{pos}
use Rattle.std.specs.List.{range_with_len}
use Rattle.sh_sharding.specs.Sharding.{dimension_of, offset_at}
use Rattle.sh_choose.specs.Proposals.{start_under}
use Rattle.sh_choose.proofs.exact.starts_under.Given as goal

-- the starts of the parts so far
abbrev pub invariant-loop-part : goal.invariant-loop-part
invariant-loop-part l =
    l.starts ≡ map (λ n. pos (start_under l.extent l.how n)) (map (offset_at l.s.grid.extents (dimension_of l.s l.dim)) (range_with_len 0 l.part))
