use Rattle.std.proofs.Common.{◌≡◌, ℕ, ◌<◌}
use Rattle.std.specs.Prelude.{◌%◌}
use Rattle.sh_sharding.specs.Sharding.{dimension_of, offset_at}
use Rattle.sh_choose.proofs.exact.is_multiple.Given as goal

-- those of the parts so far are multiples
abbrev pub invariant-loop-part : goal.invariant-loop-part
invariant-loop-part l =
    (k : ℕ) → k < l.part → offset_at l.s.grid.extents (dimension_of l.s l.dim) k % l.factor ≡ 0
