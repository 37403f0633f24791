use Rattle.std.proofs.Common.{◌≡◌, ◌++◌, drop}
use Rattle.sh_eval.specs.Slices.{ranges_in}
use Rattle.sh_ir.specs.Numbers.{as_naturals}
use Rattle.sh_sem.specs.Slices.{ranges_by}
use Rattle.sh_eval.proofs.slices.ranges_of.Given as goal

abbrev pub invariant-loop-at : goal.invariant-loop-at
invariant-loop-at l =
    ranges_in l.ranges.items
    ++ ranges_by (drop l.at l.dims) (drop l.at l.extents) (as_naturals (drop l.at l.slice.offsets)) (as_naturals (drop l.at l.slice.sizes)) (as_naturals (drop l.at l.slice.strides))
    ≡ ranges_by l.dims l.extents (as_naturals l.slice.offsets) (as_naturals l.slice.sizes) (as_naturals l.slice.strides)
