use Rattle.std.proofs.Common.{◌≡◌, ◌++◌, drop}
use Rattle.sh_eval.specs.Cuts.{cut_shape}
use Rattle.sh_eval.specs.Slices.{ranges_in}
use Rattle.sh_sem.specs.Slices.{sizes_of}
use Rattle.sh_eval.proofs.slices.sizes.Given as goal

abbrev pub invariant-loop-range : goal.invariant-loop-range
invariant-loop-range l = l.sizes.items ++ cut_shape (sizes_of (ranges_in (drop l.range-index l.ranges))) ≡ cut_shape (sizes_of (ranges_in l.ranges))
