use Rattle.std.proofs.Common.{◌≡◌, drop}
use Rattle.sh_loops.specs.Sizes.{first_alone}
use Rattle.sh_sem.specs.Nest.{followed}
use Rattle.sh_loops.proofs.sizes.extent_in.Given as goal

abbrev pub invariant-loop-at : goal.invariant-loop-at
invariant-loop-at l =
    first_alone (followed (drop l.at l.dims) (drop l.at l.shape)) l.l ≡ first_alone (followed l.dims l.shape) l.l
