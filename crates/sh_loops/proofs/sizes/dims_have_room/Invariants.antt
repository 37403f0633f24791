use Rattle.std.proofs.Common.{◌≡◌, drop}
use Rattle.sh_loops.specs.Sizes.{with_room}
use Rattle.sh_sem.specs.Nest.{followed}
use Rattle.sh_loops.proofs.sizes.dims_have_room.Given as goal

abbrev pub invariant-loop-at : goal.invariant-loop-at
invariant-loop-at l = with_room l.extents (followed (drop l.at l.dims) (drop l.at l.shape)) ≡ with_room l.extents (followed l.dims l.shape)
