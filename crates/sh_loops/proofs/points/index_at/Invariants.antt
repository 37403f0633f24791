use Rattle.std.proofs.Common.{◌≡◌, ◌++◌, length, drop}
use Rattle.sh_sem.specs.Nest.{index_at}
use Rattle.sh_loops.proofs.points.index_at.Given as goal

abbrev pub invariant-loop-loops : goal.invariant-loop-loops
invariant-loop-loops l = record {
  value : l.places.items ++ index_at (drop l.loops-index l.dims) l.point ≡ index_at l.dims l.point;
  room : length l.places.items ≡ l.loops-index;
  capacity : l.places.capacity ≡ 6;
}
