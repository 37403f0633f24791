use Rattle.std.proofs.Common.{◌≡◌, ◌≤◌, ◌*◌, ◌^◌, take}
use Rattle.sh_loops.specs.Folds.{coordinate_of}
use Rattle.sh_loops.proofs.sizes.total_extent.Given as goal

abbrev pub invariant-loop-l : goal.invariant-loop-l
invariant-loop-l l = record {
  value : l.total ≡ coordinate_of l.extents (take l.l-index l.loops);
  bound : l.total ≤ l.l-index * 2 ^ 64;
}
