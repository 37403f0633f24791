use Rattle.std.proofs.Common.{◌≡◌, take}
use Rattle.sh_eval.specs.Cuts.{cut_shape}
use Rattle.sh_eval.proofs.shapes.wide.Given as goal

abbrev pub invariant-loop-extent : goal.invariant-loop-extent
invariant-loop-extent l = record {
  value : l.all.items ≡ take l.extent-index l.extents;
  cut : l.all.items ≡ cut_shape (take l.extent-index l.extents);
}
