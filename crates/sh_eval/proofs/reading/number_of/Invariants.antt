use Rattle.std.proofs.Common.{◌≡◌, ◌≤◌, ◌+◌, ◌*◌, drop}
use Rattle.sh_base.specs.Shape.{cell_count, flat_of}
use Rattle.sh_eval.specs.Cuts.{cut}
use Rattle.sh_eval.proofs.reading.number_of.Given as goal

abbrev pub invariant-loop-at : goal.invariant-loop-at
invariant-loop-at l = record {
  value : cut (l.number * cell_count (drop l.at l.extents) + flat_of (drop l.at l.extents) (drop l.at l.index)) ≡ cut (flat_of l.extents l.index);
  small : l.number ≤ 18446744073709551615;
}
