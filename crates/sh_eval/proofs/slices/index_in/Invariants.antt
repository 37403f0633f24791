use Rattle.std.proofs.Common.{◌≡◌, ◌++◌, drop, length}
use Rattle.std.specs.Prelude.{option_map}
use Rattle.sh_eval.specs.Slices.{ranges_in}
use Rattle.sh_sem.specs.Slices.{index_in}
use Rattle.sh_eval.proofs.slices.index_in.Given as goal

abbrev pub invariant-loop-at : goal.invariant-loop-at
invariant-loop-at l = record {
  value : option_map (λ more. l.places.items ++ more) (index_in (ranges_in (drop l.at l.ranges)) (drop l.at l.index)) ≡ index_in (ranges_in l.ranges) l.index;
  room : length l.places.items ≡ l.at;
  capacity : l.places.capacity ≡ 6;
}
