use Rattle.std.proofs.Common.{map, take}
use Rattle.sh_admission.specs.Places.{HasPlaces}
use Rattle.sh_admission.proofs.grids.grid_places.Given as goal

abbrev pub invariant-loop-at : goal.invariant-loop-at
invariant-loop-at l = HasPlaces l.places.entries (map (λ item. item.name) (take l.at l.grids))
