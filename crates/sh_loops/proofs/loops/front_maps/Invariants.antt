use Rattle.std.proofs.Common.{◌≡◌, map, take}
use Rattle.sh_ir.specs.Loops.{single}
use Rattle.sh_loops.proofs.loops.front_maps.Given as goal

abbrev pub invariant-loop-at : goal.invariant-loop-at
invariant-loop-at l = l.all.items ≡ map (λ m. single m.results) (take l.at l.maps)
