use Rattle.std.proofs.Common.{◌≡◌, drop, map}
use Rattle.sh_ir.specs.Maps.{is_used}
use Rattle.sh_verify.proofs.maps.is_used.Given as goal

-- the maps to come decide
abbrev pub invariant-loop-map : goal.invariant-loop-map
invariant-loop-map l =
    is_used (map (λ m. m.results) (drop l.map-index l.affine_maps)) l.number ≡ is_used (map (λ m. m.results) l.affine_maps) l.number
