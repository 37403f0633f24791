use Rattle.std.proofs.Common.{◌≡◌, drop}
use Rattle.std.specs.List.{list_all}
use Rattle.sh_ir.specs.Maps.{is_projection}
use Rattle.sh_verify.proofs.maps.are_projections.Given as goal

-- the maps to come decide
abbrev pub invariant-loop-map : goal.invariant-loop-map
invariant-loop-map l =
    list_all (is_projection l.loops) (drop l.map-index l.affine_maps) ≡ list_all (is_projection l.loops) l.affine_maps
