use Rattle.std.proofs.Common.{◌≡◌, ◌-◌, map}
use Rattle.std.specs.List.{list_all, range_with_len}
use Rattle.sh_ir.specs.Maps.{is_used}
use Rattle.sh_verify.proofs.maps.all_used.Given as goal

-- the loops to come decide
abbrev pub invariant-loop-number : goal.invariant-loop-number
invariant-loop-number l =
    list_all (is_used (map (λ m. m.results) l.affine_maps)) (range_with_len l.number (l.loops - l.number))
    ≡ list_all (is_used (map (λ m. m.results) l.affine_maps)) (range_with_len 0 l.loops)
