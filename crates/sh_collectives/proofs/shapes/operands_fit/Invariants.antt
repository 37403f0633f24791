use Rattle.std.proofs.Common.{◌≡◌, drop, map}
use Rattle.std.specs.List.{list_all}
use Rattle.sh_sem.specs.Types.{have_extents}
use Rattle.sh_collectives.proofs.shapes.operands_fit.Given as goal

abbrev pub invariant-loop-shape : goal.invariant-loop-shape
invariant-loop-shape l =
    list_all (have_extents l.dims) (map (λ s. s.now) (drop l.shape-index l.shapes)) ≡ list_all (have_extents l.dims) (map (λ s. s.now) l.shapes)
