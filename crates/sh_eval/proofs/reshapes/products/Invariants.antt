use Rattle.std.proofs.Common.{◌≡◌, map, take}
use Rattle.sh_base.specs.Shape.{cell_count}
use Rattle.sh_eval.specs.Cuts.{cut_shape}
use Rattle.sh_ir.specs.Numbers.{as_naturals}
use Rattle.sh_sem.specs.Reshapes.{extents_at}
use Rattle.sh_eval.proofs.reshapes.products.Given as goal

abbrev pub invariant-loop-group : goal.invariant-loop-group
invariant-loop-group l = l.all.items ≡ cut_shape (map (λ group. cell_count (extents_at l.extents (as_naturals group))) (take l.group-index l.groups))
