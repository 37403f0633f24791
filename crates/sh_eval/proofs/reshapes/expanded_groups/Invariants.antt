use Rattle.std.proofs.Common.{◌≡◌, ◌++◌, drop}
use Rattle.std.specs.Prelude.{option_map}
use Rattle.sh_eval.specs.Cuts.{cut_shape}
use Rattle.sh_sem.specs.Reshapes.{expanded_groups}
use Rattle.sh_eval.proofs.reshapes.expanded_groups.Given as goal

abbrev pub invariant-loop-at : goal.invariant-loop-at
invariant-loop-at l =
    option_map (λ more. l.all.items ++ cut_shape more) (expanded_groups l.dims (drop l.at l.groups) (drop l.at l.extents)) ≡ option_map cut_shape (expanded_groups l.dims l.groups l.extents)
