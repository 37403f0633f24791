use Rattle.std.proofs.Common.{◌≡◌, ◌++◌, drop}
use Rattle.std.specs.Prelude.{option_map}
use Rattle.sh_eval.specs.Cuts.{cut_shape}
use Rattle.sh_sem.specs.Given.{known_shape}
use Rattle.sh_eval.proofs.creators.known_extents.Given as goal

abbrev pub invariant-loop-dim : goal.invariant-loop-dim
invariant-loop-dim l = option_map (λ more. l.all.items ++ cut_shape more) (known_shape (drop l.dim-index l.dims)) ≡ option_map cut_shape (known_shape l.dims)
