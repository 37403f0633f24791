use Rattle.std.proofs.Common.{◌≡◌, [], ◌∷◌, flat_map, take}
use Rattle.sh_print.specs.Pages.{written}
use Rattle.sh_print.specs.Spellings.{dim}
use Rattle.sh_print.proofs.spellings.dims.Given as goal

abbrev pub invariant-loop-dim : goal.invariant-loop-dim
invariant-loop-dim l =
    l.printer ≡ written l.initial.printer (flat_map (λ d. dim d ∷ []) (take l.dim-index l.dims))
