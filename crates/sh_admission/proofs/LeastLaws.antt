-- The least of refusals, one list after the other.
use mathlib.Core.Path.{refl}
use Rattle.std.proofs.Common.{◌≡◌, List, [], ◌∷◌, ◌++◌}
use Rattle.std.specs.Prelude.{Option}
use Rattle.sh_base.specs.declared.places.Refusal.{Refusal}
use Rattle.sh_admission.specs.Least.{Order, earlier, least_of}

-- first of the first list, then of the second
pub least_of_both : (order : Order) (least : Option Refusal) (rs ss : List Refusal)
    → least_of order least (rs ++ ss) ≡ least_of order (least_of order least rs) ss
least_of_both order least [] ss = refl
least_of_both order least (r ∷ rs) ss = least_of_both order (earlier order least r) rs ss
