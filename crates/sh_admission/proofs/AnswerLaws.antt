-- What is found is what is answered.
use mathlib.Core.Path.{◌∙◌, ap, sym, refl}
use mathlib.Core.Bool.{true≢false}
use Rattle.std.proofs.Common.{◌≡◌, ◌≢◌, List, [], Bool, true, false, subst}
use Rattle.std.proofs.lemmas.Option.{none-some}
use Rattle.std.specs.Prelude.{Option, Some, None}
use Rattle.std.specs.Cmp.{IsTotalOrder}
use Rattle.sh_base.specs.declared.places.Place.{Place}
use Rattle.sh_base.specs.declared.places.Refusal.{Refusal}
use Rattle.sh_base.specs.declared.rules.Rule.TheVariants.{A10}
use Rattle.sh_ir.specs.declared.functions.Func.{Func}
use Rattle.sh_ir.specs.declared.modules.GridItem.{GridItem}
use Rattle.sh_ir.specs.declared.modules.Module.{Module}
use Rattle.sh_ir.specs.Rules.{refusal_at}
use Rattle.sh_admission.specs.Faults.{IsFault, IsRefused, IsWithoutGrid, first_source}
use Rattle.sh_admission.specs.Faults.IsRefused.{for_fault, for_grid}
use Rattle.sh_admission.specs.Found.{AreModuleFaults}
use Rattle.sh_admission.specs.Least.{by_place, least_of}
use Rattle.sh_admission.proofs.FaultLaws.{least_fault, no_fault}

-- the least of the faults of all functions
abbrev pub IsFoundInAll : List GridItem → List Func → Option Refusal → Type 0
IsFoundInAll grids funcs found = (faults : List Refusal) × AreModuleFaults grids funcs faults × (found ≡ least_of by_place None faults)

in_module : (m : Module) (grids : List GridItem) (funcs : List Func) (found : Option Refusal) → grids ≡ m.grids → funcs ≡ m.funcs
    → IsFoundInAll grids funcs found → IsFoundInAll m.grids m.funcs found
in_module m grids funcs found same_grids same_funcs is =
    subst (λ gs. IsFoundInAll gs m.funcs found) same_grids (subst (λ fs. IsFoundInAll grids fs found) same_funcs is)

pub refused_by : (m : Module) (need : Bool) (grids : List GridItem) (funcs : List Func) (found : Option Refusal) (r : Refusal)
    → IsTotalOrder by_place → grids ≡ m.grids → funcs ≡ m.funcs → IsFoundInAll grids funcs found → found ≡ Some r → IsRefused m need r
refused_by m need grids funcs found r total same_grids same_funcs is some =
    let all = in_module m grids funcs found same_grids same_funcs is in
    for_fault (least_fault m all.0 r total all.1 (sym all.2 ∙ some))

pub none_by : (m : Module) (grids : List GridItem) (funcs : List Func) (found : Option Refusal)
    → grids ≡ m.grids → funcs ≡ m.funcs → IsFoundInAll grids funcs found → found ≡ None → (r : Refusal) → ¬ (IsFault m r)
none_by m grids funcs found same_grids same_funcs is none =
    let all = in_module m grids funcs found same_grids same_funcs is in
    no_fault m all.0 all.1 (sym all.2 ∙ none)

-- where there is no fault and no want of a grid nothing is refused
pub nothing_refused : (m : Module) (need : Bool) → ((r : Refusal) → ¬ (IsFault m r))
    → ((r : Refusal) → need ≡ true → ¬ (IsWithoutGrid m r)) → (r : Refusal) → ¬ (IsRefused m need r)
nothing_refused m need none granted r (for_fault least) = none r least.there
nothing_refused m need none granted r (for_grid asked wanting) = granted r asked wanting

-- ways in which no grid is wanted
pub not_needed : (m : Module) (need : Bool) → need ≡ false → (r : Refusal) → need ≡ true → ¬ (IsWithoutGrid m r)
not_needed m need unasked r asked = absurd (true≢false (sym asked ∙ unasked))

pub grid_there : (m : Module) (need : Bool) → m.grids ≢ [] → (r : Refusal) → need ≡ true → ¬ (IsWithoutGrid m r)
grid_there m need some r asked wanting = some wanting.no_grid

pub no_source : (m : Module) (need : Bool) → first_source m.funcs ≡ None → (r : Refusal) → need ≡ true → ¬ (IsWithoutGrid m r)
no_source m need none r asked wanting = none-some wanting.place (sym none ∙ wanting.first)

pub wants_grid : (m : Module) (need : Bool) (place : Place) → need ≡ true → ((r : Refusal) → ¬ (IsFault m r)) → m.grids ≡ []
    → first_source m.funcs ≡ Some place → IsRefused m need (refusal_at place A10)
wants_grid m need place asked none no_grid first =
    for_grid asked (record { place = place; none = none; no_grid = no_grid; first = first; is = refl })
