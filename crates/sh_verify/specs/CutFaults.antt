-- What breaks the rule on carried cuts, function by function.
use Rattle.std.specs.Prelude.{◌≡◌, ◌↔◌, ℕ, List, [], ◌∷◌, ◌++◌, Bool, IsTrue, MatchOption, ⊤}
use Rattle.std.specs.List.{All}
use Rattle.sh_base.specs.declared.places.Refusal.{Refusal}
use Rattle.sh_base.specs.declared.rules.Rule.TheVariants.{V10}
use Rattle.sh_grid.specs.Grid.{GridValue}
use Rattle.sh_ir.specs.declared.functions.Cut.{Cut}
use Rattle.sh_ir.specs.declared.functions.Func.{Func}
use Rattle.sh_ir.specs.declared.modules.Module.{Module}
use Rattle.sh_ir.specs.Limits.{has_few_cells, has_few_dims}
use Rattle.sh_ir.specs.Shapes.{shape_of}
use Rattle.sh_sharding.specs.Admission.{IsAdmitted}
use Rattle.sh_sharding.specs.CutRules.{KeepsCuts}
use Rattle.sh_verify.specs.Least.{fault_unless}

-- ---- what admission asks of a cut beforehand

-- its sharding is on this grid, and its whole type is within limits
pub record IsReadyCut (grid : List ℕ) (cut : Cut) : Type 0 where
  pub named : cut.sharding.grid ≡ grid
  pub few : IsTrue (has_few_dims cut.whole)
  pub small : IsTrue (has_few_cells cut.whole)

abbrev pub HasReadyCuts : Func → Type 0
HasReadyCuts f =
    MatchOption f.carry ⊤ (λ carry.
    All (IsReadyCut carry.grid) carry.args × All (IsReadyCut carry.grid) carry.results)

abbrev pub IsCutAdmitted : GridValue → Cut → Type 0
IsCutAdmitted g cut = IsAdmitted g cut.sharding (shape_of cut.whole)

-- ---- as they are found

-- one for each function whose cuts break it
abbrev pub AreCutFaults : Module → List Func → List Refusal → Type 0
AreCutFaults m [] faults = faults ≡ []
AreCutFaults m (f ∷ funcs) faults =
    (kept : Bool) × (rest : List Refusal) × (IsTrue kept ↔ KeepsCuts m f)
    × (faults ≡ fault_unless kept f.place V10 ++ rest) × AreCutFaults m funcs rest
