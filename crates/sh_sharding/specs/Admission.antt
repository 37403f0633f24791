-- The rules A1 to A3 and A5 to A8 on a sharding as it is written, and the sharding that it stands
-- for.
use Rattle.std.specs.Prelude.{◌≡◌, ◌≢◌, ℕ, ◌*◌, ◌<◌, ◌≤◌, ◌==◌, List, [], ◌∷◌, length, count_by, All}
use Rattle.std.specs.List.{AllByRecursion}
use Rattle.sh_base.specs.declared.rules.Rule.{Rule}
use Rattle.sh_base.specs.declared.rules.Rule.TheVariants.{A1, A2, A3, A5, A6, A7, A8}
use Rattle.sh_base.specs.Shape.{cell_count, max_cells}
use Rattle.sh_grid.specs.Grid.{GridValue, IsGrid}
use Rattle.sh_ir.specs.declared.types.RawSharding.{RawSharding}
use Rattle.sh_sharding.specs.declared.admission.AdmitRefusal.{AdmitRefusal}
use Rattle.sh_sharding.specs.declared.admission.AdmitRefusal.TheVariants.{Broken, Mem}
use Rattle.sh_sharding.specs.Sharding.{ShardingValue, is_split, local_shape, counted_cells}
use Rattle.sh_sharding.specs.AxisLists.{IsNatural, IsBelow, listed_axes, listed}
use Rattle.sh_sharding.specs.OffsetLists.{marked, AreAllOffsets}
use Rattle.sh_sharding.specs.HaloSizes.{with_halos, HalosFit}

-- the sharding that is written, in normal form
abbrev pub sharding_of : GridValue → RawSharding → List ℕ → ShardingValue
sharding_of g raw s =
    record {
      grid = g;
      dimensions = with_halos (marked g.extents (listed raw.split s) raw.offsets) raw.halos;
    }

-- what each rule asks of a sharding that is written for a tensor of a shape, on a grid
abbrev pub Keeps : Rule → GridValue → RawSharding → List ℕ → Type 0
Keeps A1 g raw s = All (All (IsBelow (length g.extents))) raw.split
Keeps A2 g raw s = (a : ℕ) → count_by (λ b. b == a) (listed_axes raw.split) ≤ 1
Keeps A3 g raw s = length raw.split ≤ length s
Keeps A5 g raw s = raw.offsets ≢ [] → AreAllOffsets g.extents (listed raw.split s) raw.offsets
Keeps A6 g raw s = raw.halos ≢ [] → raw.offsets ≡ []
Keeps A7 g raw s =
    raw.halos ≢ [] → (length raw.halos ≡ 2 * count_by is_split (listed raw.split s))
    × All IsNatural raw.halos
Keeps A8 g raw s =
    AllByRecursion (HalosFit g.extents) (sharding_of g raw s).dimensions
    × ((device : ℕ) → device < cell_count g.extents
    → counted_cells (local_shape (sharding_of g raw s) device) ≤ max_cells)
Keeps _ g raw s = Unit {0}

-- the rules on lists of axes alone
pub record KeepsLists (g : GridValue) (raw : RawSharding) (s : List ℕ) : Type 0 where
  pub axes : Keeps A1 g raw s
  pub once : Keeps A2 g raw s
  pub few : Keeps A3 g raw s

-- the rules on halos, but for the size of the largest local tensor
pub record KeepsHalos (g : GridValue) (raw : RawSharding) (s : List ℕ) : Type 0 where
  pub alone : Keeps A6 g raw s
  pub counted : Keeps A7 g raw s
  pub fit : AllByRecursion (HalosFit g.extents) (sharding_of g raw s).dimensions

-- all rules but for the size of the largest local tensor
pub record KeepsAllButSize (g : GridValue) (raw : RawSharding) (s : List ℕ) : Type 0 where
  pub grid : IsGrid g.extents
  pub small : counted_cells s ≤ max_cells
  pub lists : KeepsLists g raw s
  pub divisions : Keeps A5 g raw s
  pub halos : KeepsHalos g raw s

abbrev pub rules_before : Rule → List Rule
rules_before A2 = A1 ∷ []
rules_before A3 = A1 ∷ A2 ∷ []
rules_before A5 = A1 ∷ A2 ∷ A3 ∷ []
rules_before A6 = A1 ∷ A2 ∷ A3 ∷ A5 ∷ []
rules_before A7 = A1 ∷ A2 ∷ A3 ∷ A5 ∷ A6 ∷ []
rules_before A8 = A1 ∷ A2 ∷ A3 ∷ A5 ∷ A6 ∷ A7 ∷ []
rules_before _ = []

-- all rules are kept
pub record IsAdmitted (g : GridValue) (raw : RawSharding) (s : List ℕ) : Type 0 where
  pub keeps : (rule : Rule) → Keeps rule g raw s

-- the rule is broken, and those before it are kept
pub record IsLeastBroken (rule : Rule) (g : GridValue) (raw : RawSharding)
    (s : List ℕ) : Type 0 where
  pub broken : ¬ Keeps rule g raw s
  pub earlier : AllByRecursion (λ kept. Keeps kept g raw s) (rules_before rule)

-- what a refusal says: the least broken rule, or nothing where memory is wanting
abbrev pub IsRefusal : AdmitRefusal → GridValue → RawSharding → List ℕ → Type 0
IsRefusal (Broken rule) g raw s = IsLeastBroken rule g raw s
IsRefusal Mem g raw s = Unit {0}
