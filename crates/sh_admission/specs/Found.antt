-- Faults as they are found, item by item, and what is known of the items beforehand.
use Rattle.std.specs.Prelude.{◌≡◌, ℕ, List, [], ◌∷◌, ◌++◌, true, IsTrue, Option, Some, None, nat_eq}
use Rattle.std.specs.Borrow.{Bor}
use Rattle.std.specs.List.{All}
use Rattle.std.specs.Map.{lookup}
use Rattle.std.specs.Option.{option_map}
use Rattle.sh_base.specs.declared.places.Place.{Place}
use Rattle.sh_base.specs.declared.places.Refusal.{Refusal}
use Rattle.sh_base.specs.declared.rules.Rule.{Rule}
use Rattle.sh_ir.specs.declared.functions.Cut.{Cut}
use Rattle.sh_ir.specs.declared.functions.Func.{Func}
use Rattle.sh_ir.specs.declared.modules.GridItem.{GridItem}
use Rattle.sh_ir.specs.declared.operations.Op.{Op}
use Rattle.sh_ir.specs.declared.types.RawSharding.{RawSharding}
use Rattle.sh_ir.specs.declared.types.ValueType.{ValueType}
use Rattle.sh_ir.specs.Formed.{cuts_in}
use Rattle.sh_ir.specs.Limits.{has_few_cells, has_few_dims}
use Rattle.sh_ir.specs.Rules.{refusal_at}
use Rattle.sh_admission.specs.Faults.{BreaksFirst, NoteBreaks}
use Rattle.sh_admission.specs.Notes.{is_note, sharding_named}

-- ---- what is known beforehand

-- the type is within the limits
pub record IsWithin (noted : ValueType) : Type 0 where
  pub few : IsTrue (has_few_dims noted)
  pub small : IsTrue (has_few_cells noted)

abbrev pub IsReadyNote : Op → Type 0
IsReadyNote op = is_note op.kind ≡ true → IsWithin op.result

pub record IsReadyFunc (f : Func) : Type 0 where
  pub notes : All IsReadyNote f.ops
  pub cuts : All (λ cut. IsWithin cut.whole) (cuts_in f)

-- ---- shardings by name

abbrev pub Named : Type 0
Named = ℕ × RawSharding

-- the table has the sharding of each name
abbrev pub HasShardings : List (ℕ × Bor RawSharding) → List Named → Type 0
HasShardings entries shardings =
    (name : ℕ) → option_map (λ raw. raw.now) (lookup (nat_eq name) entries)
    ≡ sharding_named shardings name

-- ---- faults

abbrev pub fault_of : Place → Option Rule → List Refusal
fault_of place None = []
fault_of place (Some rule) = refusal_at place rule ∷ []

-- the faults of a list, item by item
abbrev pub AreAll : {X : Type 0} → (X → List Refusal → Type 0) → List X → List Refusal → Type 0
AreAll Of [] faults = faults ≡ []
AreAll Of (x ∷ xs) faults =
    (own : List Refusal) × (rest : List Refusal) × Of x own × (faults ≡ own ++ rest)
    × AreAll Of xs rest

abbrev pub OfNote : List GridItem → List Op → Op → List Refusal → Type 0
OfNote grids ops op faults =
    (broken : Option Rule) × NoteBreaks grids ops op broken × (faults ≡ fault_of op.place broken)

abbrev pub AreNoteFaults : List GridItem → List Op → List Op → List Refusal → Type 0
AreNoteFaults grids all ops faults = AreAll (OfNote grids all) ops faults

abbrev pub OfCut : List GridItem → Place → Cut → List Refusal → Type 0
OfCut grids place cut faults =
    (broken : Option Rule) × BreaksFirst grids cut.sharding cut.whole broken
    × (faults ≡ fault_of place broken)

abbrev pub AreCutFaults : List GridItem → Place → List Cut → List Refusal → Type 0
AreCutFaults grids place cuts faults = AreAll (OfCut grids place) cuts faults

abbrev pub AreFuncFaults : List GridItem → Func → List Refusal → Type 0
AreFuncFaults grids f faults =
    (noted : List Refusal) × (cut : List Refusal) × AreNoteFaults grids f.ops f.ops noted
    × AreCutFaults grids f.place (cuts_in f) cut × (faults ≡ noted ++ cut)

abbrev pub AreModuleFaults : List GridItem → List Func → List Refusal → Type 0
AreModuleFaults grids funcs faults = AreAll (AreFuncFaults grids) funcs faults
