-- The faults of a module's shardings: the first rule that each note and each cut breaks.
use Rattle.std.specs.Prelude.{◌≡◌, ◌≢◌, ℕ, List, [], ◌∷◌, Bool, true, Option, Some, None, Contains, MatchOption, if◌then◌else◌, is_none}
use Rattle.std.specs.Option.{option_or}
use Rattle.std.specs.declared.cmp.Ordering.TheVariants.{Less}
use Rattle.sh_base.specs.declared.places.Place.{Place}
use Rattle.sh_base.specs.declared.places.Refusal.{Refusal}
use Rattle.sh_base.specs.declared.rules.Rule.{Rule}
use Rattle.sh_base.specs.declared.rules.Rule.TheVariants.{A9, A10}
use Rattle.sh_grid.specs.Grid.{GridValue, IsGrid}
use Rattle.sh_ir.specs.declared.functions.Cut.{Cut}
use Rattle.sh_ir.specs.declared.functions.Func.{Func}
use Rattle.sh_ir.specs.declared.modules.GridItem.{GridItem}
use Rattle.sh_ir.specs.declared.modules.Module.{Module}
use Rattle.sh_ir.specs.declared.operations.Op.{Op}
use Rattle.sh_ir.specs.declared.types.RawSharding.{RawSharding}
use Rattle.sh_ir.specs.declared.types.ValueType.{ValueType}
use Rattle.sh_ir.specs.Formed.{cuts_in}
use Rattle.sh_ir.specs.Rules.{refusal_at}
use Rattle.sh_ir.specs.Scope.{grid_item, same_text}
use Rattle.sh_ir.specs.Shapes.{shape_of}
use Rattle.sh_sharding.specs.Admission.{IsAdmitted, IsLeastBroken}
use Rattle.sh_sharding.specs.Carried.{grid_of}
use Rattle.sh_admission.specs.Least.{by_place}
use Rattle.sh_admission.specs.Notes.{first_grid, noted_by}

-- ---- one sharding

-- the least of A1 to A8 that it breaks on a grid, if it breaks one
abbrev pub IsFirstBroken : GridValue → RawSharding → List ℕ → Option Rule → Type 0
IsFirstBroken g raw s None = IsGrid g.extents → IsAdmitted g raw s
IsFirstBroken g raw s (Some rule) = IsGrid g.extents × IsLeastBroken rule g raw s

-- the same on the grid that it names; nothing is asked where there is none
abbrev pub BreaksFirst : List GridItem → RawSharding → ValueType → Option Rule → Type 0
BreaksFirst grids raw noted broken =
    MatchOption (grid_item grids raw.grid) (broken ≡ None)
    (λ item. IsFirstBroken (grid_of item) raw (shape_of noted) broken)

-- ---- one note

abbrev pub is_first : Option (List ℕ) → List ℕ → Bool
is_first None name = true
is_first (Some first) name = same_text first name

-- A9, where it is on another grid than the first note of its function
abbrev pub other_grid : List Op → RawSharding → Option Rule
other_grid ops raw =
    if is_first (first_grid ops ops) raw.grid then None else Some A9

-- the first rule that a note of a function breaks, if it breaks one; another operation breaks none
abbrev pub NoteBreaks : List GridItem → List Op → Op → Option Rule → Type 0
NoteBreaks grids ops op broken =
    MatchOption (noted_by ops op) (broken ≡ None)
    (λ raw. (own : Option Rule) × BreaksFirst grids raw op.result own
    × (broken ≡ option_or own (other_grid ops raw)))

-- ---- the faults

-- of a note at its place, of a cut at that of its function
pub data IsFault (m : Module) (refusal : Refusal) : Type 0 where
  of_note : (f : Func) (op : Op) → Contains m.funcs f → Contains f.ops op
      → NoteBreaks m.grids f.ops op (Some refusal.rule) → refusal.place ≡ op.place
      → IsFault m refusal
  of_cut : (f : Func) (cut : Cut) → Contains m.funcs f → Contains (cuts_in f) cut
      → BreaksFirst m.grids cut.sharding cut.whole (Some refusal.rule) → refusal.place ≡ f.place
      → IsFault m refusal

-- a fault, and no other comes before it
pub record IsLeastFault (m : Module) (refusal : Refusal) : Type 0 where
  pub there : IsFault m refusal
  pub first : (other : Refusal) → IsFault m other → by_place other refusal ≢ Less

-- ---- the refusal

-- the place of the first function in source form
abbrev pub first_source : List Func → Option Place
first_source [] = None
first_source (f ∷ funcs) = if is_none f.carry then Some f.place else first_source funcs

-- a function in source form, the first, has no grid, and no sharding has a fault
pub record IsWithoutGrid (m : Module) (refusal : Refusal) : Type 0 where
  pub place : Place
  pub none : (fault : Refusal) → ¬ (IsFault m fault)
  pub no_grid : m.grids ≡ []
  pub first : first_source m.funcs ≡ Some place
  pub is : refusal ≡ refusal_at place A10

-- The refusal of a module: its least fault; where there is none, the want of a grid, if one is needed.
pub data IsRefused (m : Module) (need_grid : Bool) (refusal : Refusal) : Type 0 where
  for_fault : IsLeastFault m refusal → IsRefused m need_grid refusal
  for_grid : need_grid ≡ true → IsWithoutGrid m refusal → IsRefused m need_grid refusal
