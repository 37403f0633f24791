-- Notes and cuts of a module within the limits are within them.
use mathlib.Core.Path.{sym, refl}
use mathlib.Core.Bool.{true≢false}
use Rattle.std.proofs.Common.{◌≡◌, List, [], ◌∷◌, ◌++◌, Bool, true, false, ◌&&◌, map}
use Rattle.std.proofs.lemmas.List.Elements.{All-from_recursion}
use Rattle.std.specs.Prelude.{if◌then◌else◌}
use Rattle.std.specs.List.{All, AllByRecursion, list_all}
use Rattle.sh_base.specs.declared.places.Place.{Place}
use Rattle.sh_base.specs.declared.places.Refusal.{Refusal}
use Rattle.sh_base.specs.declared.rules.Rule.{Rule}
use Rattle.sh_base.specs.declared.rules.Rule.TheVariants.{L2, L3, L4, L5, L6, L7}
use Rattle.sh_ir.specs.declared.functions.Cut.{Cut}
use Rattle.sh_ir.specs.declared.functions.Func.{Func}
use Rattle.sh_ir.specs.declared.modules.Module.{Module}
use Rattle.sh_ir.specs.declared.operations.Op.{Op}
use Rattle.sh_ir.specs.declared.operations.OpKind.{OpKind}
use Rattle.sh_ir.specs.declared.operations.OpKind.TheVariants.{Constant, Binary, Compare, Select, Cast, Empty, ExtractSlice, InsertSlice, CollapseShape, ExpandShape, Fill, Matmul, BatchMatmul, Matvec, Vecmat, Dot, Conv1d, Conv2d, Transpose, Broadcast, Reduce, Generic, Sharding, Shard, AllGather, AllSlice, AllReduce, ReduceScatter, AllToAll, Shift, UpdateHalo, Take, Pad, Join, Call, Return}
use Rattle.sh_ir.specs.declared.types.ValueType.{ValueType}
use Rattle.sh_ir.specs.Faults.{faults_by, func_faults, funcs_faults, grid_faults, keeps_func, limit_faults, the_limits}
use Rattle.sh_ir.specs.Formed.{cuts_in, types_in}
use Rattle.sh_ir.specs.Limits.{has_few_cells, has_few_dims, has_few_loops}
use Rattle.sh_ir.specs.Rules.{faults_at, keeps, op_faults, op_types_of, ops_faults, refusal_at}
use Rattle.sh_ir.specs.Scope.{Scope, scope_after, scope_of}
use Rattle.sh_ir.specs.Shapes.{argument_types}
use Rattle.sh_ir.specs.Written.{written_by}
use Rattle.sh_ir.proofs.KeptLaws.{left_empty, right_empty}
use Rattle.sh_admission.specs.Found.{IsReadyFunc, IsReadyNote, IsWithin}
use Rattle.sh_admission.specs.Notes.{is_note}

left_true : (a b : Bool) → (a && b) ≡ true → a ≡ true
left_true true b e = refl
left_true false b e = absurd (true≢false (sym e))

right_true : (a b : Bool) → (a && b) ≡ true → b ≡ true
right_true true b e = e
right_true false b e = absurd (true≢false (sym e))

-- a note writes the type of its value
noted_type : (kind : OpKind) (t : ValueType) (test : ValueType → Bool) → is_note kind ≡ true
    → list_all test (types_in (written_by kind) t) ≡ true → test t ≡ true
unfolding is_note
noted_type (Constant x) t test note all = absurd (true≢false (sym note))
noted_type (Binary x) t test note all = absurd (true≢false (sym note))
noted_type (Compare x) t test note all = absurd (true≢false (sym note))
noted_type (Select x) t test note all = absurd (true≢false (sym note))
noted_type (Cast x) t test note all = absurd (true≢false (sym note))
noted_type Empty t test note all = absurd (true≢false (sym note))
noted_type (ExtractSlice x) t test note all = absurd (true≢false (sym note))
noted_type (InsertSlice x) t test note all = absurd (true≢false (sym note))
noted_type (CollapseShape x) t test note all = absurd (true≢false (sym note))
noted_type (ExpandShape x) t test note all = absurd (true≢false (sym note))
noted_type (Fill x) t test note all = absurd (true≢false (sym note))
noted_type (Matmul x) t test note all = absurd (true≢false (sym note))
noted_type (BatchMatmul x) t test note all = absurd (true≢false (sym note))
noted_type (Matvec x) t test note all = absurd (true≢false (sym note))
noted_type (Vecmat x) t test note all = absurd (true≢false (sym note))
noted_type (Dot x) t test note all = absurd (true≢false (sym note))
noted_type (Conv1d x) t test note all = absurd (true≢false (sym note))
noted_type (Conv2d x) t test note all = absurd (true≢false (sym note))
noted_type (Transpose x) t test note all = absurd (true≢false (sym note))
noted_type (Broadcast x) t test note all = absurd (true≢false (sym note))
noted_type (Reduce x) t test note all = absurd (true≢false (sym note))
noted_type (Generic x) t test note all = absurd (true≢false (sym note))
noted_type (Sharding x) t test note all = absurd (true≢false (sym note))
noted_type (Shard x) t test note all = left_true (test t) true all
noted_type (AllGather x) t test note all = absurd (true≢false (sym note))
noted_type (AllSlice x) t test note all = absurd (true≢false (sym note))
noted_type (AllReduce x) t test note all = absurd (true≢false (sym note))
noted_type (ReduceScatter x) t test note all = absurd (true≢false (sym note))
noted_type (AllToAll x) t test note all = absurd (true≢false (sym note))
noted_type (Shift x) t test note all = absurd (true≢false (sym note))
noted_type (UpdateHalo x) t test note all = absurd (true≢false (sym note))
noted_type (Take x) t test note all = absurd (true≢false (sym note))
noted_type (Pad x) t test note all = absurd (true≢false (sym note))
noted_type (Join x) t test note all = absurd (true≢false (sym note))
noted_type (Call x) t test note all = absurd (true≢false (sym note))
noted_type (Return x) t test note all = absurd (true≢false (sym note))

-- ---- faults at one place

step : (rule : Rule) (asked : List Rule) (place : Place) (kept : Rule → Bool) → faults_at place (rule ∷ asked) kept ≡ []
    → (kept rule ≡ true) × (faults_at place asked kept ≡ [])
step rule asked place kept none = by (kept rule) refl none
  where
    by : (b : Bool) → kept rule ≡ b → (if b then faults_at place asked kept else refusal_at place rule ∷ faults_at place asked kept) ≡ []
        → (kept rule ≡ true) × (faults_at place asked kept ≡ [])
    by true e none = (e, none)
    by false e none = absurd (cc)

kept_of : (place : Place) (kept : Rule → Bool) → faults_at place the_limits kept ≡ [] → (kept L2 ≡ true) × (kept L4 ≡ true)
kept_of place kept none =
    let second = step L2 (L3 ∷ L4 ∷ L5 ∷ L6 ∷ L7 ∷ []) place kept none in
    let third = step L3 (L4 ∷ L5 ∷ L6 ∷ L7 ∷ []) place kept second.1 in
    (second.0, (step L4 (L5 ∷ L6 ∷ L7 ∷ []) place kept third.1).0)

-- ---- notes

note_ready : (scope : Scope) (op : Op) → op_faults the_limits scope op ≡ [] → IsReadyNote op
unfolding op_faults keeps
note_ready scope op none = λ note.
    let kept = kept_of op.place (λ rule. keeps rule scope op) (left_empty (faults_at op.place the_limits (λ rule. keeps rule scope op)) _ none) in
    record {
      few = noted_type op.kind op.result has_few_dims note (left_true (list_all has_few_dims (op_types_of op)) (has_few_loops op.kind) kept.0);
      small = noted_type op.kind op.result has_few_cells note kept.1;
    }

notes_ready : (scope : Scope) (ops : List Op) → ops_faults the_limits scope ops ≡ [] → AllByRecursion IsReadyNote ops
notes_ready scope [] none = tt
notes_ready scope (op ∷ ops) none = (
  note_ready scope op (left_empty (op_faults the_limits scope op) _ none),
  notes_ready (scope_after scope op) ops (right_empty (op_faults the_limits scope op) _ none),
)

-- ---- cuts

all_right : (test : ValueType → Bool) (xs ys : List ValueType) → list_all test (xs ++ ys) ≡ true → list_all test ys ≡ true
all_right test [] ys all = all
all_right test (x ∷ xs) ys all = all_right test xs ys (right_true (test x) (list_all test (xs ++ ys)) all)

cuts_within : (cuts : List Cut) → list_all has_few_dims (map (λ cut. cut.whole) cuts) ≡ true
    → list_all has_few_cells (map (λ cut. cut.whole) cuts) ≡ true → AllByRecursion (λ cut. IsWithin cut.whole) cuts
cuts_within [] few small = tt
cuts_within (cut ∷ cuts) few small = (
  record {
    few = left_true (has_few_dims cut.whole) (list_all has_few_dims (map (λ c. c.whole) cuts)) few;
    small = left_true (has_few_cells cut.whole) (list_all has_few_cells (map (λ c. c.whole) cuts)) small;
  },
  cuts_within cuts (right_true (has_few_dims cut.whole) (list_all has_few_dims (map (λ c. c.whole) cuts)) few)
      (right_true (has_few_cells cut.whole) (list_all has_few_cells (map (λ c. c.whole) cuts)) small),
)

-- ---- functions

func_ready : (m : Module) (before : List Func) (f : Func) → func_faults the_limits m before f ≡ [] → IsReadyFunc f
unfolding func_faults keeps_func
func_ready m before f none =
    let heads = faults_at f.place the_limits (λ rule. keeps_func rule m before f) in
    let kept = kept_of f.place (λ rule. keeps_func rule m before f) (left_empty heads _ none) in
    let wholes = map (λ cut. cut.whole) (cuts_in f) in
    record {
      notes = All-from_recursion IsReadyNote f.ops
          (notes_ready (scope_of m f) f.ops (left_empty (ops_faults the_limits (scope_of m f) f.ops) _ (right_empty heads _ none)));
      cuts = All-from_recursion (λ cut. IsWithin cut.whole) (cuts_in f)
          (cuts_within (cuts_in f)
          (all_right has_few_dims (argument_types f ++ f.results) wholes kept.0)
          (all_right has_few_cells (argument_types f ++ f.results) wholes kept.1));
    }

each_ready : (m : Module) (before funcs : List Func) → funcs_faults the_limits m before funcs ≡ [] → AllByRecursion IsReadyFunc funcs
each_ready m before [] none = tt
each_ready m before (f ∷ funcs) none = (
  func_ready m before f (left_empty (func_faults the_limits m before f) _ none),
  each_ready m (before ++ f ∷ []) funcs (right_empty (func_faults the_limits m before f) _ none),
)

pub all_within : (m : Module) → limit_faults m ≡ [] → All IsReadyFunc m.funcs
unfolding faults_by
all_within m none =
    All-from_recursion IsReadyFunc m.funcs
    (each_ready m [] m.funcs (left_empty (funcs_faults the_limits m [] m.funcs) _ (right_empty (grid_faults the_limits [] m.grids) _ none)))
