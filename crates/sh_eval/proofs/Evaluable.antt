-- Operations of verified functions can be evaluated on operands of the types that are written for them.
use Rattle.std.proofs.Common.{◌≡◌, ℕ, ◌≤◌, Bool, true, false, List, [], ◌∷◌, ◌++◌, map, max, length, drop, Option, Some, None, refl, ap, ap₂, sym, ◌∙◌, arith, subst}
use Rattle.std.proofs.lemmas.Bool.Decides.{nat_tests}
use Rattle.std.proofs.lemmas.List.{append-nil}
use Rattle.std.specs.List.{list_any}
use Rattle.std.specs.Prelude.{◌==◌, IfSome, if◌then◌else◌, nat_le, option_and_then}
use Rattle.sh_base.specs.Shape.{cell_count, max_cells, max_rank}
use Rattle.sh_base.specs.declared.places.Place.{Place}
use Rattle.sh_ir.specs.declared.linalg_ops.Generic as declared_generic
use Rattle.sh_ir.specs.declared.linalg_ops.Reduce as declared_reduce
use Rattle.sh_ir.specs.declared.operations.Op.{Op}
use Rattle.sh_ir.specs.declared.operations.OpKind.{OpKind}
use Rattle.sh_ir.specs.declared.operations.OpKind.TheVariants.{Constant, Binary, Compare, Select, Cast, Empty, ExtractSlice, InsertSlice, CollapseShape, ExpandShape, Fill, Matmul, BatchMatmul, Matvec, Vecmat, Dot, Conv1d, Conv2d, Transpose, Broadcast, Reduce, Generic, Sharding, Shard, AllGather, AllSlice, AllReduce, ReduceScatter, AllToAll, Shift, UpdateHalo, Take, Pad, Join, Call, Return}
use Rattle.sh_ir.specs.declared.types.Dim.{Dim}
use Rattle.sh_ir.specs.declared.types.Dim.TheVariants.{Known, Differs}
use Rattle.sh_ir.specs.declared.types.ValueType.{ValueType}
use Rattle.sh_ir.specs.Agreement.{differs, dims_of, has_differing, rank_of}
use Rattle.sh_ir.specs.Classes.{class_of}
use Rattle.sh_ir.specs.Formed.{is_spelled_type}
use Rattle.sh_ir.specs.Limits.{counted_cells_of, counted_dim, has_few_cells, has_few_dims}
use Rattle.sh_ir.specs.Literals.{is_held}
use Rattle.sh_ir.specs.Loops.{structure_of}
use Rattle.sh_ir.specs.Rules.{has_region_in_order}
use Rattle.sh_ir.specs.RegionRules.{region_fits}
use Rattle.sh_ir.specs.Scope.{Scope}
use Rattle.sh_ir.specs.Typing.{operand_types, typing_of}
use Rattle.sh_ir.specs.Written.{written_by}
use Rattle.sh_loops.proofs.InsideLaws.{both_left, both_right, equal_by}
use Rattle.sh_sem.specs.Given.{Giving, Seat, alone, giving, have_all_extents, of_dims, shape_given}
use Rattle.sh_sem.specs.Types.{have_extents}
use Rattle.sh_tensor.specs.Tensor.{TensorValue}
use Rattle.sh_eval.specs.Sources.{AreOfValueTypes}
use Rattle.sh_eval.specs.Evaluations.{CanEvaluate, FitsKind}
use Rattle.sh_eval.specs.Values.{IsFew, shapes_of}
use Rattle.sh_collectives.specs.VerifiedOps.{IsOfVerifiedOp}
use Rattle.sh_eval.specs.VerifiedOps.{GivesTensor}
use Rattle.sh_collectives.proofs.CapturedLaws.{are_parted, captured_usable}
use Rattle.sh_eval.proofs.KindFits.{all_slice_fits, binary_fits, cast_fits, collapse_fits, compare_fits, constant_fits, empty_fits, expand_fits, extract_fits, insert_fits, join_fits, pad_fits, select_fits, take_fits}
use Rattle.sh_eval.proofs.NamedFits.{batch_matmul_fits, broadcast_fits, conv_1d_fits, conv_2d_fits, dot_fits, fill_fits, matmul_fits, matvec_fits, transpose_fits, vecmat_fits}
use Rattle.sh_eval.proofs.OperandLaws.{all_types}
use Rattle.sh_eval.proofs.RegionNests.{IsRegionOf, generic_fits, reduce_fits}
use Rattle.sh_collectives.proofs.RuleLaws.{all_front, neither_right, sound}
use Rattle.sh_eval.proofs.RuleFacts.{count_generic, count_reduce, counts_reduce, known_result, passes_first, sound_result, spelled_value, spelled_values, typing_values}

abbrev pub op_by : OpKind → List ℕ → Option ℕ → ValueType → Place → Op
op_by kind operands defines result place = record { kind = kind; operands = operands; defines = defines; result = result; place = place }

-- without a region there are no other operands
plain : (types : List ValueType) (ts : List TensorValue) → AreOfValueTypes (types ++ []) ts → AreOfValueTypes types ts
plain types ts typed = subst (λ us. AreOfValueTypes us ts) (append-nil types) typed

-- ---- regions

region_of_reduce : (scope : Scope) (x : declared_reduce.Reduce) → has_region_in_order scope (Reduce x) ≡ true
    → region_fits scope.values (operand_types x.ins_outs) x.body ≡ true
unfolding has_region_in_order structure_of
region_of_reduce scope x h = h

region_of_generic : (scope : Scope) (x : declared_generic.Generic) → has_region_in_order scope (Generic x) ≡ true
    → region_fits scope.values (operand_types x.ins_outs) x.body ≡ true
unfolding has_region_in_order structure_of
region_of_generic scope x h = h

reduce_types : (x : declared_reduce.Reduce) (result : ValueType) → typing_of (Reduce x) result ≡ operand_types x.ins_outs
unfolding typing_of
reduce_types x result = refl

generic_types : (x : declared_generic.Generic) (result : ValueType) → typing_of (Generic x) result ≡ operand_types x.ins_outs
unfolding typing_of
generic_types x result = refl

reduce_region : (scope : Scope) (x : declared_reduce.Reduce) (operands : List ℕ) (defines : Option ℕ) (result : ValueType) (place : Place)
    → IsOfVerifiedOp scope (op_by (Reduce x) operands defines result place)
    → IsRegionOf scope.values x.body operands (operand_types x.ins_outs)
reduce_region scope x operands defines result place v =
    let s = sound scope (op_by (Reduce x) operands defines result place) v in
    let count = count_reduce x operands result s.counts in
    let n = length (typing_of (Reduce x) result) in
    record {
      constants = v.constants;
      usable = captured_usable scope (op_by (Reduce x) operands defines result place) v;
      formed = v.body;
      captured =
          ap (λ (types : List ValueType). drop (length types) operands) (sym (reduce_types x result)) ∙
          (are_parted (written_by (Reduce x)) n operands count v.counted v.captures).captured;
      fits = region_of_reduce scope x s.region;
    }

generic_region : (scope : Scope) (x : declared_generic.Generic) (operands : List ℕ) (defines : Option ℕ) (result : ValueType)
    (place : Place) → IsOfVerifiedOp scope (op_by (Generic x) operands defines result place)
    → IsRegionOf scope.values x.body operands (operand_types x.ins_outs)
generic_region scope x operands defines result place v =
    let s = sound scope (op_by (Generic x) operands defines result place) v in
    let count = count_generic x operands result s.counts in
    let n = length (typing_of (Generic x) result) in
    record {
      constants = v.constants;
      usable = captured_usable scope (op_by (Generic x) operands defines result place) v;
      formed = v.body;
      captured =
          ap (λ (types : List ValueType). drop (length types) operands) (sym (generic_types x result)) ∙
          (are_parted (written_by (Generic x)) n operands count v.counted v.captures).captured;
      fits = region_of_generic scope x s.region;
    }

-- ---- collectives are evaluated by their groups

abbrev pub IsCollective : OpKind → Type 0
IsCollective (AllGather x) = Unit {0}
IsCollective (AllReduce x) = Unit {0}
IsCollective (ReduceScatter x) = Unit {0}
IsCollective (AllToAll x) = Unit {0}
IsCollective (Shift x) = Unit {0}
IsCollective (UpdateHalo x) = Unit {0}
IsCollective _ = ⊥

collective_fits : (kind : OpKind) (operands : List ℕ) (result : ValueType) (ts : List TensorValue) → IsCollective kind → FitsKind kind operands result ts
unfolding FitsKind
collective_fits (AllGather x) operands result ts is = tt
collective_fits (AllReduce x) operands result ts is = tt
collective_fits (ReduceScatter x) operands result ts is = tt
collective_fits (AllToAll x) operands result ts is = tt
collective_fits (Shift x) operands result ts is = tt
collective_fits (UpdateHalo x) operands result ts is = tt
collective_fits kind operands result ts is = absurd is

pub collective_gives : (kind : OpKind) (operands : List ℕ) (result : ValueType) (seat : Seat) → IsCollective kind
    → giving kind operands result seat ≡ None
unfolding giving
collective_gives (AllGather x) operands result seat is = refl
collective_gives (AllReduce x) operands result seat is = refl
collective_gives (ReduceScatter x) operands result seat is = refl
collective_gives (AllToAll x) operands result seat is = refl
collective_gives (Shift x) operands result seat is = refl
collective_gives (UpdateHalo x) operands result seat is = refl
collective_gives kind operands result seat is = absurd is

-- ---- kind by kind

fits_kind : (scope : Scope) (kind : OpKind) (operands : List ℕ) (defines : Option ℕ) (result : ValueType) (place : Place)
    (ts : List TensorValue) → IsOfVerifiedOp scope (op_by kind operands defines result place)
    → GivesTensor (class_of kind) → AreOfValueTypes (all_types scope (op_by kind operands defines result place)) ts
    → FitsKind kind operands result ts
fits_kind scope (Constant x) operands defines result place ts v has typed =
    constant_fits x operands result ts (both_left (is_held x) true v.held) v.result
fits_kind scope (Binary x) operands defines result place ts v has typed =
    binary_fits x operands result ts (plain (typing_of (Binary x) result) ts typed)
fits_kind scope (Compare x) operands defines result place ts v has typed =
    compare_fits x operands result ts (plain (typing_of (Compare x) result) ts typed)
    (spelled_value x.operand_type (passes_first is_spelled_type x.operand_type [] v.spelled)) v.result
fits_kind scope (Select x) operands defines result place ts v has typed =
    select_fits x operands result ts (plain (typing_of (Select x) result) ts typed)
fits_kind scope (Cast x) operands defines result place ts v has typed =
    let s = sound scope (op_by (Cast x) operands defines result place) v in
    let value = spelled_value result (sound_result scope (op_by (Cast x) operands defines result place) v has).spelled in
    cast_fits scope x operands result ts (plain (typing_of (Cast x) result) ts typed)
    (spelled_value x.operand_type (passes_first is_spelled_type x.operand_type (result ∷ []) v.spelled)) value s.results
fits_kind scope Empty operands defines result place ts v has typed = empty_fits operands result ts
fits_kind scope (ExtractSlice x) operands defines result place ts v has typed =
    let s = sound scope (op_by (ExtractSlice x) operands defines result place) v in
    let value = spelled_value result (sound_result scope (op_by (ExtractSlice x) operands defines result place) v has).spelled in
    extract_fits scope x operands result ts (plain (typing_of (ExtractSlice x) result) ts typed)
    (spelled_value x.source_type (passes_first is_spelled_type x.source_type (result ∷ []) v.spelled)) value s.results
fits_kind scope (InsertSlice x) operands defines result place ts v has typed =
    let s = sound scope (op_by (InsertSlice x) operands defines result place) v in
    let value = spelled_value result (sound_result scope (op_by (InsertSlice x) operands defines result place) v has).spelled in
    insert_fits scope x operands result ts (plain (typing_of (InsertSlice x) result) ts typed)
    (spelled_value x.source_type (passes_first is_spelled_type x.source_type (result ∷ []) v.spelled)) value s.operands
fits_kind scope (CollapseShape x) operands defines result place ts v has typed =
    let s = sound scope (op_by (CollapseShape x) operands defines result place) v in
    let value = spelled_value result (sound_result scope (op_by (CollapseShape x) operands defines result place) v has).spelled in
    collapse_fits scope x operands result ts (plain (typing_of (CollapseShape x) result) ts typed)
    (spelled_value x.source_type (passes_first is_spelled_type x.source_type (result ∷ []) v.spelled)) value s.results
fits_kind scope (ExpandShape x) operands defines result place ts v has typed =
    let s = sound scope (op_by (ExpandShape x) operands defines result place) v in
    let value = spelled_value result (sound_result scope (op_by (ExpandShape x) operands defines result place) v has).spelled in
    expand_fits scope x operands result ts (plain (typing_of (ExpandShape x) result) ts typed)
    (spelled_value x.source_type (passes_first is_spelled_type x.source_type (result ∷ []) v.spelled)) value s.results
fits_kind scope (Fill x) operands defines result place ts v has typed =
    let s = sound scope (op_by (Fill x) operands defines result place) v in
    let value = spelled_value result (sound_result scope (op_by (Fill x) operands defines result place) v has).spelled in
    let values = typing_values (Fill x) result has v.spelled in
    fill_fits scope x operands result ts typed values value s.dims s.counts s.operands s.results
fits_kind scope (Matmul x) operands defines result place ts v has typed =
    let s = sound scope (op_by (Matmul x) operands defines result place) v in
    let value = spelled_value result (sound_result scope (op_by (Matmul x) operands defines result place) v has).spelled in
    let values = typing_values (Matmul x) result has v.spelled in
    matmul_fits scope x operands result ts typed values value s.counts s.operands s.results
fits_kind scope (BatchMatmul x) operands defines result place ts v has typed =
    let s = sound scope (op_by (BatchMatmul x) operands defines result place) v in
    let value = spelled_value result (sound_result scope (op_by (BatchMatmul x) operands defines result place) v has).spelled in
    let values = typing_values (BatchMatmul x) result has v.spelled in
    batch_matmul_fits scope x operands result ts typed values value s.counts s.operands s.results
fits_kind scope (Matvec x) operands defines result place ts v has typed =
    let s = sound scope (op_by (Matvec x) operands defines result place) v in
    let value = spelled_value result (sound_result scope (op_by (Matvec x) operands defines result place) v has).spelled in
    let values = typing_values (Matvec x) result has v.spelled in
    matvec_fits scope x operands result ts typed values value s.counts s.operands s.results
fits_kind scope (Vecmat x) operands defines result place ts v has typed =
    let s = sound scope (op_by (Vecmat x) operands defines result place) v in
    let value = spelled_value result (sound_result scope (op_by (Vecmat x) operands defines result place) v has).spelled in
    let values = typing_values (Vecmat x) result has v.spelled in
    vecmat_fits scope x operands result ts typed values value s.counts s.operands s.results
fits_kind scope (Dot x) operands defines result place ts v has typed =
    let s = sound scope (op_by (Dot x) operands defines result place) v in
    let value = spelled_value result (sound_result scope (op_by (Dot x) operands defines result place) v has).spelled in
    let values = typing_values (Dot x) result has v.spelled in
    dot_fits scope x operands result ts typed values value s.counts s.operands s.results
fits_kind scope (Conv1d x) operands defines result place ts v has typed =
    let s = sound scope (op_by (Conv1d x) operands defines result place) v in
    let value = spelled_value result (sound_result scope (op_by (Conv1d x) operands defines result place) v has).spelled in
    let values = typing_values (Conv1d x) result has v.spelled in
    conv_1d_fits scope x operands result ts typed values value s.counts s.operands s.results
fits_kind scope (Conv2d x) operands defines result place ts v has typed =
    let s = sound scope (op_by (Conv2d x) operands defines result place) v in
    let value = spelled_value result (sound_result scope (op_by (Conv2d x) operands defines result place) v has).spelled in
    let values = typing_values (Conv2d x) result has v.spelled in
    conv_2d_fits scope x operands result ts typed values value s.counts s.operands s.results
fits_kind scope (Transpose x) operands defines result place ts v has typed =
    let s = sound scope (op_by (Transpose x) operands defines result place) v in
    let value = spelled_value result (sound_result scope (op_by (Transpose x) operands defines result place) v has).spelled in
    let values = typing_values (Transpose x) result has v.spelled in
    transpose_fits scope x operands result ts typed values value s.dims s.counts s.operands s.results s.numbers
fits_kind scope (Broadcast x) operands defines result place ts v has typed =
    let s = sound scope (op_by (Broadcast x) operands defines result place) v in
    let value = spelled_value result (sound_result scope (op_by (Broadcast x) operands defines result place) v has).spelled in
    let values = typing_values (Broadcast x) result has v.spelled in
    broadcast_fits scope x operands result ts typed values value s.dims s.counts s.operands s.results
fits_kind scope (Reduce x) operands defines result place ts v has typed =
    let s = sound scope (op_by (Reduce x) operands defines result place) v in
    let value = spelled_value result (sound_result scope (op_by (Reduce x) operands defines result place) v has).spelled in
    let values = typing_values (Reduce x) result has v.spelled in
    reduce_fits scope x operands result ts (reduce_region scope x operands defines result place v) typed values value s.dims
    (counts_reduce x operands s.counts) s.results
fits_kind scope (Generic x) operands defines result place ts v has typed =
    let s = sound scope (op_by (Generic x) operands defines result place) v in
    let value = spelled_value result (sound_result scope (op_by (Generic x) operands defines result place) v has).spelled in
    let values = typing_values (Generic x) result has v.spelled in
    generic_fits scope x operands result ts
    (generic_region scope x operands defines result place v) typed values value s.loops s.maps s.counts s.results
fits_kind scope (Sharding x) operands defines result place ts v has typed = absurd has
fits_kind scope (Shard x) operands defines result place ts v has typed = absurd has
fits_kind scope (AllGather x) operands defines result place ts v has typed = collective_fits (AllGather x) operands result ts tt
fits_kind scope (AllSlice x) operands defines result place ts v has typed =
    let s = sound scope (op_by (AllSlice x) operands defines result place) v in
    let value = spelled_value result (sound_result scope (op_by (AllSlice x) operands defines result place) v has).spelled in
    all_slice_fits scope x operands result ts (plain (typing_of (AllSlice x) result) ts typed)
    (spelled_value x.operand_type (passes_first is_spelled_type x.operand_type (result ∷ []) v.spelled)) value s.results
fits_kind scope (AllReduce x) operands defines result place ts v has typed = collective_fits (AllReduce x) operands result ts tt
fits_kind scope (ReduceScatter x) operands defines result place ts v has typed = collective_fits (ReduceScatter x) operands result ts tt
fits_kind scope (AllToAll x) operands defines result place ts v has typed = collective_fits (AllToAll x) operands result ts tt
fits_kind scope (Shift x) operands defines result place ts v has typed = collective_fits (Shift x) operands result ts tt
fits_kind scope (UpdateHalo x) operands defines result place ts v has typed = collective_fits (UpdateHalo x) operands result ts tt
fits_kind scope (Take x) operands defines result place ts v has typed =
    let s = sound scope (op_by (Take x) operands defines result place) v in
    let value = spelled_value result (sound_result scope (op_by (Take x) operands defines result place) v has).spelled in
    take_fits scope x operands result ts (plain (typing_of (Take x) result) ts typed)
    (spelled_value x.operand_type (passes_first is_spelled_type x.operand_type (result ∷ []) v.spelled)) value s.results
fits_kind scope (Pad x) operands defines result place ts v has typed =
    let s = sound scope (op_by (Pad x) operands defines result place) v in
    let value = spelled_value result (sound_result scope (op_by (Pad x) operands defines result place) v has).spelled in
    pad_fits scope x operands result ts (plain (typing_of (Pad x) result) ts typed)
    (spelled_value x.operand_type (passes_first is_spelled_type x.operand_type (result ∷ []) v.spelled)) value s.results
fits_kind scope (Join x) operands defines result place ts v has typed =
    let s = sound scope (op_by (Join x) operands defines result place) v in
    let value = spelled_value result (sound_result scope (op_by (Join x) operands defines result place) v has).spelled in
    join_fits scope x operands result ts (plain (typing_of (Join x) result) ts typed)
    (spelled_values x.operand_types (all_front is_spelled_type x.operand_types (result ∷ []) v.spelled)) value s.operands s.results
fits_kind scope (Call x) operands defines result place ts v has typed = absurd has
fits_kind scope (Return x) operands defines result place ts v has typed = absurd has

-- ---- few cells

-- a shape that has the extents of a type which knows all of them is the type's
pub extents_are : (dims : List Dim) (shape : List ℕ) → list_any differs dims ≡ false → have_extents dims shape ≡ true
    → map (λ n. Known n) shape ≡ dims
extents_are [] [] known h = refl
extents_are [] (n ∷ shape) known h = absurd (cc)
extents_are (d ∷ dims) [] known h = absurd (cc)
extents_are (Differs ∷ dims) (n ∷ shape) known h = absurd (cc)
extents_are (Known m ∷ dims) (n ∷ shape) known h =
    let same = equal_by m n (both_left (m == n) (have_extents dims shape) h) in
    ap₂ ◌∷◌ (ap (λ k. Known k) (sym same)) (extents_are dims shape (neither_right false (list_any differs dims) known)
    (both_right (m == n) (have_extents dims shape) h))

counted_shape : (shape : List ℕ) → map counted_dim (map (λ n. Known n) shape) ≡ map (λ n. max n 1) shape
counted_shape [] = refl
counted_shape (n ∷ shape) = let same : max 1 n ≡ max n 1 = omega arith in ap₂ ◌∷◌ same (counted_shape shape)

-- a shape of a type that knows all extents, and has few cells
pub few_by_type : (t : ValueType) (shape : List ℕ) → has_few_cells t ≡ true → map (λ n. Known n) shape ≡ dims_of t → IsFew shape
unfolding has_few_cells
few_by_type t shape small dims =
    let cells : counted_cells_of t ≤ max_cells = let few : nat_le (counted_cells_of t) max_cells ≡ true = small in grind
    (arith, nat_tests) in
    let same : map counted_dim (dims_of t) ≡ map (λ n. max n 1) shape = ap (map counted_dim) (sym dims) ∙ counted_shape shape in
    subst (λ ns. cell_count ns ≤ max_cells) same cells

few_of : (result : ValueType) (o : Option (List ℕ)) → has_differing result ≡ false → has_few_cells result ≡ true
    → IfSome (option_and_then (of_dims (dims_of result)) o) IsFew
few_of result None known small = tt
few_of result (Some shape) known small =
    go (have_extents (dims_of result) shape) (λ h. few_by_type result shape small (extents_are (dims_of result) shape known h))
  where
    go : (b : Bool) → (b ≡ true → IsFew shape) → IfSome (if b then Some shape else None) IsFew
    go true few = few refl
    go false few = tt

-- in source form what is given has few cells
pub few_given : (op : Op) (seat : Seat) (ts : List TensorValue) → has_differing op.result ≡ false → has_few_cells op.result ≡ true
    → IfSome (shape_given op seat (shapes_of ts)) IsFew
unfolding shape_given
few_given op seat ts known small = go (have_all_extents (typing_of op.kind op.result) (shapes_of ts))
  where
    few : IfSome (option_and_then (of_dims (dims_of op.result))
        (option_and_then (λ (x : Giving). x.shape (shapes_of ts)) (giving op.kind op.operands op.result seat))) IsFew
    few = few_of op.result (option_and_then (λ (x : Giving). x.shape (shapes_of ts)) (giving op.kind op.operands op.result seat)) known small

    go : (b : Bool)
        → IfSome (if b then option_and_then (of_dims (dims_of op.result))
        (option_and_then (λ (x : Giving). x.shape (shapes_of ts)) (giving op.kind op.operands op.result seat)) else None) IsFew
    go true = few
    go false = tt

pub few_dims : (t : ValueType) → has_few_dims t ≡ true → length (dims_of t) ≤ max_rank
unfolding has_few_dims
few_dims t h = let short : nat_le (rank_of t) max_rank ≡ true = h in grind (arith, nat_tests)

-- ---- an operation can be evaluated

-- on a device, where what it gives has few cells
pub can_evaluate : (scope : Scope) (op : Op) (seat : Seat) (ts : List TensorValue) → IsOfVerifiedOp scope op → GivesTensor (class_of op.kind)
    → AreOfValueTypes (all_types scope op) ts → IfSome (shape_given op seat (shapes_of ts)) IsFew → CanEvaluate op seat ts
can_evaluate scope op seat ts v has typed few =
    record {
      fits = fits_kind scope op.kind op.operands op.defines op.result op.place ts v has typed;
      rank = few_dims op.result (sound_result scope op v has).short;
      few = few;
    }

-- in source form
pub can_evaluate_alone : (scope : Scope) (op : Op) (ts : List TensorValue) → scope.device ≡ None → IsOfVerifiedOp scope op
    → GivesTensor (class_of op.kind) → AreOfValueTypes (all_types scope op) ts → CanEvaluate op alone ts
can_evaluate_alone scope op ts none v has typed =
    can_evaluate scope op alone ts v has typed
    (few_given op alone ts (known_result scope op none v has) (sound_result scope op v has).small)
