-- Collectives of verified functions: the operands of a group are what they take, and what they give is of the type of the value.
use Rattle.std.proofs.Common.{◌≡◌, ℕ, zero, suc, ◌+◌, ◌<◌, Bool, true, false, List, [], ◌∷◌, ◌++◌, map, length, get_or, Option, Some, None, refl, ap, sym, ◌∙◌, arith, subst}
use Rattle.std.proofs.lemmas.Bool.Decides.{nat_tests}
use Rattle.std.proofs.lemmas.Option.{none-some, same_Some}
use Rattle.std.specs.List.{All, AllByRecursion, list_all, range_with_len}
use Rattle.std.specs.Prelude.{IfSome, IsSomeAnd, fold, if◌then◌else◌, nat_lt, option_and_then, option_map, set, slice_get}
use Rattle.sh_base.specs.Cells.{IsCellOf}
use Rattle.sh_base.specs.declared.numbers.Cell.{Cell}
use Rattle.sh_base.specs.declared.numbers.Cell.TheVariants.{Undef}
use Rattle.sh_base.specs.declared.numbers.Width.{Width}
use Rattle.sh_base.specs.declared.operations.Kind.{Kind}
use Rattle.sh_collectives.proofs.MemberLaws.{all_by, all_pass, at_place}
use Rattle.sh_collectives.proofs.RuleLaws.{never, sound}
use Rattle.sh_collectives.specs.Ways.{dims_worked}
use Rattle.sh_int.specs.Reduction.{combine_of}
use Rattle.sh_int.proofs.ReductionLaws.{combine_laws}
use Rattle.sh_ir.specs.declared.operations.Op.{Op}
use Rattle.sh_ir.specs.declared.operations.OpKind.{OpKind}
use Rattle.sh_ir.specs.declared.operations.OpKind.TheVariants.{Constant, Binary, Compare, Select, Cast, Empty, ExtractSlice, InsertSlice, CollapseShape, ExpandShape, Fill, Matmul, BatchMatmul, Matvec, Vecmat, Dot, Conv1d, Conv2d, Transpose, Broadcast, Reduce, Generic, Sharding, Shard, AllGather, AllSlice, AllReduce, ReduceScatter, AllToAll, Shift, UpdateHalo, Take, Pad, Join, Call, Return}
use Rattle.sh_ir.specs.declared.types.Dim.{Dim}
use Rattle.sh_ir.specs.declared.types.Dim.TheVariants.{Known, Differs}
use Rattle.sh_ir.specs.declared.types.ValueType.{ValueType}
use Rattle.sh_ir.specs.declared.types.ValueType.TheVariants as value_type
use Rattle.sh_ir.specs.Agreement.{dims_of, rank_of, same_bits, types_agree}
use Rattle.sh_ir.specs.Attributes.{along_fits, has_dim, numbers_fit}
use Rattle.sh_ir.specs.Classes.{class_of}
use Rattle.sh_ir.specs.Formed.{is_spelled_type}
use Rattle.sh_ir.specs.Results.{result_fits}
use Rattle.sh_ir.specs.Scope.{Scope}
use Rattle.sh_ir.specs.Typing.{typing_of}
use Rattle.sh_ir.specs.Written.{first_type}
use Rattle.sh_loops.proofs.InsideLaws.{both_left, both_right}
use Rattle.sh_sem.specs.Collected.{Collecting, collected, collecting, combined, combined_at, exchanges, gathers, operands_fit, piece_of, reduces, result_at, scatters, shapes_by, shapes_collected, shift_source, shifted_cell, shifts}
use Rattle.sh_sem.specs.Given.{of_dims}
use Rattle.sh_sem.specs.Meaning.{Values}
use Rattle.sh_sem.specs.Pieces.{Piece, equal_piece}
use Rattle.sh_sem.specs.Scalars.{width_of}
use Rattle.sh_sem.specs.Steps.{is_collective_class}
use Rattle.sh_sem.specs.Types.{have_extents}
use Rattle.sh_tensor.specs.Tensor.{IsTensor, TensorValue, at, build, slice_of}
use Rattle.sh_tensor.proofs.TensorLaws.{IsTensor-build}
use Rattle.sh_collectives.specs.Operands.{AreGroupOperands, shape_collected}
use Rattle.sh_eval.specs.Devices.{IsInstructionOf, operand_of, operand_type}
use Rattle.sh_eval.specs.Sources.{HaveTypes, IsOfValueType, has_value}
use Rattle.sh_eval.specs.Values.{IsFew}
use Rattle.sh_eval.proofs.CellFits.{IsBuilt, all_at, at_within}
use Rattle.sh_eval.proofs.Evaluable.{IsCollective}
use Rattle.sh_eval.proofs.OperandLaws.{operands_named}
use Rattle.sh_eval.proofs.ResultTypes.{joined_within, of_type}
use Rattle.sh_eval.proofs.RuleFacts.{sound_result, spelled_value, typing_values}
use Rattle.sh_eval.proofs.TypeLaws.{AreNamed, typed_whole, typed_width, width_by_bits}
use Rattle.sh_eval.proofs.CapturedTypes.{captured_types}

-- ---- cells of what collectives give

folded_within : (kind : Kind) (w : Width) (c : Cell) (cells : List Cell) → IsCellOf w c → AllByRecursion (IsCellOf w) cells
    → IsCellOf w (fold (combine_of kind w) c cells)
folded_within kind w c [] h all = h
folded_within kind w c (d ∷ cells) h all = folded_within kind w (combine_of kind w c d) cells ((combine_laws kind w).closed c d h all.0) all.1

combined_within : (kind : Kind) (w : Width) (ts : List TensorValue) (i : List ℕ) → AllByRecursion IsTensor ts
    → AllByRecursion (λ (t : TensorValue). t.width ≡ w) ts → IsCellOf w (combined_at kind ts i)
combined_within kind w [] i whole same = tt
combined_within kind w (t ∷ ts) i whole same =
    let cells = all_at w (t ∷ ts) i whole same in
    subst (λ v. IsCellOf w (combined kind v (map (λ u. at u i) (t ∷ ts)))) (sym same.0)
    (folded_within kind w (at t i) (map (λ u. at u i) ts) cells.0 cells.1)

record IsPart (w : Width) (t : TensorValue) : Type 0 where
  whole : IsTensor t
  width : t.width ≡ w

part_of : (axis n p : ℕ) (w : Width) (t : TensorValue) → IsTensor t → t.width ≡ w → IsPart w (piece_of axis n p t)
part_of axis n p w t whole same = go (equal_piece n p (get_or t.shape axis 0))
  where
    go : (o : Option Piece) → IsPart w (elim o [ None ↦ t | Some x ↦ slice_of t axis x.start x.size ])
    go None = record { whole = whole; width = same }
    go (Some x) = record {
      whole = IsTensor-build (set t.shape axis x.size) t.width (λ i. at t (set i axis (x.start + get_or i axis 0)))
          (λ i is. at_within t (set i axis (x.start + get_or i axis 0)) whole);
      width = same;
    }

parts_whole : (axis n p : ℕ) (w : Width) (ts : List TensorValue) → AllByRecursion IsTensor ts → AllByRecursion (λ (t : TensorValue). t.width ≡ w) ts
    → AllByRecursion IsTensor (map (piece_of axis n p) ts)
parts_whole axis n p w [] whole same = tt
parts_whole axis n p w (t ∷ ts) whole same = ((part_of axis n p w t whole.0 same.0).whole, parts_whole axis n p w ts whole.1 same.1)

parts_width : (axis n p : ℕ) (w : Width) (ts : List TensorValue) → AllByRecursion IsTensor ts → AllByRecursion (λ (t : TensorValue). t.width ≡ w) ts
    → AllByRecursion (λ (t : TensorValue). t.width ≡ w) (map (piece_of axis n p) ts)
parts_width axis n p w [] whole same = tt
parts_width axis n p w (t ∷ ts) whole same = ((part_of axis n p w t whole.0 same.0).width, parts_width axis n p w ts whole.1 same.1)

listed_within : (w : Width) (ts : List TensorValue) (k : ℕ) (i : List ℕ) → AllByRecursion IsTensor ts
    → AllByRecursion (λ (t : TensorValue). t.width ≡ w) ts → IsCellOf w (elim (slice_get ts k) [ None ↦ Undef | Some t ↦ at t i ])
listed_within w [] k i whole same = tt
listed_within w (t ∷ ts) zero i whole same = subst (λ v. IsCellOf v (at t i)) same.0 (at_within t i whole.0)
listed_within w (t ∷ ts) (suc k) i whole same = listed_within w ts k i whole.1 same.1

shifted_within : (w : Width) (o : Option ℕ) (ts : List TensorValue) (i : List ℕ) → AllByRecursion IsTensor ts
    → AllByRecursion (λ (t : TensorValue). t.width ≡ w) ts → IsCellOf w (shifted_cell o ts i)
shifted_within w None ts i whole same = tt
shifted_within w (Some k) ts i whole same = listed_within w ts k i whole same

module _ (w : Width) (ts : List TensorValue) (whole : AllByRecursion IsTensor ts) (same : AllByRecursion (λ (t : TensorValue). t.width ≡ w) ts)
    (grid : List ℕ) (x : Collecting) (p : ℕ) (i : List ℕ) where
  abbrev Within : Collecting → Type 0
  Within y = IsCellOf w (y.cell p ts i)

  collecting_within : (kind : OpKind) → collecting kind grid ≡ Some x → Within x
  unfolding collecting gathers reduces scatters exchanges shifts
  collecting_within (AllGather y) e = subst Within (same_Some (gathers y.gather_axis) x e) (joined_within w y.gather_axis ts i whole same)
  collecting_within (AllReduce y) e = subst Within (same_Some (reduces y.reduction) x e) (combined_within y.reduction w ts i whole same)
  collecting_within (ReduceScatter y) e =
      subst Within (same_Some (scatters y.reduction y.scatter_axis) x e)
      (combined_within y.reduction w (map (piece_of y.scatter_axis (length ts) p) ts) i
      (parts_whole y.scatter_axis (length ts) p w ts whole same) (parts_width y.scatter_axis (length ts) p w ts whole same))
  collecting_within (AllToAll y) e =
      subst Within (same_Some (exchanges y.split_axis y.concat_axis) x e)
      (joined_within w y.concat_axis (map (piece_of y.split_axis (length ts) p) ts) i
      (parts_whole y.split_axis (length ts) p w ts whole same) (parts_width y.split_axis (length ts) p w ts whole same))
  collecting_within (Shift y) e = subst Within (same_Some (shifts grid y) x e) (shifted_within w (shift_source grid y p) ts i whole same)
  collecting_within (UpdateHalo y) e = absurd (none-some x e)
  collecting_within (Constant y) e = absurd (none-some x e)
  collecting_within (Binary y) e = absurd (none-some x e)
  collecting_within (Compare y) e = absurd (none-some x e)
  collecting_within (Select y) e = absurd (none-some x e)
  collecting_within (Cast y) e = absurd (none-some x e)
  collecting_within Empty e = absurd (none-some x e)
  collecting_within (ExtractSlice y) e = absurd (none-some x e)
  collecting_within (InsertSlice y) e = absurd (none-some x e)
  collecting_within (CollapseShape y) e = absurd (none-some x e)
  collecting_within (ExpandShape y) e = absurd (none-some x e)
  collecting_within (Fill y) e = absurd (none-some x e)
  collecting_within (Matmul y) e = absurd (none-some x e)
  collecting_within (BatchMatmul y) e = absurd (none-some x e)
  collecting_within (Matvec y) e = absurd (none-some x e)
  collecting_within (Vecmat y) e = absurd (none-some x e)
  collecting_within (Dot y) e = absurd (none-some x e)
  collecting_within (Conv1d y) e = absurd (none-some x e)
  collecting_within (Conv2d y) e = absurd (none-some x e)
  collecting_within (Transpose y) e = absurd (none-some x e)
  collecting_within (Broadcast y) e = absurd (none-some x e)
  collecting_within (Reduce y) e = absurd (none-some x e)
  collecting_within (Generic y) e = absurd (none-some x e)
  collecting_within (Sharding y) e = absurd (none-some x e)
  collecting_within (Shard y) e = absurd (none-some x e)
  collecting_within (AllSlice y) e = absurd (none-some x e)
  collecting_within (Take y) e = absurd (none-some x e)
  collecting_within (Pad y) e = absurd (none-some x e)
  collecting_within (Join y) e = absurd (none-some x e)
  collecting_within (Call y) e = absurd (none-some x e)
  collecting_within (Return y) e = absurd (none-some x e)

-- ---- the shape at a place

extents_pass : (dims : List Dim) (o : Option (List ℕ)) → IfSome (option_and_then (of_dims dims) o) (λ s. have_extents dims s ≡ true)
extents_pass dims None = tt
extents_pass dims (Some s) = go (have_extents dims s) refl
  where
    go : (b : Bool) → b ≡ have_extents dims s → IfSome (if b then Some s else None) (λ z. have_extents dims z ≡ true)
    go true e = sym e
    go false e = tt

-- has the extents of the result's type
collected_extents : (op : Op) (grid : List ℕ) (ts : List TensorValue) (p : ℕ) (s : List ℕ) → shape_collected grid op p ts ≡ Some s
    → have_extents (dims_of op.result) s ≡ true
unfolding shapes_collected
collected_extents op grid ts p s h = first (operands_fit op.kind op.result shapes) h
  where
    shapes : List (List ℕ)
    shapes = map (λ t. t.shape) ts

    third : (x : Collecting) (o : Option (List (List ℕ))) → shapes_by (dims_of op.result) shapes x ≡ o
        → option_and_then (λ ss. slice_get ss p) o ≡ Some s → have_extents (dims_of op.result) s ≡ true
    third x None is e = absurd (none-some s e)
    third x (Some ss) is e =
        at_place (λ z. have_extents (dims_of op.result) z ≡ true) ss p s
        (all_pass (λ z. have_extents (dims_of op.result) z ≡ true) (λ q. option_and_then (of_dims (dims_of op.result)) (x.shape q shapes))
        (λ q. extents_pass (dims_of op.result) (x.shape q shapes)) (range_with_len 0 (length shapes)) ss is) e

    second : (o : Option Collecting) → option_and_then (λ ss. slice_get ss p) (option_and_then (shapes_by (dims_of op.result) shapes) o) ≡ Some s
        → have_extents (dims_of op.result) s ≡ true
    second None e = absurd (none-some s e)
    second (Some x) e = third x (shapes_by (dims_of op.result) shapes x) refl e

    first : (b : Bool)
        → option_and_then (λ ss. slice_get ss p)
        (if b then option_and_then (shapes_by (dims_of op.result) shapes) (collecting op.kind grid) else None) ≡ Some s
        → have_extents (dims_of op.result) s ≡ true
    first true e = second (collecting op.kind grid) e
    first false e = absurd (none-some s e)

-- ---- what is given

-- is of the type of the value, where it has few cells
collected_typed : (op : Op) (grid : List ℕ) (ts : List TensorValue) (p : ℕ) (t : TensorValue) → is_spelled_type op.result ≡ true
    → AllByRecursion IsTensor ts → AllByRecursion (λ (u : TensorValue). u.width ≡ width_of op.result) ts
    → IfSome (shape_collected grid op p ts) IsFew → collected op grid ts p ≡ Some t → IsOfValueType op.result t
unfolding collected
collected_typed op grid ts p t spelled whole same few e = first (shape_collected grid op p ts) refl few e
  where
    second : (s : List ℕ) → shape_collected grid op p ts ≡ Some s → IsFew s → (o : Option Collecting) → collecting op.kind grid ≡ o
        → option_map (λ x. build s (width_of op.result) (x.cell p ts)) o ≡ Some t → IsOfValueType op.result t
    second s at small None is f = absurd (none-some t f)
    second s at small (Some x) is f =
        of_type op.result s t spelled (collected_extents op grid ts p s at) small
        (subst (IsBuilt s (width_of op.result)) (same_Some (build s (width_of op.result) (x.cell p ts)) t f)
        (record {
          shape_is = refl;
          width_is = refl;
          whole = IsTensor-build s (width_of op.result) (x.cell p ts)
              (λ i inside. collecting_within (width_of op.result) ts whole same grid x p i op.kind is);
        }))

    first : (o : Option (List ℕ)) → shape_collected grid op p ts ≡ o → IfSome o IsFew → option_and_then (result_at op grid ts p) o ≡ Some t
        → IsOfValueType op.result t
    first None is small f = absurd (none-some t f)
    first (Some s) is small f = second s is small (collecting op.kind grid) refl f

-- ---- the type of the operand

one_type : (kind : OpKind) (result : ValueType) → IsCollective kind → typing_of kind result ≡ first_type (typing_of kind result) ∷ []
unfolding typing_of
one_type (AllGather x) result is = refl
one_type (AllReduce x) result is = refl
one_type (ReduceScatter x) result is = refl
one_type (AllToAll x) result is = refl
one_type (Shift x) result is = refl
one_type (UpdateHalo x) result is = refl
one_type kind result is = absurd is

pub collective_kind : (kind : OpKind) → is_collective_class (class_of kind) ≡ true → IsCollective kind
collective_kind (AllGather x) h = tt
collective_kind (AllReduce x) h = tt
collective_kind (ReduceScatter x) h = tt
collective_kind (AllToAll x) h = tt
collective_kind (Shift x) h = tt
collective_kind (UpdateHalo x) h = tt
collective_kind (Constant x) h = absurd (never h)
collective_kind (Binary x) h = absurd (never h)
collective_kind (Compare x) h = absurd (never h)
collective_kind (Select x) h = absurd (never h)
collective_kind (Cast x) h = absurd (never h)
collective_kind Empty h = absurd (never h)
collective_kind (ExtractSlice x) h = absurd (never h)
collective_kind (InsertSlice x) h = absurd (never h)
collective_kind (CollapseShape x) h = absurd (never h)
collective_kind (ExpandShape x) h = absurd (never h)
collective_kind (Fill x) h = absurd (never h)
collective_kind (Matmul x) h = absurd (never h)
collective_kind (BatchMatmul x) h = absurd (never h)
collective_kind (Matvec x) h = absurd (never h)
collective_kind (Vecmat x) h = absurd (never h)
collective_kind (Dot x) h = absurd (never h)
collective_kind (Conv1d x) h = absurd (never h)
collective_kind (Conv2d x) h = absurd (never h)
collective_kind (Transpose x) h = absurd (never h)
collective_kind (Broadcast x) h = absurd (never h)
collective_kind (Reduce x) h = absurd (never h)
collective_kind (Generic x) h = absurd (never h)
collective_kind (Sharding x) h = absurd (never h)
collective_kind (Shard x) h = absurd (never h)
collective_kind (AllSlice x) h = absurd (never h)
collective_kind (Take x) h = absurd (never h)
collective_kind (Pad x) h = absurd (never h)
collective_kind (Join x) h = absurd (never h)
collective_kind (Call x) h = absurd (never h)
collective_kind (Return x) h = absurd (never h)

-- the result has its width
agreed_bits : (t u : ValueType) → types_agree t u ≡ true → same_bits t u ≡ true
unfolding types_agree
agreed_bits t u h = both_left _ _ (both_right _ _ h)

collective_bits : (scope : Scope) (kind : OpKind) (result : ValueType) → IsCollective kind → result_fits scope kind result ≡ true
    → same_bits (first_type (typing_of kind result)) result ≡ true
unfolding result_fits typing_of
collective_bits scope (AllGather x) result is h = both_left _ _ (both_left _ _ h)
collective_bits scope (AllReduce x) result is h = agreed_bits x.operand_type result h
collective_bits scope (ReduceScatter x) result is h = both_left _ _ (both_left _ _ h)
collective_bits scope (AllToAll x) result is h = both_left _ _ (both_left _ _ h)
collective_bits scope (Shift x) result is h = agreed_bits x.operand_type result h
collective_bits scope (UpdateHalo x) result is h = grind (arith, nat_tests)
collective_bits scope kind result is h = absurd is

-- and it has the dimensions along which the collective works
collective_dims : (scope : Scope) (kind : OpKind) (result : ValueType) → IsCollective kind → numbers_fit scope kind result ≡ true
    → AllByRecursion (λ a. has_dim (first_type (typing_of kind result)) a ≡ true) (dims_worked kind)
unfolding numbers_fit along_fits typing_of
collective_dims scope (AllGather x) result is h = (both_right _ _ h, tt)
collective_dims scope (AllReduce x) result is h = tt
collective_dims scope (ReduceScatter x) result is h = (both_right _ _ h, tt)
collective_dims scope (AllToAll x) result is h = (both_right _ _ (both_left _ _ h), (both_right _ _ h, tt))
collective_dims scope (Shift x) result is h = tt
collective_dims scope (UpdateHalo x) result is h = tt
collective_dims scope kind result is h = absurd is

-- ---- the rank of a tensor of a type

extents_long : (dims : List Dim) (shape : List ℕ) → have_extents dims shape ≡ true → length shape ≡ length dims
extents_long [] [] h = refl
extents_long [] (n ∷ shape) h = absurd (cc)
extents_long (d ∷ dims) [] h = absurd (cc)
extents_long (Known m ∷ dims) (n ∷ shape) h = ap suc (extents_long dims shape (both_right _ (have_extents dims shape) h))
extents_long (Differs ∷ dims) (n ∷ shape) h = ap suc (extents_long dims shape h)

typed_rank : (type : ValueType) (t : TensorValue) → IsOfValueType type t → length t.shape ≡ rank_of type
typed_rank (value_type.Tensor type) t h = extents_long type.dims t.shape h.extents
typed_rank (value_type.Scalar w) t h = ap length h.shape
typed_rank value_type.Nothing t h = absurd h
typed_rank value_type.Sharding t h = absurd h
typed_rank value_type.Index t h = absurd h

-- ---- the operands of a group

module _ (type : ValueType) where
  group_whole : (ts : List TensorValue) → AllByRecursion (IsOfValueType type) ts → AllByRecursion IsTensor ts
  group_whole [] h = tt
  group_whole (t ∷ ts) h = (typed_whole type t h.0, group_whole ts h.1)

  group_width : (w : Width) (ts : List TensorValue) → width_of type ≡ w → AllByRecursion (IsOfValueType type) ts
      → AllByRecursion (λ (t : TensorValue). t.width ≡ w) ts
  group_width w [] same h = tt
  group_width w (t ∷ ts) same h = (typed_width type t h.0 ∙ same, group_width w ts same h.1)

  group_rank : (a : ℕ) (ts : List TensorValue) → has_dim type a ≡ true → AllByRecursion (IsOfValueType type) ts
      → AllByRecursion (λ s. a < length s) (map (λ t. t.shape) ts)
  group_rank a [] has h = tt
  group_rank a (t ∷ ts) has h =
      let long = typed_rank type t h.0 in
      let test : nat_lt a (rank_of type) ≡ true = has in
      let below : a < rank_of type = grind (arith, nat_tests) in
      let here : a < length t.shape = omega (arith, long, below) in
      (here, group_rank a ts has h.1)

  group_dims : (axes : List ℕ) (ts : List TensorValue) → AllByRecursion (λ a. has_dim type a ≡ true) axes → AllByRecursion (IsOfValueType type) ts
      → AllByRecursion (λ a. All (λ s. a < length s) (map (λ t. t.shape) ts)) axes
  group_dims [] ts has h = tt
  group_dims (a ∷ axes) ts has h =
      (all_by (λ s. a < length s) (map (λ t. t.shape) ts) (group_rank a ts has.0 h), group_dims axes ts has.1 h)

first_named : (values : Values) (type : ValueType) (types : List ValueType) (names : List ℕ) → AreNamed values (type ∷ types) names
    → IsSomeAnd (option_and_then values (slice_get names 0)) (IsOfValueType type)
first_named values type types [] h = absurd h
first_named values type types (n ∷ names) h = h.0

module _ (scope : Scope) (op : Op) (v : IsInstructionOf scope op) (is : IsCollective op.kind) where
  -- a device with values of the scope's types gives one of the operand's type
  pub operand_typed : (values : Values) → HaveTypes scope.values values → IsSomeAnd (operand_of op values) (IsOfValueType (operand_type op))
  operand_typed values have =
      first_named values (operand_type op) (captured_types scope.values op.kind) op.operands
      (subst (λ types. AreNamed values (types ++ captured_types scope.values op.kind) op.operands) (one_type op.kind op.result is)
      (operands_named scope op values v.verified v.gives have))

  operand_width : width_of (operand_type op) ≡ width_of op.result
  operand_width =
      let values = subst (λ types. list_all has_value types ≡ true) (one_type op.kind op.result is)
      (typing_values op.kind op.result v.gives v.verified.spelled) in
      width_by_bits (operand_type op) op.result (both_left (has_value (operand_type op)) true values)
      (spelled_value op.result (sound_result scope op v.verified v.gives).spelled)
      (collective_bits scope op.kind op.result is (sound scope op v.verified).results)

  pub are_group_operands : (ts : List TensorValue) → AllByRecursion (IsOfValueType (operand_type op)) ts → AreGroupOperands op ts
  are_group_operands ts h = record {
    dims = all_by (λ a. All (λ s. a < length s) (map (λ t. t.shape) ts)) (dims_worked op.kind)
        (group_dims (operand_type op) (dims_worked op.kind) ts (collective_dims scope op.kind op.result is (sound scope op v.verified).numbers) h);
    widths = all_by (λ (t : TensorValue). t.width ≡ width_of op.result) ts
        (group_width (operand_type op) (width_of op.result) ts operand_width h);
  }

  -- what is given of a group has few cells, and so is of the type of the value
  pub group_typed : (grid : List ℕ) (ts : List TensorValue) (place : ℕ) (t : TensorValue) → AllByRecursion (IsOfValueType (operand_type op)) ts
      → IfSome (shape_collected grid op place ts) IsFew → collected op grid ts place ≡ Some t → IsOfValueType op.result t
  group_typed grid ts place t h few e =
      collected_typed op grid ts place t (sound_result scope op v.verified v.gives).spelled
      (group_whole (operand_type op) ts h) (group_width (operand_type op) (width_of op.result) ts operand_width h) few e
