-- What the rules say of the types that an operation of a verified function writes.
use Rattle.std.proofs.Common.{◌≡◌, ℕ, ◌+◌, Bool, true, false, List, [], ◌∷◌, ◌++◌, length, Option, Some, None, refl, ap, sym, ◌∙◌, arith, subst, inl, inr}
use Rattle.std.proofs.lemmas.List.{length-append}
use Rattle.std.specs.List.{list_all, list_any}
use Rattle.std.specs.Option.{option_map_or}
use Rattle.std.specs.Prelude.{◌&&◌, ◌⊎◌, nat_eq, nat_lt, not}
use Rattle.sh_ir.specs.declared.linalg_ops.Broadcast as declared_broadcast
use Rattle.sh_ir.specs.declared.linalg_ops.Generic as declared_generic
use Rattle.sh_ir.specs.declared.linalg_ops.InsOuts.{InsOuts}
use Rattle.sh_ir.specs.declared.linalg_ops.Reduce as declared_reduce
use Rattle.sh_ir.specs.declared.linalg_ops.Transpose as declared_transpose
use Rattle.sh_ir.specs.declared.operations.Op.{Op}
use Rattle.sh_ir.specs.declared.operations.OpKind.{OpKind}
use Rattle.sh_ir.specs.declared.operations.OpKind.TheVariants.{Constant, Binary, Compare, Select, Cast, Empty, ExtractSlice, InsertSlice, CollapseShape, ExpandShape, Fill, Matmul, BatchMatmul, Matvec, Vecmat, Dot, Conv1d, Conv2d, Transpose, Broadcast, Reduce, Generic, Sharding, Shard, AllGather, AllSlice, AllReduce, ReduceScatter, AllToAll, Shift, UpdateHalo, Take, Pad, Join, Call, Return}
use Rattle.sh_ir.specs.declared.types.ValueType.{ValueType}
use Rattle.sh_ir.specs.declared.types.ValueType.TheVariants as value_type
use Rattle.sh_ir.specs.Agreement.{has_differing}
use Rattle.sh_ir.specs.Classes.{class_of}
use Rattle.sh_ir.specs.Formed.{ResultFits, captured_in, is_spelled_type, types_in}
use Rattle.sh_ir.specs.Limits.{has_few_cells, has_few_dims}
use Rattle.sh_ir.specs.Rules.{is_in_form, is_of_source, op_types_of}
use Rattle.sh_ir.specs.Scope.{Scope}
use Rattle.sh_ir.specs.Typing.{counts_fit, names, names_typed, operand_types, typing_of}
use Rattle.sh_ir.specs.Written.{first_type, test_type, written_by}
use Rattle.sh_loops.proofs.InsideLaws.{both_left, both_right}
use Rattle.sh_collectives.proofs.RuleLaws.{all_back, all_front, is_not, neither_left, neither_right, sound}
use Rattle.sh_eval.specs.Sources.{has_value}
use Rattle.sh_collectives.specs.VerifiedOps.{IsOfVerifiedOp}
use Rattle.sh_eval.specs.VerifiedOps.{GivesTensor}
use Rattle.sh_eval.proofs.TypeLaws.{equal_numbers}

-- ---- in source form

none_differs : (ts : List ValueType) → list_any has_differing ts ≡ false → list_all (λ t. not (has_differing t)) ts ≡ true
none_differs [] h = refl
none_differs (t ∷ ts) h =
    let here = neither_left (has_differing t) (list_any has_differing ts) h in
    let rest = none_differs ts (neither_right (has_differing t) (list_any has_differing ts) h) in
    rw (here, rest) refl

in_source : (a b : Bool) (F : List ℕ → Bool) (device : Option (List ℕ)) → device ≡ None → (a && option_map_or F device b) ≡ true → b ≡ true
in_source a b F None e h = both_right a b h
in_source a b F (Some g) e h = absurd (cc)

pub record IsSourceOp (op : Op) : Type 0 where
  pub source : is_of_source (class_of op.kind) ≡ true
  pub known : list_all (λ t. not (has_differing t)) (op_types_of op) ≡ true

-- no operation of devices, and no extent that differs
pub source_op : (scope : Scope) (op : Op) → scope.device ≡ None → IsOfVerifiedOp scope op → IsSourceOp op
unfolding is_in_form
source_op scope op none v =
    let form = in_source _ _ _ scope.device none (sound scope op v).form in
    record {
      source = both_left _ _ form;
      known = none_differs (op_types_of op) (is_not _ (both_right _ _ form));
    }

-- ---- as many types as operands are written

arity_typed : (x : InsOuts) → names_typed x ≡ true → Some (x.ins_count + x.outs_count) ≡ Some (length (operand_types x))
arity_typed x h =
    let ins : length x.ins_types ≡ x.ins_count = equal_numbers (length x.ins_types) x.ins_count
    (both_left (nat_eq (length x.ins_types) x.ins_count) (nat_eq (length x.outs_types) x.outs_count) h) in
    let outs : length x.outs_types ≡ x.outs_count = equal_numbers (length x.outs_types) x.outs_count
    (both_right (nat_eq (length x.ins_types) x.ins_count) (nat_eq (length x.outs_types) x.outs_count) h) in
    let all : length (operand_types x) ≡ length x.ins_types + length x.outs_types = length-append x.ins_types x.outs_types in
    let same : x.ins_count + x.outs_count ≡ length (operand_types x) = omega (arith, ins, outs, all) in
    ap (λ n. Some n) same

arity_named : (inputs : ℕ) (x : InsOuts) → names inputs x ≡ true → Some (x.ins_count + x.outs_count) ≡ Some (length (operand_types x))
arity_named inputs x h = arity_typed x (both_right (nat_eq x.ins_count inputs && nat_eq x.outs_count 1) (names_typed x) h)

-- a form that leaves a choice, and has no region
pub record TakesAll (kind : OpKind) (operands : List ℕ) (n : ℕ) : Type 0 where
  pub free : (written_by kind).operands ≡ None
  pub long : length operands ≡ n
  pub alone : captured_in (written_by kind) ≡ []

-- there are as many operands as types for them: the form has so many, or it takes all
abbrev pub HasArity : OpKind → List ℕ → ℕ → Type 0
HasArity kind operands n = ((written_by kind).operands ≡ Some n) ⊎ TakesAll kind operands n

pub arity : (kind : OpKind) (operands : List ℕ) (result : ValueType) → GivesTensor (class_of kind) → counts_fit kind operands ≡ true
    → HasArity kind operands (length (typing_of kind result))
unfolding counts_fit typing_of
arity (Constant x) operands result has h = inl refl
arity (Binary x) operands result has h = inl refl
arity (Compare x) operands result has h = inl refl
arity (Select x) operands result has h = inl refl
arity (Cast x) operands result has h = inl refl
arity Empty operands result has h = inl refl
arity (ExtractSlice x) operands result has h = inl refl
arity (InsertSlice x) operands result has h = inl refl
arity (CollapseShape x) operands result has h = inl refl
arity (ExpandShape x) operands result has h = inl refl
arity (Fill x) operands result has h = inl (arity_named 1 x h)
arity (Matmul x) operands result has h = inl (arity_named 2 x h)
arity (BatchMatmul x) operands result has h = inl (arity_named 2 x h)
arity (Matvec x) operands result has h = inl (arity_named 2 x h)
arity (Vecmat x) operands result has h = inl (arity_named 2 x h)
arity (Dot x) operands result has h = inl (arity_named 2 x h)
arity (Conv1d x) operands result has h = inl (arity_named 2 x h)
arity (Conv2d x) operands result has h = inl (arity_named 2 x h)
arity (Transpose x) operands result has h = inl (arity_named 1 x.ins_outs h)
arity (Broadcast x) operands result has h = inl (arity_named 1 x.ins_outs h)
arity (Reduce x) operands result has h = inl (arity_named 1 x.ins_outs h)
arity (Generic x) operands result has h = inl (arity_typed x.ins_outs h)
arity (Sharding x) operands result has h = absurd has
arity (Shard x) operands result has h = absurd has
arity (AllGather x) operands result has h = inl refl
arity (AllSlice x) operands result has h = inl refl
arity (AllReduce x) operands result has h = inl refl
arity (ReduceScatter x) operands result has h = inl refl
arity (AllToAll x) operands result has h = inl refl
arity (Shift x) operands result has h = inl refl
arity (UpdateHalo x) operands result has h = inl refl
arity (Take x) operands result has h = inl refl
arity (Pad x) operands result has h = inl refl
arity (Join x) operands result has h =
    inr (record {
      free = refl;
      long = equal_numbers (length operands) (length x.operand_types)
          (both_right (nat_lt 0 (length operands)) (nat_eq (length operands) (length x.operand_types)) h);
      alone = refl;
    })
arity (Call x) operands result has h = absurd has
arity (Return x) operands result has h = absurd has

pub count_reduce : (x : declared_reduce.Reduce) (operands : List ℕ) (result : ValueType) → counts_fit (Reduce x) operands ≡ true
    → (written_by (Reduce x)).operands ≡ Some (length (typing_of (Reduce x) result))
unfolding counts_fit typing_of
count_reduce x operands result h = arity_named 1 x.ins_outs h

pub count_generic : (x : declared_generic.Generic) (operands : List ℕ) (result : ValueType) → counts_fit (Generic x) operands ≡ true
    → (written_by (Generic x)).operands ≡ Some (length (typing_of (Generic x) result))
unfolding counts_fit typing_of
count_generic x operands result h = arity_typed x.ins_outs h

-- ---- types that have values

pub spelled_value : (t : ValueType) → is_spelled_type t ≡ true → has_value t ≡ true
spelled_value (value_type.Scalar w) h = refl
spelled_value (value_type.Tensor t) h = refl
spelled_value value_type.Nothing h = absurd (cc)
spelled_value value_type.Sharding h = absurd (cc)
spelled_value value_type.Index h = absurd (cc)

pub spelled_values : (ts : List ValueType) → list_all is_spelled_type ts ≡ true → list_all has_value ts ≡ true
spelled_values [] h = refl
spelled_values (t ∷ ts) h =
    let here = spelled_value t (both_left (is_spelled_type t) (list_all is_spelled_type ts) h) in
    let rest = spelled_values ts (both_right (is_spelled_type t) (list_all is_spelled_type ts) h) in
    rw (here, rest) refl

-- ---- what is so of all written types is so of the operands' and of the result's

pub passes_first : (P : ValueType → Bool) (t : ValueType) (ts : List ValueType) → list_all P (t ∷ ts) ≡ true → P t ≡ true
passes_first P t ts h = both_left (P t) (list_all P ts) h

pub passes_second : (P : ValueType → Bool) (t u : ValueType) → list_all P (t ∷ u ∷ []) ≡ true → P u ≡ true
passes_second P t u h = passes_first P u [] (both_right (P t) (list_all P (u ∷ [])) h)

pub passes_last : (P : ValueType → Bool) (ts : List ValueType) (t : ValueType) → list_all P (ts ++ t ∷ []) ≡ true → P t ≡ true
passes_last P ts t h = passes_first P t [] (all_back P ts (t ∷ []) h)

-- of the types of the operands
pub typing_passes : (P : ValueType → Bool) (kind : OpKind) (result : ValueType) → GivesTensor (class_of kind)
    → list_all P (types_in (written_by kind) result) ≡ true → list_all P (typing_of kind result) ≡ true
unfolding typing_of
typing_passes P (Constant x) result has h = refl
typing_passes P (Binary x) result has h = let r = passes_first P result [] h in rw r refl
typing_passes P (Compare x) result has h = let r = passes_first P x.operand_type [] h in rw r refl
typing_passes P (Select x) result has h =
    let c = passes_first P x.condition_type (result ∷ []) h in let r = passes_second P x.condition_type result h in rw (c, r) refl
typing_passes P (Cast x) result has h = let r = passes_first P x.operand_type (result ∷ []) h in rw r refl
typing_passes P Empty result has h = refl
typing_passes P (ExtractSlice x) result has h = let r = passes_first P x.source_type (result ∷ []) h in rw r refl
typing_passes P (InsertSlice x) result has h =
    let c = passes_first P x.source_type (result ∷ []) h in let r = passes_second P x.source_type result h in rw (c, r) refl
typing_passes P (CollapseShape x) result has h = let r = passes_first P x.source_type (result ∷ []) h in rw r refl
typing_passes P (ExpandShape x) result has h = let r = passes_first P x.source_type (result ∷ []) h in rw r refl
typing_passes P (Fill x) result has h = all_front P (operand_types x) (result ∷ []) h
typing_passes P (Matmul x) result has h = all_front P (operand_types x) (result ∷ []) h
typing_passes P (BatchMatmul x) result has h = all_front P (operand_types x) (result ∷ []) h
typing_passes P (Matvec x) result has h = all_front P (operand_types x) (result ∷ []) h
typing_passes P (Vecmat x) result has h = all_front P (operand_types x) (result ∷ []) h
typing_passes P (Dot x) result has h = all_front P (operand_types x) (result ∷ []) h
typing_passes P (Conv1d x) result has h = all_front P (operand_types x) (result ∷ []) h
typing_passes P (Conv2d x) result has h = all_front P (operand_types x) (result ∷ []) h
typing_passes P (Transpose x) result has h = all_front P (operand_types x.ins_outs) [] h
typing_passes P (Broadcast x) result has h = all_front P (operand_types x.ins_outs) [] h
typing_passes P (Reduce x) result has h = all_front P (operand_types x.ins_outs) [] h
typing_passes P (Generic x) result has h = all_front P (operand_types x.ins_outs) (result ∷ []) h
typing_passes P (Sharding x) result has h = absurd has
typing_passes P (Shard x) result has h = absurd has
typing_passes P (AllGather x) result has h = let r = passes_first P x.operand_type (result ∷ []) h in rw r refl
typing_passes P (AllSlice x) result has h = let r = passes_first P x.operand_type (result ∷ []) h in rw r refl
typing_passes P (AllReduce x) result has h = let r = passes_first P x.operand_type (result ∷ []) h in rw r refl
typing_passes P (ReduceScatter x) result has h = let r = passes_first P x.operand_type (result ∷ []) h in rw r refl
typing_passes P (AllToAll x) result has h = let r = passes_first P x.operand_type (result ∷ []) h in rw r refl
typing_passes P (Shift x) result has h = let r = passes_first P x.operand_type (result ∷ []) h in rw r refl
typing_passes P (UpdateHalo x) result has h = let r = passes_first P result [] h in rw r refl
typing_passes P (Take x) result has h = let r = passes_first P x.operand_type (result ∷ []) h in rw r refl
typing_passes P (Pad x) result has h = let r = passes_first P x.operand_type (result ∷ []) h in rw r refl
typing_passes P (Join x) result has h = all_front P x.operand_types (result ∷ []) h
typing_passes P (Call x) result has h = absurd has
typing_passes P (Return x) result has h = absurd has

-- so values of these types have tensors
pub typing_values : (kind : OpKind) (result : ValueType) → GivesTensor (class_of kind)
    → list_all is_spelled_type (types_in (written_by kind) result) ≡ true → list_all has_value (typing_of kind result) ≡ true
typing_values kind result has h = spelled_values (typing_of kind result) (typing_passes is_spelled_type kind result has h)

-- so many inputs, and one output
pub record OneOutput (inputs : ℕ) (x : InsOuts) : Type 0 where
  pub out : ValueType
  pub ins : length x.ins_types ≡ inputs
  pub outs : x.outs_types ≡ out ∷ []

one_of : (ts : List ValueType) → length ts ≡ 1 → ts ≡ first_type ts ∷ []
one_of [] h = absurd (omega (arith, h))
one_of (t ∷ []) h = refl
one_of (t ∷ u ∷ ts) h = absurd (omega (arith, h))

-- by the number of operands that the kind takes
pub one_output : (inputs : ℕ) (x : InsOuts) → names inputs x ≡ true → OneOutput inputs x
one_output inputs x h =
    let counts = both_left (nat_eq x.ins_count inputs && nat_eq x.outs_count 1) (names_typed x) h in
    let typed = both_right (nat_eq x.ins_count inputs && nat_eq x.outs_count 1) (names_typed x) h in
    let ins : x.ins_count ≡ inputs = equal_numbers x.ins_count inputs
    (both_left (nat_eq x.ins_count inputs) (nat_eq x.outs_count 1) counts) in
    let outs : x.outs_count ≡ 1 = equal_numbers x.outs_count 1 (both_right (nat_eq x.ins_count inputs) (nat_eq x.outs_count 1) counts) in
    let its : length x.ins_types ≡ x.ins_count = equal_numbers (length x.ins_types) x.ins_count
    (both_left (nat_eq (length x.ins_types) x.ins_count) (nat_eq (length x.outs_types) x.outs_count) typed) in
    let one : length x.outs_types ≡ x.outs_count = equal_numbers (length x.outs_types) x.outs_count
    (both_right (nat_eq (length x.ins_types) x.ins_count) (nat_eq (length x.outs_types) x.outs_count) typed) in
    record { out = first_type x.outs_types; ins = its ∙ ins; outs = one_of x.outs_types (one ∙ outs) }

passes_output : (P : ValueType → Bool) (x : InsOuts) → OneOutput 1 x → list_all P (operand_types x ++ []) ≡ true
    → P (first_type x.outs_types) ≡ true
passes_output P x one h =
    let here = all_back P x.ins_types x.outs_types (all_front P (operand_types x) [] h) in
    subst (λ ts. P (first_type ts) ≡ true) (sym one.outs) (passes_first P one.out [] (subst (λ ts. list_all P ts ≡ true) one.outs here))

pub counts_transpose : (x : declared_transpose.Transpose) (operands : List ℕ) → counts_fit (Transpose x) operands ≡ true
    → names 1 x.ins_outs ≡ true
unfolding counts_fit
counts_transpose x operands h = h

pub counts_broadcast : (x : declared_broadcast.Broadcast) (operands : List ℕ) → counts_fit (Broadcast x) operands ≡ true
    → names 1 x.ins_outs ≡ true
unfolding counts_fit
counts_broadcast x operands h = h

pub counts_reduce : (x : declared_reduce.Reduce) (operands : List ℕ) → counts_fit (Reduce x) operands ≡ true → names 1 x.ins_outs ≡ true
unfolding counts_fit
counts_reduce x operands h = h

module _ (P : ValueType → Bool) (test : (t : ValueType) → P t ≡ true → P (test_type t) ≡ true) where
  pub result_passes : (kind : OpKind) (operands : List ℕ) (result : ValueType) → GivesTensor (class_of kind) → counts_fit kind operands ≡ true
      → ResultFits (written_by kind).result result
      → list_all P (types_in (written_by kind) result) ≡ true → P result ≡ true
  result_passes (Constant x) operands result has counts fits h = subst (λ t. P t ≡ true) (sym fits) (passes_first P x.value_type [] h)
  result_passes (Binary x) operands result has counts fits h = passes_first P result [] h
  result_passes (Compare x) operands result has counts fits h =
      subst (λ t. P t ≡ true) (sym fits) (test x.operand_type (passes_first P x.operand_type [] h))
  result_passes (Select x) operands result has counts fits h = passes_second P x.condition_type result h
  result_passes (Cast x) operands result has counts fits h = passes_second P x.operand_type result h
  result_passes Empty operands result has counts fits h = passes_first P result [] h
  result_passes (ExtractSlice x) operands result has counts fits h = passes_second P x.source_type result h
  result_passes (InsertSlice x) operands result has counts fits h = passes_second P x.source_type result h
  result_passes (CollapseShape x) operands result has counts fits h = passes_second P x.source_type result h
  result_passes (ExpandShape x) operands result has counts fits h = passes_second P x.source_type result h
  result_passes (Fill x) operands result has counts fits h = passes_last P (operand_types x) result h
  result_passes (Matmul x) operands result has counts fits h = passes_last P (operand_types x) result h
  result_passes (BatchMatmul x) operands result has counts fits h = passes_last P (operand_types x) result h
  result_passes (Matvec x) operands result has counts fits h = passes_last P (operand_types x) result h
  result_passes (Vecmat x) operands result has counts fits h = passes_last P (operand_types x) result h
  result_passes (Dot x) operands result has counts fits h = passes_last P (operand_types x) result h
  result_passes (Conv1d x) operands result has counts fits h = passes_last P (operand_types x) result h
  result_passes (Conv2d x) operands result has counts fits h = passes_last P (operand_types x) result h
  result_passes (Transpose x) operands result has counts fits h =
      subst (λ t. P t ≡ true) (sym fits) (passes_output P x.ins_outs (one_output 1 x.ins_outs (counts_transpose x operands counts)) h)
  result_passes (Broadcast x) operands result has counts fits h =
      subst (λ t. P t ≡ true) (sym fits) (passes_output P x.ins_outs (one_output 1 x.ins_outs (counts_broadcast x operands counts)) h)
  result_passes (Reduce x) operands result has counts fits h =
      subst (λ t. P t ≡ true) (sym fits) (passes_output P x.ins_outs (one_output 1 x.ins_outs (counts_reduce x operands counts)) h)
  result_passes (Generic x) operands result has counts fits h = passes_last P (operand_types x.ins_outs) result h
  result_passes (Sharding x) operands result has counts fits h = absurd has
  result_passes (Shard x) operands result has counts fits h = absurd has
  result_passes (AllGather x) operands result has counts fits h = passes_second P x.operand_type result h
  result_passes (AllSlice x) operands result has counts fits h = passes_second P x.operand_type result h
  result_passes (AllReduce x) operands result has counts fits h = passes_second P x.operand_type result h
  result_passes (ReduceScatter x) operands result has counts fits h = passes_second P x.operand_type result h
  result_passes (AllToAll x) operands result has counts fits h = passes_second P x.operand_type result h
  result_passes (Shift x) operands result has counts fits h = passes_second P x.operand_type result h
  result_passes (UpdateHalo x) operands result has counts fits h = passes_first P result [] h
  result_passes (Take x) operands result has counts fits h = passes_second P x.operand_type result h
  result_passes (Pad x) operands result has counts fits h = passes_second P x.operand_type result h
  result_passes (Join x) operands result has counts fits h = passes_last P x.operand_types result h
  result_passes (Call x) operands result has counts fits h = absurd has
  result_passes (Return x) operands result has counts fits h = absurd has

-- ---- the type of the result

test_value : (t : ValueType) → is_spelled_type t ≡ true → is_spelled_type (test_type t) ≡ true
test_value (value_type.Scalar w) h = refl
test_value (value_type.Tensor t) h = h
test_value value_type.Nothing h = absurd (cc)
test_value value_type.Sharding h = absurd (cc)
test_value value_type.Index h = absurd (cc)

test_known : (t : ValueType) → not (has_differing t) ≡ true → not (has_differing (test_type t)) ≡ true
test_known (value_type.Scalar w) h = refl
test_known (value_type.Tensor t) h = h
test_known value_type.Nothing h = refl
test_known value_type.Sharding h = refl
test_known value_type.Index h = refl

test_short : (t : ValueType) → has_few_dims t ≡ true → has_few_dims (test_type t) ≡ true
unfolding has_few_dims
test_short (value_type.Scalar w) h = refl
test_short (value_type.Tensor t) h = h
test_short value_type.Nothing h = refl
test_short value_type.Sharding h = refl
test_short value_type.Index h = refl

test_small : (t : ValueType) → has_few_cells t ≡ true → has_few_cells (test_type t) ≡ true
unfolding has_few_cells
test_small (value_type.Scalar w) h = refl
test_small (value_type.Tensor t) h = h
test_small value_type.Nothing h = refl
test_small value_type.Sharding h = refl
test_small value_type.Index h = refl

pub record IsSoundResult (result : ValueType) : Type 0 where
  pub spelled : is_spelled_type result ≡ true
  pub short : has_few_dims result ≡ true
  pub small : has_few_cells result ≡ true

-- the type of the result is spelled, short and small
pub sound_result : (scope : Scope) (op : Op) → IsOfVerifiedOp scope op → GivesTensor (class_of op.kind) → IsSoundResult op.result
sound_result scope op v has =
    let s = sound scope op v in
    record {
      spelled = result_passes is_spelled_type test_value op.kind op.operands op.result has s.counts v.result v.spelled;
      short = result_passes has_few_dims test_short op.kind op.operands op.result has s.counts v.result s.dims;
      small = result_passes has_few_cells test_small op.kind op.operands op.result has s.counts v.result s.cells;
    }

-- and in source form it is known
pub known_result : (scope : Scope) (op : Op) → scope.device ≡ None → IsOfVerifiedOp scope op → GivesTensor (class_of op.kind)
    → has_differing op.result ≡ false
known_result scope op none v has =
    is_not (has_differing op.result) (result_passes
    (λ t. not (has_differing t)) test_known op.kind op.operands op.result has (sound scope op v).counts v.result (source_op scope op none v).known)
