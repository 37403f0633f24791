-- Values stay of their types from operation to operation.
use Rattle.std.proofs.Common.{◌≡◌, ℕ, ◌+◌, Bool, true, false, List, [], ◌∷◌, ◌++◌, map, length, take, Option, Some, None, refl, ap, sym, ◌∙◌, arith, subst, append_assoc}
use Rattle.std.proofs.lemmas.Bool.Decides.{nat_tests}
use Rattle.std.proofs.lemmas.List.{length-append}
use Rattle.std.proofs.lemmas.Option.{none-some, same_Some}
use Rattle.std.specs.List.{list_all}
use Rattle.std.specs.Option.{option_map_or}
use Rattle.std.specs.Prelude.{IsSomeAnd, cond, if◌then◌else◌, is_some, nat_eq, option_and_then, slice_get}
use Rattle.sh_base.specs.declared.places.Place.{Place}
use Rattle.sh_ir.specs.declared.calls.Call as declared_call
use Rattle.sh_ir.specs.declared.functions.Arg.{Arg}
use Rattle.sh_ir.specs.declared.functions.Func.{Func}
use Rattle.sh_ir.specs.declared.modules.Module.{Module}
use Rattle.sh_ir.specs.declared.operations.Op.{Op}
use Rattle.sh_ir.specs.declared.operations.OpKind.{OpKind}
use Rattle.sh_ir.specs.declared.operations.OpKind.TheVariants.{Constant, Binary, Compare, Select, Cast, Empty, ExtractSlice, InsertSlice, CollapseShape, ExpandShape, Fill, Matmul, BatchMatmul, Matvec, Vecmat, Dot, Conv1d, Conv2d, Transpose, Broadcast, Reduce, Generic, Sharding, Shard, AllGather, AllSlice, AllReduce, ReduceScatter, AllToAll, Shift, UpdateHalo, Take, Pad, Join, Call, Return}
use Rattle.sh_ir.specs.declared.operations.Return as declared_return
use Rattle.sh_ir.specs.declared.shard_ops.Shard as declared_shard
use Rattle.sh_ir.specs.declared.types.RawSharding as declared_sharding
use Rattle.sh_ir.specs.declared.types.Dim.TheVariants.{Known}
use Rattle.sh_ir.specs.declared.types.ValueType.{ValueType}
use Rattle.sh_ir.specs.declared.types.ValueType.TheVariants as value_type
use Rattle.sh_ir.specs.Classes.{class_of}
use Rattle.sh_ir.specs.Formed.{ResultFits, is_spelled_type}
use Rattle.sh_ir.specs.Limits.{has_few_cells}
use Rattle.sh_ir.specs.Scope.{Scope, Value, is_defined, plain_value, scope_after, scope_of, value_named, value_of, values_after, with_args}
use Rattle.sh_ir.specs.Typing.{are_of_types, is_of_type, typing_of}
use Rattle.sh_ir.specs.Written.{written_by}
use Rattle.sh_loops.proofs.InsideLaws.{both_left, both_right}
use Rattle.sh_pieces.specs.Instructions.{value_under}
use Rattle.sh_pieces.specs.Runs.{argument_under}
use Rattle.sh_pieces.proofs.Names.{value_push}
use Rattle.sh_sem.specs.Given.{alone, given, giving, have_all_extents}
use Rattle.sh_sem.specs.Meaning.{Values, after_class, noted_in, value_in, with_own, with_value}
use Rattle.sh_sem.specs.Types.{AreOfTypes, IsOfType, have_extents}
use Rattle.sh_tensor.specs.Tensor.{TensorValue}
use Rattle.sh_turns.specs.Program.{all_there, there}
use Rattle.sh_eval.specs.Sources.{AreOfValueTypes, HaveTypes, IsOfValueType, has_value}
use Rattle.sh_collectives.specs.VerifiedOps.{IsOfVerifiedOp}
use Rattle.sh_eval.specs.VerifiedOps.{GivesTensor}
use Rattle.sh_eval.specs.Evaluations.{kind_value}
use Rattle.sh_eval.specs.Values.{shapes_of}
use Rattle.sh_eval.proofs.EvaluationLaws.{default_value, given_apart}
use Rattle.sh_eval.proofs.Evaluable.{few_by_type, op_by}
use Rattle.sh_eval.proofs.OperandLaws.{all_types, operands_there}
use Rattle.sh_eval.proofs.ResultTypes.{result_typed_alone}
use Rattle.sh_collectives.proofs.InstructionLaws.{names_of}
use Rattle.sh_collectives.proofs.RuleLaws.{never, sound}
use Rattle.sh_eval.proofs.RuleFacts.{source_op, spelled_value}
use Rattle.sh_eval.proofs.TypeLaws.{named_as}

-- ---- one value more

module _ (scope : List Value) (values : Values) (have : HaveTypes scope values) where
  -- with a tensor of its type
  pub own_after : (op : Op) (defines : Option ℕ) (t : TensorValue) → IsOfValueType op.result t
      → HaveTypes (option_map_or (λ name. value_of op name ∷ scope) defines scope) (with_value defines t values)
  own_after op None t is name v e value = have name v e value
  own_after op (Some n) t is name v e value = go (nat_eq n name) e
    where
      go : (b : Bool) → (if b then Some (value_of op n) else value_named scope name) ≡ Some v
          → IsSomeAnd (if b then Some t else values name) (IsOfValueType v.value_type)
      go true f = subst (λ (w : Value). IsOfValueType w.value_type t) (same_Some (value_of op n) v f) is
      go false f = have name v f value

  -- without, where its type has none
  none_after : (op : Op) (defines : Option ℕ) → has_value op.result ≡ false
      → HaveTypes (option_map_or (λ name. value_of op name ∷ scope) defines scope) values
  none_after op None lacks name v e value = have name v e value
  none_after op (Some n) lacks name v e value = go (nat_eq n name) e
    where
      go : (b : Bool) → (if b then Some (value_of op n) else value_named scope name) ≡ Some v
          → IsSomeAnd (values name) (IsOfValueType v.value_type)
      go true f =
          let same : has_value op.result ≡ true = subst (λ (w : Value). has_value w.value_type ≡ true)
          (sym (same_Some (value_of op n) v f)) value in
          let never : false ≡ true = sym lacks ∙ same in
          absurd (cc)
      go false f = have name v f value

record HasOwn (op : Op) (values after : Values) (own : Option TensorValue) : Type 0 where
  t : TensorValue
  is : own ≡ Some t
  after_is : with_value op.defines t values ≡ after

-- an operation that is done has a value
has_own : (op : Op) (values after : Values) (own : Option TensorValue) → with_own op values own ≡ Some after → HasOwn op values after own
has_own op values after None h = absurd (none-some after h)
has_own op values after (Some t) h = record { t = t; is = refl; after_is = same_Some (with_value op.defines t values) after h }

-- ---- operations that give a tensor

record IsGiven (op : Op) (values : Values) (t : TensorValue) : Type 0 where
  ts : List TensorValue
  there_is : all_there (map values op.operands) ≡ Some ts
  given_is : given op alone ts ≡ Some t

is_given : (op : Op) (values : Values) (t : TensorValue) → value_in op values ≡ Some t → IsGiven op values t
is_given op values t h = go (all_there (map values op.operands)) refl h
  where
    go : (o : Option (List TensorValue)) → all_there (map values op.operands) ≡ o → option_and_then (given op alone) o ≡ Some t
        → IsGiven op values t
    go None e f = absurd (none-some t f)
    go (Some ts) e f = record { ts = ts; there_is = e; given_is = f }

tensor_after : (scope : Scope) (op : Op) (values after : Values) → scope.device ≡ None → IsOfVerifiedOp scope op → GivesTensor (class_of op.kind)
    → HaveTypes scope.values values → with_own op values (value_in op values) ≡ Some after
    → HaveTypes (scope_after scope op).values after
tensor_after scope op values after none v has have h =
    let own = has_own op values after (value_in op values) h in
    let g = is_given op values own.t own.is in
    let found = operands_there scope op values v has have in
    let same : found.ts ≡ g.ts = same_Some found.ts g.ts (sym found.there ∙ g.there_is) in
    let typed = result_typed_alone scope op g.ts none v has (subst (AreOfValueTypes (all_types scope op)) same found.typed) own.t g.given_is in
    subst (HaveTypes (scope_after scope op).values) own.after_is (own_after scope.values values have op op.defines own.t typed)

-- ---- the others

sharding_after : (scope : List Value) (x : declared_sharding.RawSharding) (defines : Option ℕ) (result : ValueType) (place : Place)
    (operands : List ℕ) (values after : Values)
    → ResultFits (written_by (Sharding x)).result result → HaveTypes scope values → Some values ≡ Some after
    → HaveTypes (values_after scope (op_by (Sharding x) operands defines result place)) after
sharding_after scope x defines result place operands values after fits have h =
    subst (HaveTypes (values_after scope (op_by (Sharding x) operands defines result place))) (same_Some values after h)
    (none_after scope values have (op_by (Sharding x) operands defines result place) defines (ap has_value fits))

return_after : (scope : List Value) (x : declared_return.Return) (defines : Option ℕ) (result : ValueType) (place : Place)
    (operands : List ℕ) (values after : Values)
    → is_some defines ≡ false → HaveTypes scope values → Some values ≡ Some after
    → HaveTypes (values_after scope (op_by (Return x) operands defines result place)) after
return_after scope x None result place operands values after lacks have h = subst (HaveTypes scope) (same_Some values after h) have
return_after scope x (Some n) result place operands values after lacks have h = absurd (cc)

note_types : (x : declared_shard.Shard) (result : ValueType) → typing_of (Shard x) result ≡ result ∷ value_type.Sharding ∷ []
unfolding typing_of
note_types x result = refl

first_noted : (scope : List Value) (values : Values) (result : ValueType) (operands : List ℕ) (t : TensorValue) → HaveTypes scope values
    → has_value result ≡ true → list_all (is_defined scope) (take 2 operands) ≡ true
    → are_of_types scope (result ∷ value_type.Sharding ∷ []) (take 2 operands) ≡ true
    → option_and_then values (slice_get operands 0) ≡ Some t → IsOfValueType result t
first_noted scope values result [] t have value there types h = absurd (none-some t h)
first_noted scope values result (n ∷ operands) t have value there types h =
    let is = named_as scope values have result n (value_named scope n) refl value
    (both_left (is_defined scope n) (list_all (is_defined scope) (take 1 operands)) there)
    (both_left (is_of_type scope result n) (are_of_types scope (value_type.Sharding ∷ []) (take 1 operands)) types) in
    subst (λ o. IsSomeAnd o (IsOfValueType result)) h is

note_after : (scope : Scope) (x : declared_shard.Shard) (defines : Option ℕ) (result : ValueType) (place : Place) (operands : List ℕ)
    (values after : Values)
    → IsOfVerifiedOp scope (op_by (Shard x) operands defines result place) → HaveTypes scope.values values
    → with_own (op_by (Shard x) operands defines result place) values
    (noted_in (op_by (Shard x) operands defines result place) values) ≡ Some after
    → HaveTypes (values_after scope.values (op_by (Shard x) operands defines result place)) after
note_after scope x defines result place operands values after v have h =
    let op = op_by (Shard x) operands defines result place in
    let s = sound scope op v in
    let own = has_own op values after (noted_in op values) h in
    let value = spelled_value result (both_left (is_spelled_type result) true v.spelled) in
    let typed = first_noted scope.values values result operands own.t have value s.there
    (subst (λ types. are_of_types scope.values types (take 2 operands) ≡ true) (note_types x result) s.types) own.is in
    subst (HaveTypes (values_after scope.values op)) own.after_is (own_after scope.values values have op defines own.t typed)

-- a call gives nothing
pub call_gives : (x : declared_call.Call) (operands : List ℕ) (result : ValueType) → giving (Call x) operands result alone ≡ None
unfolding giving
call_gives x operands result = refl

-- what gives nothing by its kind gives nothing
pub none_given : (op : Op) (ts : List TensorValue) (t : TensorValue) → giving op.kind op.operands op.result alone ≡ None
    → given op alone ts ≡ Some t → ⊥
none_given op ts t none h =
    go (have_all_extents (typing_of op.kind op.result) (shapes_of ts)) (kind_value op alone ts) (default_value op alone ts none)
    (sym (given_apart op alone ts) ∙ h)
  where
    go : (b : Bool) (o : Option TensorValue) → None ≡ o → (if b then o else None) ≡ Some t → ⊥
    go true o e f = none-some t (e ∙ f)
    go false o e f = none-some t f

call_after : (x : declared_call.Call) (operands : List ℕ) (defines : Option ℕ) (result : ValueType) (place : Place) (values after : Values)
    → with_own (op_by (Call x) operands defines result place) values
    (value_in (op_by (Call x) operands defines result place) values) ≡ Some after → ⊥
call_after x operands defines result place values after h =
    let op = op_by (Call x) operands defines result place in
    let own = has_own op values after (value_in op values) h in
    let g = is_given op values own.t own.is in
    none_given op g.ts own.t (call_gives x operands result) g.given_is

kind_after : (scope : Scope) (kind : OpKind) (operands : List ℕ) (defines : Option ℕ) (result : ValueType) (place : Place)
    (values after : Values) → scope.device ≡ None → IsOfVerifiedOp scope (op_by kind operands defines result place)
    → HaveTypes scope.values values → after_class (class_of kind) (op_by kind operands defines result place) values ≡ Some after
    → HaveTypes (values_after scope.values (op_by kind operands defines result place)) after
kind_after scope (Constant x) operands defines result place values after none v have h =
    tensor_after scope (op_by (Constant x) operands defines result place) values after none v tt have h
kind_after scope (Binary x) operands defines result place values after none v have h =
    tensor_after scope (op_by (Binary x) operands defines result place) values after none v tt have h
kind_after scope (Compare x) operands defines result place values after none v have h =
    tensor_after scope (op_by (Compare x) operands defines result place) values after none v tt have h
kind_after scope (Select x) operands defines result place values after none v have h =
    tensor_after scope (op_by (Select x) operands defines result place) values after none v tt have h
kind_after scope (Cast x) operands defines result place values after none v have h =
    tensor_after scope (op_by (Cast x) operands defines result place) values after none v tt have h
kind_after scope Empty operands defines result place values after none v have h =
    tensor_after scope (op_by (Empty) operands defines result place) values after none v tt have h
kind_after scope (ExtractSlice x) operands defines result place values after none v have h =
    tensor_after scope (op_by (ExtractSlice x) operands defines result place) values after none v tt have h
kind_after scope (InsertSlice x) operands defines result place values after none v have h =
    tensor_after scope (op_by (InsertSlice x) operands defines result place) values after none v tt have h
kind_after scope (CollapseShape x) operands defines result place values after none v have h =
    tensor_after scope (op_by (CollapseShape x) operands defines result place) values after none v tt have h
kind_after scope (ExpandShape x) operands defines result place values after none v have h =
    tensor_after scope (op_by (ExpandShape x) operands defines result place) values after none v tt have h
kind_after scope (Fill x) operands defines result place values after none v have h =
    tensor_after scope (op_by (Fill x) operands defines result place) values after none v tt have h
kind_after scope (Matmul x) operands defines result place values after none v have h =
    tensor_after scope (op_by (Matmul x) operands defines result place) values after none v tt have h
kind_after scope (BatchMatmul x) operands defines result place values after none v have h =
    tensor_after scope (op_by (BatchMatmul x) operands defines result place) values after none v tt have h
kind_after scope (Matvec x) operands defines result place values after none v have h =
    tensor_after scope (op_by (Matvec x) operands defines result place) values after none v tt have h
kind_after scope (Vecmat x) operands defines result place values after none v have h =
    tensor_after scope (op_by (Vecmat x) operands defines result place) values after none v tt have h
kind_after scope (Dot x) operands defines result place values after none v have h =
    tensor_after scope (op_by (Dot x) operands defines result place) values after none v tt have h
kind_after scope (Conv1d x) operands defines result place values after none v have h =
    tensor_after scope (op_by (Conv1d x) operands defines result place) values after none v tt have h
kind_after scope (Conv2d x) operands defines result place values after none v have h =
    tensor_after scope (op_by (Conv2d x) operands defines result place) values after none v tt have h
kind_after scope (Transpose x) operands defines result place values after none v have h =
    tensor_after scope (op_by (Transpose x) operands defines result place) values after none v tt have h
kind_after scope (Broadcast x) operands defines result place values after none v have h =
    tensor_after scope (op_by (Broadcast x) operands defines result place) values after none v tt have h
kind_after scope (Reduce x) operands defines result place values after none v have h =
    tensor_after scope (op_by (Reduce x) operands defines result place) values after none v tt have h
kind_after scope (Generic x) operands defines result place values after none v have h =
    tensor_after scope (op_by (Generic x) operands defines result place) values after none v tt have h
kind_after scope (Sharding x) operands defines result place values after none v have h =
    sharding_after scope.values x defines result place operands values after v.result have h
kind_after scope (Shard x) operands defines result place values after none v have h =
    note_after scope x defines result place operands values after v have h
kind_after scope (AllGather x) operands defines result place values after none v have h =
    absurd (never (source_op scope (op_by (AllGather x) operands defines result place) none v).source)
kind_after scope (AllSlice x) operands defines result place values after none v have h =
    absurd (never (source_op scope (op_by (AllSlice x) operands defines result place) none v).source)
kind_after scope (AllReduce x) operands defines result place values after none v have h =
    absurd (never (source_op scope (op_by (AllReduce x) operands defines result place) none v).source)
kind_after scope (ReduceScatter x) operands defines result place values after none v have h =
    absurd (never (source_op scope (op_by (ReduceScatter x) operands defines result place) none v).source)
kind_after scope (AllToAll x) operands defines result place values after none v have h =
    absurd (never (source_op scope (op_by (AllToAll x) operands defines result place) none v).source)
kind_after scope (Shift x) operands defines result place values after none v have h =
    absurd (never (source_op scope (op_by (Shift x) operands defines result place) none v).source)
kind_after scope (UpdateHalo x) operands defines result place values after none v have h =
    absurd (never (source_op scope (op_by (UpdateHalo x) operands defines result place) none v).source)
kind_after scope (Take x) operands defines result place values after none v have h =
    absurd (never (source_op scope (op_by (Take x) operands defines result place) none v).source)
kind_after scope (Pad x) operands defines result place values after none v have h =
    absurd (never (source_op scope (op_by (Pad x) operands defines result place) none v).source)
kind_after scope (Join x) operands defines result place values after none v have h =
    absurd (never (source_op scope (op_by (Join x) operands defines result place) none v).source)
kind_after scope (Call x) operands defines result place values after none v have h =
    absurd (call_after x operands defines result place values after h)
kind_after scope (Return x) operands defines result place values after none v have h =
    return_after scope.values x defines result place operands values after v.defines have h

-- The values after an operation are of the types of the scope after it.
pub typed_after : (scope : Scope) (op : Op) (values after : Values) → scope.device ≡ None → IsOfVerifiedOp scope op → HaveTypes scope.values values
    → after_class (class_of op.kind) op values ≡ Some after
    → HaveTypes (scope_after scope op).values after
typed_after scope op values after none v have h =
    kind_after scope op.kind op.operands op.defines op.result op.place values after none v have h

-- ---- arguments

have_own : (shape : List ℕ) → have_extents (map (λ n. Known n) shape) shape ≡ true
have_own [] = refl
have_own (n ∷ shape) =
    let here : nat_eq n n ≡ true = grind (arith, nat_tests) in
    let rest = have_own shape in
    rw (here, rest) refl

-- a tensor of a type with few cells
value_of_type : (type : ValueType) (t : TensorValue) → has_few_cells type ≡ true → IsOfType type t → IsOfValueType type t
value_of_type (value_type.Tensor type) t few h = record {
  extents = subst (λ dims. have_extents dims t.shape ≡ true) h.extents (have_own t.shape);
  width = h.width;
  whole = h.whole;
  few = few_by_type (value_type.Tensor type) t.shape few h.extents;
}
value_of_type (value_type.Scalar w) t few h = absurd h
value_of_type value_type.Nothing t few h = absurd h
value_of_type value_type.Sharding t few h = absurd h
value_of_type value_type.Index t few h = absurd h

pub values_of_types : (types : List ValueType) (ts : List TensorValue) → list_all has_few_cells types ≡ true → AreOfTypes types ts
    → AreOfValueTypes types ts
values_of_types [] [] few h = tt
values_of_types [] (t ∷ ts) few h = absurd h
values_of_types (type ∷ types) [] few h = absurd h
values_of_types (type ∷ types) (t ∷ ts) few h = (
  value_of_type type t (both_left (has_few_cells type) (list_all has_few_cells types) few) h.0,
  values_of_types types ts (both_right (has_few_cells type) (list_all has_few_cells types) few) h.1,
)

one_longer : {X Y : Type 0} (xs : List X) (ys : List Y) (x : X) (y : Y) → length xs ≡ length ys
    → length (xs ++ x ∷ []) ≡ length (ys ++ y ∷ [])
one_longer xs ys x y sizes = length-append xs (x ∷ []) ∙ ap (λ n. n + 1) sizes ∙ sym (length-append ys (y ∷ []))

nothing_more : {X : Type 0} (xs : List X) → xs ++ [] ≡ xs
nothing_more [] = refl
nothing_more (x ∷ xs) = ap (λ ys. x ∷ ys) (nothing_more xs)

arg_more : (own : List Value) (names : List (Option ℕ)) (os : List (Option TensorValue)) (arg : Arg) (t : TensorValue)
    → length names ≡ length os → IsOfValueType arg.value_type t → HaveTypes own (value_under names os)
    → HaveTypes (plain_value arg.id arg.value_type ∷ own) (value_under (names ++ Some arg.id ∷ []) (os ++ Some t ∷ []))
arg_more own names os arg t sizes is have name v e value =
    subst (λ o. IsSomeAnd o (IsOfValueType v.value_type)) (sym (value_push names os (Some arg.id) (Some t) name sizes))
    (go (nat_eq arg.id name) e)
  where
    go : (b : Bool) → (if b then Some (plain_value arg.id arg.value_type) else value_named own name) ≡ Some v
        → IsSomeAnd (cond b (Some t) (value_under names os name)) (IsOfValueType v.value_type)
    go true f = subst (λ (w : Value). IsOfValueType w.value_type t) (same_Some (plain_value arg.id arg.value_type) v f) is
    go false f = have name v f value

args_from : (own : List Value) (names : List (Option ℕ)) (os : List (Option TensorValue)) (args : List Arg) (ts : List TensorValue)
    → length names ≡ length os → AreOfValueTypes (map (λ a. a.value_type) args) ts
    → HaveTypes own (value_under names os)
    → HaveTypes (with_args own args) (value_under (names ++ map (λ a. Some a.id) args) (os ++ there ts))
args_from own names os [] [] sizes are have =
    subst (λ ns. HaveTypes own (value_under ns (os ++ []))) (sym (nothing_more names))
    (subst (λ vs. HaveTypes own (value_under names vs)) (sym (nothing_more os)) have)
args_from own names os [] (t ∷ ts) sizes are have = absurd are
args_from own names os (arg ∷ args) [] sizes are have = absurd are
args_from own names os (arg ∷ args) (t ∷ ts) sizes are have =
    let next : HaveTypes (plain_value arg.id arg.value_type ∷ own)
    (value_under (names ++ Some arg.id ∷ []) (os ++ Some t ∷ [])) = arg_more own names os arg t sizes
    are.0 have in
    let rest = args_from (plain_value arg.id arg.value_type ∷ own) (names ++ Some arg.id ∷ []) (os ++ Some t ∷ []) args ts
    (one_longer names os (Some arg.id) (Some t) sizes) are.1 next in
    subst (λ ns. HaveTypes (with_args own (arg ∷ args)) (value_under ns (os ++ there (t ∷ ts))))
    (append_assoc names (Some arg.id ∷ []) (map (λ a. Some a.id) args))
    (subst (λ vs. HaveTypes (with_args own (arg ∷ args)) (value_under ((names ++ Some arg.id ∷ []) ++ map (λ a. Some a.id) args) vs))
    (append_assoc os (Some t ∷ []) (there ts)) rest)

-- Arguments of the parameters' types are so in the scope at the start.
pub args_typed : (m : Module) (f : Func) (arguments : List TensorValue) → AreOfValueTypes (map (λ a. a.value_type) f.args) arguments
    → HaveTypes (scope_of m f).values (argument_under (map (λ a. a.id) f.args) arguments)
args_typed m f arguments are =
    let none : HaveTypes [] (value_under [] []) = λ name v e value. absurd (none-some v e) in
    subst (λ ns. HaveTypes (with_args [] f.args) (value_under ns (there arguments))) (names_of f.args)
    (args_from [] [] [] f.args arguments refl are none)
