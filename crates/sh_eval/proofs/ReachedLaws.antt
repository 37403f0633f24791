-- Operations of a verified function that are reached have their operands, and can be evaluated on them.
use Rattle.std.proofs.Common.{◌≡◌, ℕ, zero, suc, ◌≤◌, Bool, true, false, List, [], ◌∷◌, map, length, take, Option, Some, None, refl, ap, sym, ◌∙◌, arith, subst, inl, inr}
use Rattle.std.proofs.lemmas.Option.{none-some, same_Some}
use Rattle.std.specs.List.{list_all}
use Rattle.std.specs.Prelude.{◌⊎◌, IfSome, IsSome, if◌then◌else◌, option_and_then, slice_get}
use Rattle.sh_base.specs.Shape.{max_rank}
use Rattle.sh_ir.specs.declared.calls.Call as declared_call
use Rattle.sh_ir.specs.declared.classification.OpClass.{OpClass}
use Rattle.sh_ir.specs.declared.classification.OpClass.TheVariants as class
use Rattle.sh_ir.specs.declared.functions.Func.{Func}
use Rattle.sh_ir.specs.declared.operations.Op.{Op}
use Rattle.sh_ir.specs.declared.operations.OpKind.{OpKind}
use Rattle.sh_ir.specs.declared.operations.OpKind.TheVariants.{Constant, Binary, Compare, Select, Cast, Empty, ExtractSlice, InsertSlice, CollapseShape, ExpandShape, Fill, Matmul, BatchMatmul, Matvec, Vecmat, Dot, Conv1d, Conv2d, Transpose, Broadcast, Reduce, Generic, Sharding, Shard, AllGather, AllSlice, AllReduce, ReduceScatter, AllToAll, Shift, UpdateHalo, Take, Pad, Join, Call, Return}
use Rattle.sh_ir.specs.declared.operations.Return as declared_return
use Rattle.sh_ir.specs.declared.shard_ops.Shard as declared_shard
use Rattle.sh_ir.specs.declared.types.RawSharding as declared_sharding
use Rattle.sh_ir.specs.declared.types.ValueType.{ValueType}
use Rattle.sh_ir.specs.Agreement.{dims_of}
use Rattle.sh_ir.specs.Classes.{class_of}
use Rattle.sh_ir.specs.Formed.{ResultFits, types_in}
use Rattle.sh_ir.specs.Limits.{has_few_dims}
use Rattle.sh_ir.specs.Rules.{is_of_source}
use Rattle.sh_ir.specs.Scope.{Scope, scope_after, scope_of}
use Rattle.sh_ir.specs.Typing.{typing_of}
use Rattle.sh_ir.specs.Written.{written_by}
use Rattle.sh_ir.proofs.KeptLaws.{scope_behind}
use Rattle.sh_sem.specs.Given.{Giving, alone, given, giving, have_all_extents, of_dims, shape_by, shape_given}
use Rattle.sh_sem.specs.Meaning.{Values, after_class}
use Rattle.sh_sem.specs.Types.{AreOfTypes}
use Rattle.sh_tensor.specs.Tensor.{TensorValue}
use Rattle.sh_turns.specs.Program.{all_there}
use Rattle.sh_eval.specs.Evaluations.{CanEvaluate, FitsKind}
use Rattle.sh_eval.specs.Reached.{IsReachedOp, values_at_start, values_behind}
use Rattle.sh_eval.specs.Sources.{AreOfValueTypes, HaveTypes, IsOfSource, IsOfSourceType}
use Rattle.sh_eval.specs.Values.{IsFew, shapes_of}
use Rattle.sh_collectives.specs.VerifiedOps.{IsOfVerifiedOp}
use Rattle.sh_eval.specs.VerifiedOps.{GivesTensor, HasTensor}
use Rattle.sh_eval.proofs.Evaluable.{can_evaluate_alone, few_dims}
use Rattle.sh_eval.proofs.OperandLaws.{all_types, operands_there}
use Rattle.sh_eval.proofs.ResultTypes.{result_typed_alone, source_type}
use Rattle.sh_collectives.proofs.RuleLaws.{never, sound}
use Rattle.sh_eval.proofs.RuleFacts.{known_result, passes_first, passes_last, source_op}
use Rattle.sh_collectives.proofs.VerifiedLaws.{device_behind, small_args}
use Rattle.sh_eval.proofs.SourceOps.{op_there, source_scope, verified_func}
use Rattle.sh_eval.proofs.TypingLaws.{args_typed, call_gives, none_given, typed_after, values_of_types}

-- ---- the values before an operation are of their types

-- arguments of the parameters' types are so in the scope at the start
pub source_args : (f : Func) (arguments : List TensorValue) (h : IsOfSource f) → AreOfTypes (map (λ a. a.value_type) f.args) arguments
    → HaveTypes (scope_of h.whole f).values (values_at_start f arguments)
source_args f arguments h are =
    args_typed h.whole f arguments
    (values_of_types (map (λ a. a.value_type) f.args) arguments (small_args f (verified_func f h)) are)

-- each operation of the list is verified where it stands
abbrev pub AreVerified : Scope → List Op → Type 0
AreVerified scope ops = (j : ℕ) (op : Op) → slice_get ops j ≡ Some op → IsOfVerifiedOp (scope_behind scope (take j ops)) op

pub types_behind : (scope : Scope) (ops : List Op) (k : ℕ) (values after : Values) → scope.device ≡ None → AreVerified scope ops → HaveTypes scope.values values
    → values_behind k ops values ≡ Some after → HaveTypes (scope_behind scope (take k ops)).values after
types_behind scope ops zero values after none verified have h = subst (HaveTypes scope.values) (same_Some values after h) have
types_behind scope [] (suc k) values after none verified have h = absurd (none-some after h)
types_behind scope (op ∷ ops) (suc k) values after none verified have h =
    go (after_class (class_of op.kind) op values)
    (λ next e rest. types_behind (scope_after scope op) ops k next after none (λ j other is. verified (suc j) other is)
    (typed_after scope op values next none (verified 0 op refl) have e) rest) h
  where
    go : (o : Option Values)
        → ((next : Values) → o ≡ Some next → values_behind k ops next ≡ Some after
        → HaveTypes (scope_behind (scope_after scope op) (take k ops)).values after)
        → option_and_then (values_behind k ops) o ≡ Some after
        → HaveTypes (scope_behind (scope_after scope op) (take k ops)).values after
    go None rest f = absurd (none-some after f)
    go (Some next) rest f = rest next refl f

pub on_devices : (c : OpClass) → HasTensor c → GivesTensor c
on_devices class.Creator h = tt
on_devices class.Element h = tt
on_devices class.Layout h = tt
on_devices class.Structured h = tt
on_devices class.Convolution h = tt
on_devices class.Sharding h = absurd h
on_devices class.Note h = absurd h
on_devices class.DeviceLayout h = absurd h
on_devices class.Collective h = absurd h
on_devices class.Call h = absurd h
on_devices class.Return h = absurd h

-- what is known where an operation is reached
record IsTyped (op : Op) (values : Values) : Type 0 where
  scope : Scope
  source : scope.device ≡ None
  verified : IsOfVerifiedOp scope op
  have : HaveTypes scope.values values

typed_there : (f : Func) (arguments : List TensorValue) (op : Op) (values : Values) → IsReachedOp f arguments op values → IsTyped op values
typed_there f arguments op values r =
    let m = r.verified.whole in
    let none = source_scope f r.verified in
    record {
      scope = scope_behind (scope_of m f) (take r.place f.ops);
      source = device_behind (scope_of m f) (take r.place f.ops) ∙ none;
      verified = op_there f r.verified r.place op r.stands;
      have =
          types_behind (scope_of m f) f.ops r.place (values_at_start f arguments) values none (λ j other e. op_there f r.verified j other e)
          (source_args f arguments r.verified r.typed) r.before;
    }

pub there_where_reached : (f : Func) (arguments : List TensorValue) (op : Op) (values : Values) → IsReachedOp f arguments op values
    → HasTensor (class_of op.kind) → IsSome (all_there (map values op.operands))
there_where_reached f arguments op values r has =
    let t = typed_there f arguments op values r in
    let found = operands_there t.scope op values t.verified (on_devices (class_of op.kind) has) t.have in
    subst (λ (o : Option (List TensorValue)). IsSome o) (sym found.there) refl

-- ---- operations of source form that give no tensor of their operands

sharding_gives : (x : declared_sharding.RawSharding) (operands : List ℕ) (result : ValueType)
    → giving (Sharding x) operands result alone ≡ None
unfolding giving
sharding_gives x operands result = refl

sharding_fits : (x : declared_sharding.RawSharding) (operands : List ℕ) (result : ValueType) (ts : List TensorValue)
    → FitsKind (Sharding x) operands result ts
unfolding FitsKind
sharding_fits x operands result ts = tt

shard_gives : (x : declared_shard.Shard) (operands : List ℕ) (result : ValueType) → giving (Shard x) operands result alone ≡ None
unfolding giving
shard_gives x operands result = refl

shard_fits : (x : declared_shard.Shard) (operands : List ℕ) (result : ValueType) (ts : List TensorValue)
    → FitsKind (Shard x) operands result ts
unfolding FitsKind
shard_fits x operands result ts = tt

call_fits : (x : declared_call.Call) (operands : List ℕ) (result : ValueType) (ts : List TensorValue) → FitsKind (Call x) operands result ts
unfolding FitsKind
call_fits x operands result ts = tt

return_gives : (x : declared_return.Return) (operands : List ℕ) (result : ValueType) → giving (Return x) operands result alone ≡ None
unfolding giving
return_gives x operands result = refl

return_fits : (x : declared_return.Return) (operands : List ℕ) (result : ValueType) (ts : List TensorValue)
    → FitsKind (Return x) operands result ts
unfolding FitsKind
return_fits x operands result ts = tt

-- the rank of the value's type
sharding_short : (x : declared_sharding.RawSharding) (result : ValueType) → ResultFits (written_by (Sharding x)).result result
    → list_all has_few_dims (types_in (written_by (Sharding x)) result) ≡ true → length (dims_of result) ≤ max_rank
sharding_short x result fits h = subst (λ t. length (dims_of t) ≤ max_rank) (sym fits) (omega arith)

shard_short : (x : declared_shard.Shard) (result : ValueType) → ResultFits (written_by (Shard x)).result result
    → list_all has_few_dims (types_in (written_by (Shard x)) result) ≡ true → length (dims_of result) ≤ max_rank
shard_short x result fits h = few_dims result (passes_first has_few_dims result [] h)

call_short : (x : declared_call.Call) (result : ValueType) → ResultFits (written_by (Call x)).result result
    → list_all has_few_dims (types_in (written_by (Call x)) result) ≡ true → length (dims_of result) ≤ max_rank
call_short x result fits h = few_dims result (passes_last has_few_dims x.operand_types result h)

return_short : (x : declared_return.Return) (result : ValueType) → ResultFits (written_by (Return x)).result result
    → list_all has_few_dims (types_in (written_by (Return x)) result) ≡ true → length (dims_of result) ≤ max_rank
return_short x result fits h = subst (λ t. length (dims_of t) ≤ max_rank) (sym fits) (omega arith)

record GivesNone (kind : OpKind) : Type 0 where
  gives : (operands : List ℕ) (result : ValueType) → giving kind operands result alone ≡ None
  fits : (operands : List ℕ) (result : ValueType) (ts : List TensorValue) → FitsKind kind operands result ts
  short : (result : ValueType) → ResultFits (written_by kind).result result
      → list_all has_few_dims (types_in (written_by kind) result) ≡ true → length (dims_of result) ≤ max_rank

tensor_or_none : (kind : OpKind) → is_of_source (class_of kind) ≡ true → HasTensor (class_of kind) ⊎ GivesNone kind
tensor_or_none (Constant x) source = inl tt
tensor_or_none (Binary x) source = inl tt
tensor_or_none (Compare x) source = inl tt
tensor_or_none (Select x) source = inl tt
tensor_or_none (Cast x) source = inl tt
tensor_or_none Empty source = inl tt
tensor_or_none (ExtractSlice x) source = inl tt
tensor_or_none (InsertSlice x) source = inl tt
tensor_or_none (CollapseShape x) source = inl tt
tensor_or_none (ExpandShape x) source = inl tt
tensor_or_none (Fill x) source = inl tt
tensor_or_none (Matmul x) source = inl tt
tensor_or_none (BatchMatmul x) source = inl tt
tensor_or_none (Matvec x) source = inl tt
tensor_or_none (Vecmat x) source = inl tt
tensor_or_none (Dot x) source = inl tt
tensor_or_none (Conv1d x) source = inl tt
tensor_or_none (Conv2d x) source = inl tt
tensor_or_none (Transpose x) source = inl tt
tensor_or_none (Broadcast x) source = inl tt
tensor_or_none (Reduce x) source = inl tt
tensor_or_none (Generic x) source = inl tt
tensor_or_none (Sharding x) source = inr (record { gives = sharding_gives x; fits = sharding_fits x; short = sharding_short x })
tensor_or_none (Shard x) source = inr (record { gives = shard_gives x; fits = shard_fits x; short = shard_short x })
tensor_or_none (AllGather x) source = absurd (never source)
tensor_or_none (AllSlice x) source = absurd (never source)
tensor_or_none (AllReduce x) source = absurd (never source)
tensor_or_none (ReduceScatter x) source = absurd (never source)
tensor_or_none (AllToAll x) source = absurd (never source)
tensor_or_none (Shift x) source = absurd (never source)
tensor_or_none (UpdateHalo x) source = absurd (never source)
tensor_or_none (Take x) source = absurd (never source)
tensor_or_none (Pad x) source = absurd (never source)
tensor_or_none (Join x) source = absurd (never source)
tensor_or_none (Call x) source = inr (record { gives = call_gives x; fits = call_fits x; short = call_short x })
tensor_or_none (Return x) source = inr (record { gives = return_gives x; fits = return_fits x; short = return_short x })

no_shape : (op : Op) (ts : List TensorValue) → giving op.kind op.operands op.result alone ≡ None
    → IfSome (shape_given op alone (shapes_of ts)) IsFew
unfolding shape_given
no_shape op ts none =
    go (have_all_extents (typing_of op.kind op.result) (shapes_of ts)) (shape_by op alone (shapes_of ts))
    (ap (option_and_then (λ (x : Giving). x.shape (shapes_of ts))) none)
  where
    go : (b : Bool) (o : Option (List ℕ)) → o ≡ None → IfSome (if b then option_and_then (of_dims (dims_of op.result)) o else None) IsFew
    go true o e = subst (λ p. IfSome (option_and_then (of_dims (dims_of op.result)) p) IsFew) (sym e) tt
    go false o e = tt

-- ---- the operands that are there are of their types

found_types : (op : Op) (values : Values) (ts : List TensorValue) (t : IsTyped op values) → HasTensor (class_of op.kind)
    → all_there (map values op.operands) ≡ Some ts → AreOfValueTypes (all_types t.scope op) ts
found_types op values ts t has h =
    let found = operands_there t.scope op values t.verified (on_devices (class_of op.kind) has) t.have in
    subst (AreOfValueTypes (all_types t.scope op)) (same_Some found.ts ts (sym found.there ∙ h)) found.typed

pub can_where_reached : (f : Func) (arguments : List TensorValue) (op : Op) (values : Values) (ts : List TensorValue)
    → IsReachedOp f arguments op values → all_there (map values op.operands) ≡ Some ts → CanEvaluate op alone ts
can_where_reached f arguments op values ts r h =
    let t = typed_there f arguments op values r in
    let s = sound t.scope op t.verified in
    elim (tensor_or_none op.kind (source_op t.scope op t.source t.verified).source) [
      | inl has ↦ can_evaluate_alone t.scope op ts t.source t.verified (on_devices (class_of op.kind) has) (found_types op values ts t has h)
      | inr n ↦
          record {
            fits = n.fits op.operands op.result ts;
            rank = n.short op.result t.verified.result s.dims;
            few = no_shape op ts
                (n.gives op.operands op.result);
          }
    ]

pub typed_where_reached : (f : Func) (arguments : List TensorValue) (op : Op) (values : Values) (ts : List TensorValue) (t : TensorValue)
    → IsReachedOp f arguments op values → all_there (map values op.operands) ≡ Some ts
    → given op alone ts ≡ Some t → IsOfSourceType op.result t
typed_where_reached f arguments op values ts t r h e =
    let known = typed_there f arguments op values r in
    elim (tensor_or_none op.kind (source_op known.scope op known.source known.verified).source) [
      | inl has ↦
          source_type op.result t (known_result known.scope op known.source known.verified (on_devices (class_of op.kind) has))
          (result_typed_alone known.scope op ts known.source known.verified (on_devices (class_of op.kind) has) (found_types op values ts known has h) t e)
      | inr n ↦ absurd (none_given op ts t (n.gives op.operands op.result) e)
    ]
