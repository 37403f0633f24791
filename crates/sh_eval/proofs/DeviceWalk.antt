-- Instructions of a verified function in device form can be run where they are reached: their operands are there and of their types, on each device.
use Rattle.std.proofs.Common.{◌≡◌, ℕ, zero, suc, ◌<◌, Bool, true, false, List, [], ◌∷◌, map, take, Option, Some, None, refl, ap, sym, ◌∙◌, arith, subst}
use Rattle.std.proofs.lemmas.Option.{none-some, same_Some}
use Rattle.std.specs.List.{All, AllByRecursion}
use Rattle.std.specs.Prelude.{fold, IfSome, IsSome, IsSomeAnd, if◌then◌else◌, not, option_and_then, slice_get}
use Rattle.std.proofs.lemmas.List.Elements.{All-head, All-tail}
use Rattle.sh_base.specs.Shape.{cell_count}
use Rattle.sh_collectives.proofs.InstructionLaws.{device_op, instructions_in, placed, return_last, scope_there}
use Rattle.sh_collectives.proofs.MemberLaws.{all_found}
use Rattle.sh_collectives.proofs.VerifiedLaws.{verified_op}
use Rattle.sh_collectives.specs.DeviceForms.{IsOfDevice}
use Rattle.sh_grid.specs.Grid.{group_of, place_in}
use Rattle.sh_ir.proofs.KeptLaws.{scope_behind}
use Rattle.sh_ir.specs.Classes.{class_of, is_return_class}
use Rattle.sh_ir.specs.Rules.{is_of_device}
use Rattle.sh_ir.specs.Scope.{Scope, scope_after, scope_of}
use Rattle.sh_ir.specs.declared.classification.OpClass.{OpClass}
use Rattle.sh_ir.specs.declared.classification.OpClass.TheVariants as class
use Rattle.sh_ir.specs.declared.functions.Func.{Func}
use Rattle.sh_ir.specs.declared.operations.Op.{Op}
use Rattle.sh_pieces.specs.Instructions.{State, gives, is_name}
use Rattle.sh_pieces.specs.Runs.{next_state, state_after}
use Rattle.sh_sem.proofs.Groups.{has_groups}
use Rattle.sh_sem.specs.Collected.{collected}
use Rattle.sh_sem.specs.Given.{Seat, given, shape_given}
use Rattle.sh_sem.specs.Meaning.{Values, with_value}
use Rattle.sh_sem.specs.Steps.{axes_of, device_function, is_collective_class, seat_of, steps_on}
use Rattle.sh_tensor.specs.Tensor.{TensorValue}
use Rattle.sh_turns.specs.Program.{all_there}
use Rattle.sh_collectives.specs.Operands.{AreGroupOperands, shape_collected}
use Rattle.sh_eval.specs.Devices.{AreLocalArguments, CanGive, CanRunOn, GivesFewAlong, GoesOn, HasFewOn, HasScope, IsInstructionOf, IsReachedAt, IsScopeAt, group_operands, operand_of, operand_type, values_at}
use Rattle.sh_eval.specs.Evaluations.{CanEvaluate}
use Rattle.sh_eval.specs.Sources.{AreOfValueTypes, HaveTypes, IsOfValueType}
use Rattle.sh_eval.specs.Reached.{values_at_start}
use Rattle.sh_eval.specs.Values.{IsFew, shapes_of}
use Rattle.sh_eval.specs.VerifiedOps.{GivesTensor}
use Rattle.sh_eval.proofs.CollectedTypes.{are_group_operands, collective_kind, group_typed, operand_typed}
use Rattle.sh_eval.proofs.Evaluable.{can_evaluate}
use Rattle.sh_eval.proofs.OperandLaws.{all_types, operands_there}
use Rattle.sh_eval.proofs.ResultTypes.{result_typed}
use Rattle.sh_eval.proofs.TypeLaws.{Found}
use Rattle.sh_eval.proofs.TypingLaws.{args_typed, own_after}

gives_tensor : (c : OpClass) → is_of_device c ≡ true → not (is_return_class c) ≡ true → GivesTensor c
gives_tensor class.Creator h k = tt
gives_tensor class.Element h k = tt
gives_tensor class.Layout h k = tt
gives_tensor class.Structured h k = tt
gives_tensor class.Convolution h k = tt
gives_tensor class.DeviceLayout h k = tt
gives_tensor class.Collective h k = tt
gives_tensor class.Sharding h k = absurd (cc)
gives_tensor class.Note h k = absurd (cc)
gives_tensor class.Call h k = absurd (cc)
gives_tensor class.Return h k = absurd (cc)

each_below : (n : ℕ) (P : ℕ → Type 0) (ms : List ℕ) → All (λ m. m < n) ms → ((m : ℕ) → m < n → P m) → AllByRecursion P ms
each_below n P [] h each = tt
each_below n P (m ∷ ms) h each =
    (each m (All-head (λ m. m < n) m ms h), each_below n P ms (All-tail (λ m. m < n) m ms h) each)

-- ---- one instruction, on values of the types of the scope

can_give : (scope : Scope) (op : Op) (v : IsInstructionOf scope op) (seat : Seat) (ts : List TensorValue) → AreOfValueTypes (all_types scope op) ts
    → CanGive op seat ts
can_give scope op v seat ts typed = record {
  can = λ few. can_evaluate scope op seat ts v.verified v.gives typed few;
  typed = λ few t e. result_typed scope op seat ts v.verified v.gives typed few t e;
}

-- its operands are there
pub can_give_there : (scope : Scope) (op : Op) (seat : Seat) (values : Values) → IsInstructionOf scope op → HaveTypes scope.values values
    → IsSomeAnd (all_there (map values op.operands)) (CanGive op seat)
can_give_there scope op seat values v have =
    let found = operands_there scope op values v.verified v.gives have in
    subst (λ o. IsSomeAnd o (CanGive op seat)) (sym found.there) (can_give scope op v seat found.ts found.typed)

-- and behind it, with what it gives
pub have_after : (scope : Scope) (op : Op) (values : Values) (t : TensorValue) → HaveTypes scope.values values → IsOfValueType op.result t
    → HaveTypes (scope_after scope op).values (with_value op.defines t values)
have_after scope op values t have is = own_after scope.values values have op op.defines t is

module _ (grid : List ℕ) (scope : Scope) (op : Op) (v : IsInstructionOf scope op) (s : State TensorValue)
    (have : (c : ℕ) → c < cell_count grid → HaveTypes scope.values (s c)) (few : HasFewOn grid op s) where
  few_by : (c : ℕ) → c < cell_count grid → (b : Bool) → is_collective_class (class_of op.kind) ≡ b
      → IfSome (if b then option_and_then (shape_collected grid op (place_in grid (axes_of op.kind) c)) (group_operands grid op s c)
      else option_and_then (λ ts. shape_given op (seat_of grid op c) (shapes_of ts)) (all_there (map (s c) op.operands))) IsFew
  few_by c l b e =
      subst (λ (d : Bool). IfSome (if d then option_and_then (shape_collected grid op (place_in grid (axes_of op.kind) c)) (group_operands grid op s c)
      else option_and_then (λ ts. shape_given op (seat_of grid op c) (shapes_of ts)) (all_there (map (s c) op.operands))) IsFew) e (few c l)

  -- a local one

  operands_found : (c : ℕ) → c < cell_count grid → Found (s c) (all_types scope op) op.operands
  operands_found c l = operands_there scope op (s c) v.verified v.gives (have c l)

  few_local : (c : ℕ) (l : c < cell_count grid) → is_collective_class (class_of op.kind) ≡ false
      → IfSome (shape_given op (seat_of grid op c) (shapes_of (operands_found c l).ts)) IsFew
  few_local c l e =
      subst (λ o. IfSome (option_and_then (λ ts. shape_given op (seat_of grid op c) (shapes_of ts)) o) IsFew) (operands_found c l).there
      (few_by c l false e)

  can_local : (c : ℕ) → c < cell_count grid → is_collective_class (class_of op.kind) ≡ false
      → IsSomeAnd (all_there (map (s c) op.operands)) (CanEvaluate op (seat_of grid op c))
  can_local c l e =
      let found = operands_found c l in
      subst (λ o. IsSomeAnd o (CanEvaluate op (seat_of grid op c))) (sym found.there)
      ((can_give scope op v (seat_of grid op c) found.ts found.typed).can (few_local c l e))

  local_typed : (c : ℕ) → c < cell_count grid → is_collective_class (class_of op.kind) ≡ false → (t : TensorValue)
      → option_and_then (given op (seat_of grid op c)) (all_there (map (s c) op.operands)) ≡ Some t → IsOfValueType op.result t
  local_typed c l e t h =
      let found = operands_found c l in
      (can_give scope op v (seat_of grid op c) found.ts found.typed).typed (few_local c l e) t
      (ap (option_and_then (given op (seat_of grid op c))) (sym found.there) ∙ h)

  -- a collective

  module _ (e : is_collective_class (class_of op.kind) ≡ true) where
    members_inside : (c : ℕ) → c < cell_count grid → All (λ m. m < cell_count grid) (group_of grid (axes_of op.kind) c)
    unfolding steps_on
    members_inside c l = (has_groups grid).inside op c l e

    group_found : (c : ℕ) → c < cell_count grid → IsSomeAnd (group_operands grid op s c) (AllByRecursion (IsOfValueType (operand_type op)))
    group_found c l =
        all_found (IsOfValueType (operand_type op)) (λ m. operand_of op (s m)) (group_of grid (axes_of op.kind) c)
        (each_below (cell_count grid) (λ m. IsSomeAnd (operand_of op (s m)) (IsOfValueType (operand_type op)))
        (group_of grid (axes_of op.kind) c) (members_inside c l)
        (λ m below. operand_typed scope op v (collective_kind op.kind e) (s m) (have m below)))

    can_collect : (c : ℕ) → c < cell_count grid → IsSomeAnd (group_operands grid op s c) (AreGroupOperands op)
    can_collect c l = go (group_operands grid op s c) (group_found c l)
      where
        go : (o : Option (List TensorValue)) → IsSomeAnd o (AllByRecursion (IsOfValueType (operand_type op))) → IsSomeAnd o (AreGroupOperands op)
        go None h = absurd h
        go (Some ts) h = are_group_operands scope op v (collective_kind op.kind e) ts h

    collective_typed : (c : ℕ) → c < cell_count grid → (t : TensorValue)
        → option_and_then (λ ts. collected op grid ts (place_in grid (axes_of op.kind) c)) (group_operands grid op s c) ≡ Some t
        → IsOfValueType op.result t
    collective_typed c l t h = go (group_operands grid op s c) (group_found c l) (few_by c l true e) h
      where
        go : (o : Option (List TensorValue)) → IsSomeAnd o (AllByRecursion (IsOfValueType (operand_type op)))
            → IfSome (option_and_then (shape_collected grid op (place_in grid (axes_of op.kind) c)) o) IsFew
            → option_and_then (λ ts. collected op grid ts (place_in grid (axes_of op.kind) c)) o ≡ Some t → IsOfValueType op.result t
        go None is small f = absurd is
        go (Some ts) is small f = group_typed scope op v (collective_kind op.kind e) grid ts (place_in grid (axes_of op.kind) c) t is small f

  -- either

  given_typed : (c : ℕ) → c < cell_count grid → (t : TensorValue) → gives (steps_on grid) op s c ≡ Some t → IsOfValueType op.result t
  unfolding steps_on
  given_typed c l t h = go (is_collective_class (class_of op.kind)) refl h
    where
      go : (b : Bool) → is_collective_class (class_of op.kind) ≡ b
          → (if b then option_and_then (λ ts. collected op grid ts (place_in grid (axes_of op.kind) c)) (group_operands grid op s c)
          else option_and_then (given op (seat_of grid op c)) (all_there (map (s c) op.operands))) ≡ Some t
          → IsOfValueType op.result t
      go true e f = collective_typed e c l t f
      go false e f = local_typed c l e t f

  pub can_run : (c : ℕ) → c < cell_count grid → CanRunOn grid op s c
  can_run c l = record { local = can_local c l; collective = λ e. can_collect e c l; typed = given_typed c l }

  -- the values behind it
  pub types_after : ((c : ℕ) → c < cell_count grid → IsSome (gives (steps_on grid) op s c)) → (c : ℕ) → c < cell_count grid
      → HaveTypes (scope_after scope op).values (next_state (steps_on grid) op s c)
  unfolding steps_on
  types_after there c l = go (gives (steps_on grid) op s c) refl (there c l)
    where
      go : (o : Option TensorValue) → gives (steps_on grid) op s c ≡ o → IsSome o
          → HaveTypes (scope_after scope op).values (λ name. if is_name op.defines name then gives (steps_on grid) op s c else s c name)
      go None is h = absurd (cc)
      go (Some t) is h =
          subst (λ (p : Option TensorValue). HaveTypes (scope_after scope op).values (λ name. if is_name op.defines name then p else s c name)) (sym is)
          (own_after scope.values (s c) (have c l) op op.defines t (given_typed c l t is))

-- ---- one after the other

abbrev AreInstructionsOf : Scope → List Op → Type 0
AreInstructionsOf scope ops = (j : ℕ) (op : Op) → slice_get ops j ≡ Some op → IsInstructionOf (scope_behind scope (take j ops)) op

types_along : (grid : List ℕ) (scope : Scope) (ops : List Op) (k : ℕ) (s : State TensorValue) → AreInstructionsOf scope ops
    → ((c : ℕ) → c < cell_count grid → HaveTypes scope.values (s c))
    → ((i c : ℕ) (op : Op) → i < k → slice_get ops i ≡ Some op → c < cell_count grid
    → IsSome (gives (steps_on grid) op (state_after (steps_on grid) (take i ops) s) c))
    → ((i : ℕ) (op : Op) → i < k → slice_get ops i ≡ Some op → HasFewOn grid op (state_after (steps_on grid) (take i ops) s))
    → (c : ℕ) → c < cell_count grid → HaveTypes (scope_behind scope (take k ops)).values (state_after (steps_on grid) (take k ops) s c)
types_along grid scope ops zero s are have there few c l = have c l
types_along grid scope [] (suc k) s are have there few c l = have c l
types_along grid scope (op ∷ ops) (suc k) s are have there few c l =
    types_along grid (scope_after scope op) ops k (next_state (steps_on grid) op s) (λ j other e. are (suc j) other e)
    (λ d m. types_after grid scope op (are 0 op refl) s have (few 0 op (omega (arith)) refl) (λ e below. there 0 e op (omega (arith)) refl below) d m)
    (λ i d other below e m. there (suc i) d other (omega (arith, below)) e m)
    (λ i other below e. few (suc i) other (omega (arith, below)) e) c l

-- ---- of a function

module _ (f : Func) (grid : List ℕ) (d : IsOfDevice f grid) where
  instructions_are : AreInstructionsOf (scope_of d.verified.whole f) (instructions_in f.ops)
  instructions_are j op e =
      let p = placed f.ops j op (return_last f d.verified) e in
      let scope = scope_behind (scope_of d.verified.whole f) (take j f.ops) in
      let v = verified_op f d.verified j op p.stands in
      let is : IsInstructionOf scope op = record {
        verified = v;
        gives = gives_tensor (class_of op.kind) (device_op scope grid (scope_there f grid d (take j f.ops)) op v).device p.other;
      } in
      subst (λ ops. IsInstructionOf (scope_behind (scope_of d.verified.whole f) ops) op) (sym p.before) is

  module _ (arguments : ℕ → List TensorValue) (typed : AreLocalArguments f grid arguments) (few : GivesFewAlong f grid arguments) where
    types_reached : (k : ℕ) → IsReachedAt f grid arguments k → (c : ℕ) → c < cell_count grid
        → HaveTypes (scope_behind (scope_of d.verified.whole f) (take k (instructions_in f.ops))).values (values_at f grid arguments k c)
    unfolding device_function
    types_reached k reached c l =
        types_along grid (scope_of d.verified.whole f) (instructions_in f.ops) k (values_at f grid arguments 0) instructions_are
        (λ e m. args_typed d.verified.whole f (arguments e) (typed e m))
        (λ i e op below at m. reached i e op below at m)
        (λ i op below at. few i op at (λ j e other less there m. reached j e other (omega (arith, less, below)) there m)) c l

    -- Each instruction that is reached can be run on each device.
    pub can_run_reached : (k : ℕ) (op : Op) → slice_get (device_function f).instructions k ≡ Some op → IsReachedAt f grid arguments k
        → (c : ℕ) → c < cell_count grid → CanRunOn grid op (values_at f grid arguments k) c
    unfolding device_function
    can_run_reached k op at reached c l =
        can_run grid (scope_behind (scope_of d.verified.whole f) (take k (instructions_in f.ops))) op (instructions_are k op at)
        (values_at f grid arguments k) (types_reached k reached) (few k op at reached) c l

-- ---- scopes

folded_behind : (scope : Scope) (ops : List Op) → fold scope_after scope ops ≡ scope_behind scope ops
folded_behind scope [] = refl
folded_behind scope (op ∷ ops) = folded_behind (scope_after scope op) ops

fold_next : (scope : Scope) (ops : List Op) (k : ℕ) (op : Op) → slice_get ops k ≡ Some op
    → scope_after (fold scope_after scope (take k ops)) op ≡ fold scope_after scope (take (suc k) ops)
fold_next scope [] k op e = absurd (none-some op e)
fold_next scope (x ∷ ops) zero op e = ap (scope_after scope) (sym (same_Some x op e))
fold_next scope (x ∷ ops) (suc k) op e = fold_next (scope_after scope x) ops k op e

pub scope_at : (f : Func) (grid : List ℕ) (k : ℕ) → IsOfDevice f grid → HasScope f grid k
scope_at f grid k d = record {
  scope = fold scope_after (scope_of d.verified.whole f) (take k (device_function f).instructions);
  at = record { device = d; behind = refl };
}

pub goes_on : (f : Func) (grid : List ℕ) (k : ℕ) (scope : Scope) (op : Op) → IsScopeAt f grid k scope
    → slice_get (device_function f).instructions k ≡ Some op → GoesOn f grid k scope op
unfolding device_function
goes_on f grid k scope op s at =
    let start = scope_of s.device.verified.whole f in
    record {
      here = subst (λ x. IsInstructionOf x op) (sym (s.behind ∙ folded_behind start (take k (instructions_in f.ops))))
          (instructions_are f grid s.device k op at);
      next = record {
        device = s.device;
        behind = ap (λ x. scope_after x op) s.behind ∙ fold_next start (instructions_in f.ops) k op at;
      };
    }

-- Arguments of the local types are so in the scope at the start.
pub have_at_start : (f : Func) (grid : List ℕ) (scope : Scope) (arguments : List TensorValue) → IsScopeAt f grid 0 scope
    → AreOfValueTypes (map (λ a. a.value_type) f.args) arguments → HaveTypes scope.values (values_at_start f arguments)
have_at_start f grid scope arguments s typed =
    subst (λ x. HaveTypes x.values (values_at_start f arguments)) (sym s.behind) (args_typed s.device.verified.whole f arguments typed)
