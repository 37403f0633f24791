-- Operations one after the other: what is still to be done after one, and arguments under their names.
use Rattle.std.proofs.Common.{◌≡◌, ℕ, zero, suc, ◌+◌, ◌<◌, ◌≤◌, Bool, true, List, [], ◌∷◌, ◌++◌, map, length, take, drop, get_or, Option, Some, None, refl, ap, ap₂, sym, ◌∙◌, arith, subst, add-one}
use Rattle.std.specs.Prelude.{IfSome, if◌then◌else◌}
use Rattle.std.proofs.lemmas.Bool.{true≢false}
use Rattle.std.proofs.lemmas.List.{drop_all, length-map, length-take, take_all}
use Rattle.sh_ir.specs.Classes.{class_of}
use Rattle.sh_ir.specs.Rules.{is_of_source}
use Rattle.sh_ir.specs.Scope.{Scope, scope_after, scope_of}
use Rattle.sh_ir.specs.declared.classification.OpClass.{OpClass}
use Rattle.sh_ir.specs.declared.classification.OpClass.TheVariants as class
use Rattle.sh_ir.specs.declared.functions.Arg.{Arg}
use Rattle.sh_ir.specs.declared.functions.Func.{Func}
use Rattle.sh_ir.specs.declared.operations.Op.{Op}
use Rattle.sh_pieces.specs.Instructions.{value_under}
use Rattle.sh_pieces.specs.Runs.{argument_under}
use Rattle.sh_pieces.proofs.Names.{value_push}
use Rattle.sh_sem.specs.Given.{alone}
use Rattle.sh_sem.specs.Meaning.{Results, StuckAt, Values, after_class, results_in, with_value}
use Rattle.sh_sem.specs.Returned.{returned}
use Rattle.sh_sem.specs.Types.{AreOfTypes}
use Rattle.sh_tensor.specs.Tensor.{TensorValue}
use Rattle.sh_turns.specs.Program.{all_there, there}
use Rattle.sh_eval.specs.Evaluations.{CanEvaluate}
use Rattle.sh_eval.specs.Functions.{CanEvaluateFrom, CanStep, IsDone, IsStuck}
use Rattle.sh_eval.specs.Reached.{values_at_start}
use Rattle.sh_eval.specs.Sources.{HaveTypes, IsOfSource}
use Rattle.sh_collectives.specs.VerifiedOps.{IsOfVerifiedOp}
use Rattle.sh_eval.specs.Work.{Outcome, Ended, TooMuchAt, load_in, outcome, outcome_from, passes}
use Rattle.sh_eval.proofs.Evaluable.{can_evaluate_alone}
use Rattle.sh_eval.proofs.OperandLaws.{operands_there}
use Rattle.sh_eval.proofs.ReachedLaws.{AreVerified, on_devices, source_args}
use Rattle.sh_eval.proofs.SourceOps.{op_there, source_scope}
use Rattle.sh_eval.proofs.RuleFacts.{source_op}
use Rattle.sh_eval.proofs.TypingLaws.{typed_after}

-- ---- one operation

abbrev next_outcome : ℕ → ℕ → List Op → List ℕ → Bool → Option Values → Outcome
next_outcome work k ops names p a =
    if p then TooMuchAt k
    else elim a [ None ↦ Ended (StuckAt k) | Some after ↦ outcome_from work (suc k) ops names after ]

module _ (ops : List Op) (names : List ℕ) (at : ℕ) (op : Op) (work : ℕ) (old : Values) (o : Outcome) (here : drop at ops ≡ op ∷ drop (at + 1) ops)
    (can : CanEvaluateFrom (drop at ops) old) (ends : outcome_from work at (drop at ops) names old ≡ o) where
  can_here : CanEvaluateFrom (op ∷ drop (at + 1) ops) old
  can_here = subst (λ l. CanEvaluateFrom l old) here can

  ends_here : outcome_from work at (op ∷ drop (at + 1) ops) names old ≡ o
  ends_here = ap (λ l. outcome_from work at l names old) (sym here) ∙ ends

  pub can_step : CanStep op old
  can_step = can_here.0

  pub can_behind : (sum : ℕ) (new : Values) → IsDone op old work sum new → CanEvaluateFrom (drop (at + 1) ops) new
  can_behind sum new done = subst (λ a. IfSome a (CanEvaluateFrom (drop (at + 1) ops))) done.after can_here.1

  pub ends_behind : (sum : ℕ) (new : Values) → IsDone op old work sum new → outcome_from sum (at + 1) (drop (at + 1) ops) names new ≡ o
  ends_behind sum new done =
      ap₂ (λ s k. outcome_from s k (drop (at + 1) ops) names new) done.work_is (add-one at)
      ∙ sym (ap₂ (next_outcome (work + (load_in op old).work) at (drop (at + 1) ops) names) done.few done.after)
      ∙ ends_here

  pub stuck_here : IsStuck op old work → Ended (StuckAt at) ≡ o
  stuck_here stuck = sym (ap₂ (next_outcome (work + (load_in op old).work) at (drop (at + 1) ops) names) stuck.few stuck.after) ∙ ends_here

  pub too_much_here : passes work (load_in op old) ≡ true → TooMuchAt at ≡ o
  too_much_here p = sym (ap (λ b. next_outcome (work + (load_in op old).work) at (drop (at + 1) ops) names b (after_class (class_of op.kind) op old)) p) ∙ ends_here

-- ---- behind all

pub ended_all : (ops : List Op) (names : List ℕ) (at work : ℕ) (values : Values) (o : Outcome) → length ops ≤ at → outcome_from work at (drop at ops) names values ≡ o → Ended (results_in at names values) ≡ o
ended_all ops names at work values o past ends = ap (λ l. outcome_from work at l names values) (sym (drop_all at ops past)) ∙ ends

pub with_results : (k : ℕ) (names : List ℕ) (values : Values) (ts : List TensorValue) → Some ts ≡ all_there (map values names) → results_in k names values ≡ Results ts
with_results k names values ts e = ap (λ (r : Option (List TensorValue)). elim r [ None ↦ StuckAt k | Some us ↦ Results us ]) (sym e)

pub without_results : (k : ℕ) (names : List ℕ) (values : Values) → None ≡ all_there (map values names) → results_in k names values ≡ StuckAt k
without_results k names values e = ap (λ (r : Option (List TensorValue)). elim r [ None ↦ StuckAt k | Some us ↦ Results us ]) (sym e)

-- ---- at the start

map_push : {X Y : Type 0} (f : X → Y) (xs : List X) (x : X) → map f (xs ++ x ∷ []) ≡ map f xs ++ f x ∷ []
map_push f [] x = refl
map_push f (y ∷ xs) x = ap (λ ys. f y ∷ ys) (map_push f xs x)

take_next : {X : Type 0} (xs : List X) (n : ℕ) (x : X) → n < length xs → x ≡ get_or xs n x → take (suc n) xs ≡ take n xs ++ x ∷ []
take_next [] n x l e = absurd (omega (arith, l))
take_next (y ∷ xs) zero x l e = ap (λ z. z ∷ []) (sym e)
take_next (y ∷ xs) (suc n) x l e = ap (λ ys. y ∷ ys) (take_next xs n x (omega (arith, l)) e)

under_push : (ns : List ℕ) (ts : List TensorValue) (n : ℕ) (t : TensorValue) (name : ℕ) → length ns ≡ length ts
    → argument_under (ns ++ n ∷ []) (ts ++ t ∷ []) name ≡ with_value (Some n) t (argument_under ns ts) name
under_push ns ts n t name long =
    let names = length-map ns (λ (k : ℕ). Some k) in
    let values = length-map ts (λ (v : TensorValue). Some v) in
    ap₂ (λ ms vs. value_under ms vs name) (map_push (λ k. Some k) ns n) (map_push (λ v. Some v) ts t)
    ∙ value_push (map (λ k. Some k) ns) (there ts) (Some n) (Some t) name (omega (arith, names, values, long))

under_more : (ns : List ℕ) (ts : List TensorValue) (n : ℕ) (t : TensorValue) → length ns ≡ length ts
    → argument_under (ns ++ n ∷ []) (ts ++ t ∷ []) ≡ with_value (Some n) t (argument_under ns ts)
under_more ns ts n t long = λ j name. under_push ns ts n t name long j

-- with one argument more
pub start_more : (params : List Arg) (args : List TensorValue) (at : ℕ) (a : Arg) (t : TensorValue) (old new : Values) → at < length params → length params ≡ length args
    → a ≡ get_or params at a → t ≡ get_or args at t → old ≡ argument_under (map (λ a. a.id) (take at params)) (take at args) → new ≡ with_value (Some a.id) t old
    → new ≡ argument_under (map (λ a. a.id) (take (at + 1) params)) (take (at + 1) args)
start_more params args at a t old new l long a_is t_is before is =
    let names = length-map (take at params) (λ (a : Arg). a.id) in
    let short = length-take at params in
    let same = length-take at args in
    is
    ∙ ap (with_value (Some a.id) t) before
    ∙ sym (under_more (map (λ (a : Arg). a.id) (take at params)) (take at args) a.id t (omega (arith, names, short, same, l, long)))
    ∙ ap₂ argument_under
    (sym (map_push (λ (a : Arg). a.id) (take at params) a) ∙ ap (map (λ (a : Arg). a.id)) (sym (take_next params at a l a_is) ∙ ap (λ k. take k params) (sym (add-one at))))
    (sym (take_next args at t (omega (arith, l, long)) t_is) ∙ ap (λ k. take k args) (sym (add-one at)))

pub start_all : (params : List Arg) (args : List TensorValue) (at : ℕ) (values : Values) → length params ≤ at → length params ≡ length args
    → values ≡ argument_under (map (λ a. a.id) (take at params)) (take at args) → values ≡ argument_under (map (λ a. a.id) params) args
start_all params args at values past long is =
    is ∙ ap₂ (λ ps ts. argument_under (map (λ (a : Arg). a.id) ps) ts) (take_all at params past) (take_all at args (omega (arith, past, long)))

pub as_many : (params : List Arg) (args : List TensorValue) → AreOfTypes (map (λ a. a.value_type) params) args → length params ≡ length args
as_many [] [] h = refl
as_many [] (t ∷ ts) h = absurd h
as_many (a ∷ params) [] h = absurd h
as_many (a ∷ params) (t ∷ ts) h = ap suc (as_many params ts h.1)

-- ---- the outcome of a function

pub outcome_by : (f : Func) (arguments : List TensorValue) (ops : List Op) (names : List ℕ) (values : Values) → ops ≡ f.ops → names ≡ returned ops → values ≡ values_at_start f arguments
    → outcome_from 0 0 ops names values ≡ outcome f arguments
unfolding outcome
outcome_by f arguments ops names values ops_are names_are values_are =
    ap₂ (outcome_from 0 0 ops) names_are values_are ∙ ap (λ os. outcome_from 0 0 os (returned os) (values_at_start f arguments)) ops_are

pub start_is : (f : Func) (arguments : List TensorValue) (params : List Arg) (args : List TensorValue) (values : Values) → params ≡ f.args → args ≡ arguments
    → values ≡ argument_under (map (λ a. a.id) params) args → values ≡ values_at_start f arguments
start_is f arguments params args values params_are args_are is = is ∙ ap₂ (λ ps ts. argument_under (map (λ (a : Arg). a.id) ps) ts) params_are args_are

-- ---- functions of verified modules

not_of_device : (c : OpClass) → is_of_source c ≡ true → c ≡ class.DeviceLayout → ⊥
not_of_device c source e = true≢false (sym source ∙ ap is_of_source e)

step_of_scope : (scope : Scope) (op : Op) (values : Values) → scope.device ≡ None → IsOfVerifiedOp scope op → HaveTypes scope.values values → CanStep op values
step_of_scope scope op values none v have = record {
  source = not_of_device (class_of op.kind) (source_op scope op none v).source;
  evaluates = λ gives.
      let has = on_devices (class_of op.kind) gives in
      let found = operands_there scope op values v has have in
      subst (λ o. IfSome o (CanEvaluate op alone)) (sym found.there) (can_evaluate_alone scope op found.ts none v has found.typed);
}

can_from : (scope : Scope) (ops : List Op) (values : Values) → scope.device ≡ None → AreVerified scope ops → HaveTypes scope.values values → CanEvaluateFrom ops values
can_from scope [] values none verified have = tt
can_from scope (op ∷ ops) values none verified have = (
  step_of_scope scope op values none (verified 0 op refl) have,
  go (after_class (class_of op.kind) op values)
      (λ after e. can_from (scope_after scope op) ops after none (λ j other is. verified (suc j) other is) (typed_after scope op values after none (verified 0 op refl) have e)),
)
  where
    go : (o : Option Values) → ((after : Values) → o ≡ Some after → CanEvaluateFrom ops after) → IfSome o (CanEvaluateFrom ops)
    go None rest = tt
    go (Some after) rest = rest after refl

-- each operation that is reached can be evaluated
pub source_evaluates : (f : Func) (arguments : List TensorValue) → IsOfSource f → AreOfTypes (map (λ a. a.value_type) f.args) arguments → CanEvaluateFrom f.ops (values_at_start f arguments)
source_evaluates f arguments h typed =
    can_from (scope_of h.whole f) f.ops (values_at_start f arguments) (source_scope f h) (λ j other e. op_there f h j other e)
    (source_args f arguments h typed)
