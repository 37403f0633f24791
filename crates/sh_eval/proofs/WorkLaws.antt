-- What the work of an operation comes to, and whether it passes the limit.
use Rattle.std.proofs.Common.{◌≡◌, ℕ, ◌+◌, ◌-◌, ◌<◌, ◌≤◌, Bool, true, false, List, map, Option, Some, None, refl, ap, ap₂, sym, ◌∙◌, arith, subst, inl, inr}
use Rattle.std.specs.Prelude.{◌⊎◌, ◌||◌, IfSome, max, nat_lt, option_map, option_and_then, if◌then◌else◌}
use Rattle.std.specs.Option.{option_map_or}
use Rattle.std.proofs.lemmas.Option.{none-some, same_Some}
use Rattle.sh_base.specs.Shape.{cell_count, max_cells}
use Rattle.sh_ir.specs.declared.classification.OpClass.{OpClass}
use Rattle.sh_ir.specs.declared.classification.OpClass.TheVariants as class
use Rattle.sh_ir.specs.declared.operations.Op.{Op}
use Rattle.sh_ir.specs.Classes.{class_of}
use Rattle.sh_loops.specs.declared.nest_sizes.NestSize.{NestSize}
use Rattle.sh_sem.specs.Given.{Giving, alone, given, giving, have_all_extents, of_dims, shape_given}
use Rattle.sh_ir.specs.Typing.{typing_of}
use Rattle.sh_ir.specs.Agreement.{dims_of}
use Rattle.sh_sem.specs.Meaning.{Values, after_class, noted_in, value_in, with_own, with_value}
use Rattle.sh_tensor.specs.Tensor.{TensorValue}
use Rattle.sh_turns.specs.Program.{all_there}
use Rattle.sh_eval.specs.Cuts.{cut_extent}
use Rattle.sh_eval.specs.Evaluations.{CanEvaluate}
use Rattle.sh_eval.specs.Functions.{CanStep, HasNone, IsDone, IsStuck, IsReached, IsReachedAt, IsReachedOn}
use Rattle.sh_eval.specs.Sizes.{sized}
use Rattle.sh_eval.specs.Values.{IsFew, shapes_of}
use Rattle.sh_eval.specs.VerifiedOps.{HasTensor}
use Rattle.sh_eval.specs.Work.{Load, has_work, load_given, load_in, load_of, max_work, no_load, passes, work_of}
use Rattle.sh_eval.specs.declared.steps.Reached.{Reached}
use Rattle.sh_eval.proofs.EvaluationLaws.{default_gives}
use Rattle.sh_eval.proofs.SizeRules.{is_sized, not_sized}

-- ---- the work

pub work_there : (op : Op) (shapes : List (List ℕ)) (size : NestSize) (w : ℕ) → Some size ≡ sized op shapes → (w ≡ cut_extent (16 + cell_count size.shape + size.points))
    → Some w ≡ option_map (λ shape. cut_extent (work_of op shapes shape)) (shape_given op alone shapes)
unfolding work_of
work_there op shapes size w e is =
    let h = is_sized op shapes size e in
    ap (λ n. Some n) (is ∙ ap (λ p. cut_extent (16 + cell_count size.shape + p)) h.points)
    ∙ ap (option_map (λ shape. cut_extent (work_of op shapes shape))) (sym h.given)

pub work_missing : (op : Op) (shapes : List (List ℕ)) → None ≡ sized op shapes → None ≡ option_map (λ shape. cut_extent (work_of op shapes shape)) (shape_given op alone shapes)
work_missing op shapes e = ap (option_map (λ shape. cut_extent (work_of op shapes shape))) (sym (not_sized op shapes e))

-- ---- against the limit

less : (a b : ℕ) → a < b → nat_lt a b ≡ true
less a b l = grind arith

not_less : (a b : ℕ) → b ≤ a → nat_lt a b ≡ false
not_less a b l = grind arith

-- the work of an operation that isn't stuck by the shapes, cut
pub record Weighs (op : Op) (shapes : List (List ℕ)) (w : ℕ) : Type 0 where
  pub shape : List ℕ
  pub given : shape_given op alone shapes ≡ Some shape
  pub work : w ≡ cut_extent (work_of op shapes shape)

pub weighs : (op : Op) (shapes : List (List ℕ)) (w : ℕ) → Some w ≡ option_map (λ shape. cut_extent (work_of op shapes shape)) (shape_given op alone shapes) → Weighs op shapes w
weighs op shapes w e = go (shape_given op alone shapes) refl e
  where
    go : (o : Option (List ℕ)) → shape_given op alone shapes ≡ o → Some w ≡ option_map (λ shape. cut_extent (work_of op shapes shape)) o → Weighs op shapes w
    go None g h = absurd (none-some w (sym h))
    go (Some shape) g h = record { shape = shape; given = g; work = same_Some w (cut_extent (work_of op shapes shape)) h }

pub weighs_nothing : (op : Op) (shapes : List (List ℕ)) → None ≡ option_map (λ shape. cut_extent (work_of op shapes shape)) (shape_given op alone shapes) → shape_given op alone shapes ≡ None
weighs_nothing op shapes e = go (shape_given op alone shapes) e
  where
    go : (o : Option (List ℕ)) → None ≡ option_map (λ shape. cut_extent (work_of op shapes shape)) o → o ≡ None
    go None h = refl
    go (Some shape) h = absurd (none-some (cut_extent (work_of op shapes shape)) h)

pub passes_much : (op : Op) (shapes : List (List ℕ)) (so_far w : ℕ) → so_far ≤ max_work → Weighs op shapes w → max_work - so_far < w → passes so_far (load_given op alone shapes) ≡ true
unfolding passes
passes_much op shapes so_far w small h more =
    let over : max_work < so_far + work_of op shapes h.shape = omega (arith, small, more, h.work) in
    ap (λ o. nat_lt max_work (so_far + (option_map_or (load_of op shapes) o no_load).work) || nat_lt max_cells (option_map_or (load_of op shapes) o no_load).cells) h.given
    ∙ ap (λ b. b || nat_lt max_cells (load_of op shapes h.shape).cells) (less max_work (so_far + work_of op shapes h.shape) over)

-- an operation with work within the limit
pub record Within (op : Op) (shapes : List (List ℕ)) (so_far w : ℕ) : Type 0 where
  pub few : passes so_far (load_given op alone shapes) ≡ false
  pub work : so_far + w ≡ so_far + (load_given op alone shapes).work
  pub small : so_far + w ≤ max_work

pub within : (op : Op) (shapes : List (List ℕ)) (so_far w : ℕ) → so_far ≤ max_work → IfSome (shape_given op alone shapes) IsFew → Weighs op shapes w → w ≤ max_work - so_far
    → Within op shapes so_far w
unfolding passes
within op shapes so_far w small few h less_work =
    let cells : cell_count (map (λ n. max n 1) h.shape) ≤ max_cells = subst (λ o. IfSome o IsFew) h.given few in
    let same : w ≡ work_of op shapes h.shape = omega (arith, small, less_work, h.work) in
    let under : so_far + work_of op shapes h.shape ≤ max_work = omega (arith, small, less_work, same) in
    record {
      few =
          ap (λ o. nat_lt max_work (so_far + (option_map_or (load_of op shapes) o no_load).work) || nat_lt max_cells (option_map_or (load_of op shapes) o no_load).cells) h.given
          ∙ ap₂ (λ a b. a || b) (not_less max_work (so_far + work_of op shapes h.shape) under) (not_less max_cells (cell_count (map (λ n. max n 1) h.shape)) cells);
      work = ap (λ n. so_far + n) (same ∙ ap (λ o. (option_map_or (load_of op shapes) o no_load).work) (sym h.given));
      small = omega (arith, under, same);
    }

pub no_load_within : (so_far : ℕ) → so_far ≤ max_work → passes so_far no_load ≡ false
unfolding passes
no_load_within so_far small = ap (λ b. b || false) (not_less max_work (so_far + 0) (omega (arith, small)))

-- stuck by the shapes
pub stuck_by_shapes : (op : Op) (ts : List TensorValue) (so_far : ℕ) → so_far ≤ max_work → shape_given op alone (shapes_of ts) ≡ None
    → HasNone (given op alone ts) (load_given op alone (shapes_of ts)) so_far
unfolding given
stuck_by_shapes op ts so_far small none = record {
  few = ap (λ o. passes so_far (option_map_or (load_of op (shapes_of ts)) o no_load)) none ∙ no_load_within so_far small;
  value_is = ap (option_and_then _) none;
}

-- ---- on values

computes_work : (c : OpClass) → HasTensor c → has_work c ≡ true
computes_work class.Creator h = refl
computes_work class.Element h = refl
computes_work class.Layout h = refl
computes_work class.Structured h = refl
computes_work class.Convolution h = refl
computes_work class.Sharding h = absurd h
computes_work class.Note h = absurd h
computes_work class.DeviceLayout h = absurd h
computes_work class.Collective h = absurd h
computes_work class.Call h = absurd h
computes_work class.Return h = absurd h

load_on : (op : Op) (values : Values) (o : Option (List TensorValue)) → has_work (class_of op.kind) ≡ true → all_there (map values op.operands) ≡ o
    → load_in op values ≡ option_map_or (λ ts. load_given op alone (shapes_of ts)) o no_load
unfolding load_in
load_on op values o works e =
    ap (λ b. if b then option_map_or (λ ts. load_given op alone (shapes_of ts)) (all_there (map values op.operands)) no_load else no_load) works
    ∙ ap (λ z. option_map_or (λ ts. load_given op alone (shapes_of ts)) z no_load) e

pub reached_there : (op : Op) (values : Values) (ts : List TensorValue) (so_far : ℕ) (r : Reached) → HasTensor (class_of op.kind) → Some ts ≡ all_there (map values op.operands)
    → IsReachedOn op ts so_far r → IsReached op values so_far r
reached_there op values ts so_far r computes e h =
    let load = load_on op values (Some ts) (computes_work (class_of op.kind) computes) (sym e) in
    subst (λ l. IsReachedAt (value_in op values) l so_far r) (sym load)
    (subst (λ v. IsReachedAt v (load_given op alone (shapes_of ts)) so_far r) (ap (option_and_then (given op alone)) e) h)

pub reached_missing : (op : Op) (values : Values) (so_far : ℕ) → so_far ≤ max_work → HasTensor (class_of op.kind) → None ≡ all_there (map values op.operands)
    → HasNone (value_in op values) (load_in op values) so_far
reached_missing op values so_far small computes e = record {
  few = ap (passes so_far) (load_on op values None (computes_work (class_of op.kind) computes) (sym e)) ∙ no_load_within so_far small;
  value_is = ap (option_and_then (given op alone)) (sym e);
}

pub can_evaluate_there : (op : Op) (values : Values) (ts : List TensorValue) → CanStep op values → HasTensor (class_of op.kind) → Some ts ≡ all_there (map values op.operands) → CanEvaluate op alone ts
can_evaluate_there op values ts can computes e = subst (λ o. IfSome o (CanEvaluate op alone)) (sym e) (can.evaluates computes)

-- ---- behind an operation

pub computes_after : (c : OpClass) (op : Op) (values : Values) → HasTensor c → after_class c op values ≡ with_own op values (value_in op values)
computes_after class.Creator op values h = refl
computes_after class.Element op values h = refl
computes_after class.Layout op values h = refl
computes_after class.Structured op values h = refl
computes_after class.Convolution op values h = refl
computes_after class.Sharding op values h = absurd h
computes_after class.Note op values h = absurd h
computes_after class.DeviceLayout op values h = absurd h
computes_after class.Collective op values h = absurd h
computes_after class.Call op values h = absurd h
computes_after class.Return op values h = absurd h

pub note_after : (op : Op) (values : Values) → class_of op.kind ≡ class.Note → after_class (class_of op.kind) op values ≡ with_own op values (noted_in op values)
note_after op values e = ap (λ c. after_class c op values) e

pub idle_load : (op : Op) (values : Values) (c : OpClass) → class_of op.kind ≡ c → has_work c ≡ false → load_in op values ≡ no_load
unfolding load_in
idle_load op values c e idle =
    ap (λ b. if b then option_map_or (λ ts. load_given op alone (shapes_of ts)) (all_there (map values op.operands)) no_load else no_load) (ap has_work e ∙ idle)

-- ---- collectives and calls, which nothing is computed of alone

abbrev pub IsOther : OpClass → Type 0
IsOther class.Creator = ⊥
IsOther class.Element = ⊥
IsOther class.Layout = ⊥
IsOther class.Structured = ⊥
IsOther class.Convolution = ⊥
IsOther class.Sharding = ⊥
IsOther class.Note = ⊥
IsOther class.DeviceLayout = ⊥
IsOther class.Collective = Unit {0}
IsOther class.Call = Unit {0}
IsOther class.Return = ⊥

pub other_class : (c : OpClass) → (c ≡ class.Creator → ⊥) → (c ≡ class.Element → ⊥) → (c ≡ class.Layout → ⊥) → (c ≡ class.Structured → ⊥) → (c ≡ class.Convolution → ⊥)
    → (c ≡ class.Sharding → ⊥) → (c ≡ class.Note → ⊥) → (c ≡ class.Return → ⊥) → (c ≡ class.DeviceLayout → ⊥) → IsOther c
other_class class.Creator n0 n1 n2 n3 n4 n5 n6 n7 n8 = n0 refl
other_class class.Element n0 n1 n2 n3 n4 n5 n6 n7 n8 = n1 refl
other_class class.Layout n0 n1 n2 n3 n4 n5 n6 n7 n8 = n2 refl
other_class class.Structured n0 n1 n2 n3 n4 n5 n6 n7 n8 = n3 refl
other_class class.Convolution n0 n1 n2 n3 n4 n5 n6 n7 n8 = n4 refl
other_class class.Sharding n0 n1 n2 n3 n4 n5 n6 n7 n8 = n5 refl
other_class class.Note n0 n1 n2 n3 n4 n5 n6 n7 n8 = n6 refl
other_class class.Return n0 n1 n2 n3 n4 n5 n6 n7 n8 = n7 refl
other_class class.DeviceLayout n0 n1 n2 n3 n4 n5 n6 n7 n8 = n8 refl
other_class class.Collective n0 n1 n2 n3 n4 n5 n6 n7 n8 = tt
other_class class.Call n0 n1 n2 n3 n4 n5 n6 n7 n8 = tt

other_gives : (op : Op) → IsOther (class_of op.kind) → giving op.kind op.operands op.result alone ≡ None
other_gives op h =
    default_gives op.kind op.operands op.result alone
    (λ x e. subst (λ k. IsOther (class_of k)) e h) (λ e. subst (λ k. IsOther (class_of k)) e h) (λ x e. subst (λ k. IsOther (class_of k)) e h) (λ x e. subst (λ k. IsOther (class_of k)) e h)
    (λ x e. subst (λ k. IsOther (class_of k)) e h) (λ x e. subst (λ k. IsOther (class_of k)) e h) (λ x e. subst (λ k. IsOther (class_of k)) e h) (λ x e. subst (λ k. IsOther (class_of k)) e h)
    (λ x e. subst (λ k. IsOther (class_of k)) e h) (λ x e. subst (λ k. IsOther (class_of k)) e h) (λ e. subst IsOther e h) (λ e. subst IsOther e h) (λ e. subst IsOther e h)

other_works : (c : OpClass) → IsOther c → has_work c ≡ true
other_works class.Creator h = absurd h
other_works class.Element h = absurd h
other_works class.Layout h = absurd h
other_works class.Structured h = absurd h
other_works class.Convolution h = absurd h
other_works class.Sharding h = absurd h
other_works class.Note h = absurd h
other_works class.DeviceLayout h = absurd h
other_works class.Collective h = refl
other_works class.Call h = refl
other_works class.Return h = absurd h

other_after : (c : OpClass) (op : Op) (values : Values) → IsOther c → after_class c op values ≡ with_own op values (value_in op values)
other_after class.Creator op values h = absurd h
other_after class.Element op values h = absurd h
other_after class.Layout op values h = absurd h
other_after class.Structured op values h = absurd h
other_after class.Convolution op values h = absurd h
other_after class.Sharding op values h = absurd h
other_after class.Note op values h = absurd h
other_after class.DeviceLayout op values h = absurd h
other_after class.Collective op values h = refl
other_after class.Call op values h = refl
other_after class.Return op values h = absurd h

if_either : {X : Type 0} (b : Bool) (x : X) → (if b then x else x) ≡ x
if_either true x = refl
if_either false x = refl

other_shape : (op : Op) (shapes : List (List ℕ)) → giving op.kind op.operands op.result alone ≡ None → shape_given op alone shapes ≡ None
unfolding shape_given
other_shape op shapes none =
    ap (λ g. if have_all_extents (typing_of op.kind op.result) shapes then option_and_then (of_dims (dims_of op.result)) (option_and_then (λ (y : Giving). y.shape shapes) g) else None) none
    ∙ if_either (have_all_extents (typing_of op.kind op.result) shapes) None

-- it is stuck, whatever its operands are
pub other_stuck : (op : Op) (values : Values) (so_far : ℕ) → so_far ≤ max_work → IsOther (class_of op.kind) → IsStuck op values so_far
other_stuck op values so_far small h = record {
  few = ap (passes so_far) (load (all_there (map values op.operands)) refl) ∙ no_load_within so_far small;
  after = other_after (class_of op.kind) op values h ∙ ap (with_own op values) (value (all_there (map values op.operands)));
}
  where
    load : (o : Option (List TensorValue)) → all_there (map values op.operands) ≡ o → load_in op values ≡ no_load
    load None e = load_on op values None (other_works (class_of op.kind) h) e
    load (Some ts) e =
        load_on op values (Some ts) (other_works (class_of op.kind) h) e
        ∙ ap (λ o. option_map_or (load_of op (shapes_of ts)) o no_load) (other_shape op (shapes_of ts) (other_gives op h))

    value : (o : Option (List TensorValue)) → option_and_then (given op alone) o ≡ None
    value None = refl
    value (Some ts) = (stuck_by_shapes op ts so_far small (other_shape op (shapes_of ts) (other_gives op h))).value_is

-- ---- notes, shardings and the return, which have no work

idle : (op : Op) (values : Values) (so_far : ℕ) (c : OpClass) → so_far ≤ max_work → class_of op.kind ≡ c → has_work c ≡ false → passes so_far (load_in op values) ≡ false
idle op values so_far c small e unworked = ap (passes so_far) (idle_load op values c e unworked) ∙ no_load_within so_far small

idle_work : (op : Op) (values : Values) (so_far : ℕ) (c : OpClass) → class_of op.kind ≡ c → has_work c ≡ false → so_far ≡ so_far + (load_in op values).work
idle_work op values so_far c e unworked = let none : (load_in op values).work ≡ 0 = ap (λ (l : Load). l.work) (idle_load op values c e unworked) in omega (arith, none)

pub idle_done : (op : Op) (values : Values) (so_far : ℕ) → so_far ≤ max_work → (class_of op.kind ≡ class.Sharding) ⊎ (class_of op.kind ≡ class.Return) → IsDone op values so_far so_far values
idle_done op values so_far small (inl e) = record {
  few = idle op values so_far class.Sharding small e refl;
  after = ap (λ c. after_class c op values) e;
  work_is = idle_work op values so_far class.Sharding e refl;
  small = small;
}
idle_done op values so_far small (inr e) = record {
  few = idle op values so_far class.Return small e refl;
  after = ap (λ c. after_class c op values) e;
  work_is = idle_work op values so_far class.Return e refl;
  small = small;
}

pub note_done : (op : Op) (old new : Values) (so_far : ℕ) (t : TensorValue) → so_far ≤ max_work → class_of op.kind ≡ class.Note → Some t ≡ noted_in op old → new ≡ with_value op.defines t old
    → IsDone op old so_far so_far new
note_done op old new so_far t small e noted is = record {
  few = idle op old so_far class.Note small e refl;
  after = note_after op old e ∙ ap (with_own op old) (sym noted) ∙ ap (λ v. Some v) (sym is);
  work_is = idle_work op old so_far class.Note e refl;
  small = small;
}

pub note_stuck : (op : Op) (old : Values) (so_far : ℕ) → so_far ≤ max_work → class_of op.kind ≡ class.Note → None ≡ noted_in op old → IsStuck op old so_far
note_stuck op old so_far small e noted = record {
  few = idle op old so_far class.Note small e refl;
  after = note_after op old e ∙ ap (with_own op old) (sym noted);
}
