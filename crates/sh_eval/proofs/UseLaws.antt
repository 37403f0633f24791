-- What is still to be done depends on the values that are still used alone.
use Rattle.std.proofs.Common.{◌≡◌, ℕ, suc, ◌+◌, ◌==◌, ◌||◌, ◌&&◌, Bool, true, false, List, [], ◌∷◌, map, drop, length, get_or, ◌<◌, ◌≤◌, Option, Some, None, refl, ap, ap₂, sym, ◌∙◌, arith, subst, add-one}
use Rattle.std.specs.List.{list_any}
use Rattle.std.specs.Option.{option_map_or, option_or}
use Rattle.std.specs.Prelude.{IfSome, if◌then◌else◌, option_and_then, option_map, slice_get}
use Rattle.std.proofs.lemmas.Bool.{true≢false}
use Rattle.std.proofs.lemmas.Bool.Decides.{nat_tests}
use Rattle.std.proofs.lemmas.List.{drop_all, drop_more}
use Rattle.std.proofs.lemmas.Option.{none-some, same_Some}
use Rattle.sh_ir.specs.Classes.{class_of}
use Rattle.sh_ir.specs.declared.classification.OpClass.{OpClass}
use Rattle.sh_ir.specs.declared.classification.OpClass.TheVariants as class
use Rattle.sh_ir.specs.declared.operations.Op.{Op}
use Rattle.sh_loops.proofs.InsideLaws.{equal_by}
use Rattle.sh_pieces.specs.Instructions.{is_name}
use Rattle.sh_sem.specs.Given.{alone, given}
use Rattle.sh_sem.specs.Meaning.{StuckAt, Results, Values, after_class, noted_in, value_in, with_own}
use Rattle.sh_tensor.specs.Tensor.{TensorValue}
use Rattle.sh_turns.specs.Program.{all_there}
use Rattle.sh_eval.specs.Evaluations.{CanEvaluate}
use Rattle.sh_eval.specs.Functions.{CanEvaluateFrom, CanStep}
use Rattle.sh_eval.specs.Uses.{changed_at, ends_at, ends_with, is_among, is_at, is_named_by, last_naming, last_use}
use Rattle.sh_eval.specs.Work.{Ended, Load, Outcome, TooMuchAt, has_work, load_given, load_in, no_load, outcome_from, passes}

-- ---- names whose things change

pub changed_more : {X : Type 0} (name : ℕ) (names : List ℕ) (x : Option X) (old : ℕ → Option X)
    → changed_at (is_among names) x (changed_at (λ other. name == other) x old) ≡ changed_at (is_among (name ∷ names)) x old
changed_more {X} name names x old j other = go (name == other) (is_among names other) j
  where
    go : (a b : Bool) → (if b then x else (if a then x else old other)) ≡ (if a || b then x else old other)
    go true true = refl
    go true false = refl
    go false b = refl

pub changed_own : {X : Type 0} (names : List ℕ) (own : Option ℕ) (name : ℕ) (x : Option X) (old : ℕ → Option X) → own ≡ Some name
    → changed_at (λ other. name == other) x (changed_at (is_among names) x old) ≡ changed_at (λ other. is_among names other || is_name own other) x old
changed_own {X} names own name x old e j other = whole j
  where
    go : (a b : Bool) → (if a then x else (if b then x else old other)) ≡ (if b || a then x else old other)
    go true true = refl
    go false true = refl
    go true false = refl
    go false false = refl

    whole : changed_at (λ o. name == o) x (changed_at (is_among names) x old) other ≡ changed_at (λ o. is_among names o || is_name own o) x old other
    whole = go (name == other) (is_among names other) ∙ ap (λ (o : Option ℕ). if is_among names other || is_name o other then x else old other) (sym e)

pub changed_unowned : {X : Type 0} (names : List ℕ) (own : Option ℕ) (x : Option X) (old : ℕ → Option X) → own ≡ None
    → changed_at (is_among names) x old ≡ changed_at (λ other. is_among names other || is_name own other) x old
changed_unowned {X} names own x old e = ap (λ (passes : ℕ → Bool). changed_at passes x old) (λ j other. both other j)
  where
    go : (b : Bool) → b ≡ (b || false)
    go true = refl
    go false = refl

    both : (other : ℕ) → is_among names other ≡ (is_among names other || is_name own other)
    both other = go (is_among names other) ∙ ap (λ (o : Option ℕ). is_among names other || is_name o other) (sym e)

pub ended_more : {X : Type 0} (name : ℕ) (names : List ℕ) (uses : ℕ → Option ℕ) (at : ℕ) (old : ℕ → Option X)
    → changed_at (ends_at names uses at) None (changed_at (λ other. name == other && is_at (uses other) at) None old)
    ≡ changed_at (ends_at (name ∷ names) uses at) None old
ended_more {X} name names uses at old j other = go (name == other) (is_among names other) (is_at (uses other) at) j
  where
    go : (a b z : Bool) → ◌≡◌ {A = Option X} (if b && z then None else (if a && z then None else old other)) (if (a || b) && z then None else old other)
    go true true true = refl
    go true true false = refl
    go true false true = refl
    go true false false = refl
    go false true true = refl
    go false true false = refl
    go false false z = refl

-- with one name less to come
module _ {X : Type 0} (names : List ℕ) (i name default : ℕ) (old now all : ℕ → Option X) (lt : i < length names) (is : name ≡ get_or names i default) where
  next : drop i names ≡ name ∷ drop (i + 1) names
  next = drop_more names i default lt ∙ ap (λ n. n ∷ drop (i + 1) names) (sym is)

  pub next_changed : (x : Option X) → now ≡ changed_at (λ other. name == other) x old → changed_at (is_among (drop i names)) x old ≡ all
      → changed_at (is_among (drop (i + 1) names)) x now ≡ all
  next_changed x now_is so_far =
      ap (changed_at (is_among (drop (i + 1) names)) x) now_is ∙ changed_more name (drop (i + 1) names) x old
      ∙ ap (λ ns. changed_at (is_among ns) x old) (sym next) ∙ so_far

  pub next_ended : (uses : ℕ → Option ℕ) (at : ℕ) → now ≡ changed_at (λ other. name == other && is_at (uses other) at) None old
      → changed_at (ends_at (drop i names) uses at) None old ≡ all → changed_at (ends_at (drop (i + 1) names) uses at) None now ≡ all
  next_ended uses at now_is so_far =
      ap (changed_at (ends_at (drop (i + 1) names) uses at) None) now_is ∙ ended_more name (drop (i + 1) names) uses at old
      ∙ ap (λ ns. changed_at (ends_at ns uses at) None old) (sym next) ∙ so_far

-- with none to come
pub changed_all : {X : Type 0} (names : List ℕ) (i : ℕ) (x : Option X) (now all : ℕ → Option X) → length names ≤ i
    → changed_at (is_among (drop i names)) x now ≡ all → now ≡ all
changed_all names i x now all past so_far = ap (λ ns. changed_at (is_among ns) x now) (sym (drop_all i names past)) ∙ so_far

pub ended_all_names : {X : Type 0} (names : List ℕ) (i : ℕ) (uses : ℕ → Option ℕ) (at : ℕ) (now all : ℕ → Option X) → length names ≤ i
    → changed_at (ends_at (drop i names) uses at) None now ≡ all → now ≡ all
ended_all_names names i uses at now all past so_far = ap (λ ns. changed_at (ends_at ns uses at) None now) (sym (drop_all i names past)) ∙ so_far

-- ---- the last uses

-- those of operations from a number on, behind others
abbrev pub namings_from : ℕ → List Op → (ℕ → Option ℕ) → ℕ → Option ℕ
namings_from at ops uses name = option_or (option_map (λ k. at + k) (last_naming ops name)) (uses name)

pub namings_at_start : (ops : List Op) → namings_from 0 ops (λ name. None) ≡ last_naming ops
namings_at_start ops j name = go (last_naming ops name) j
  where
    go : (o : Option ℕ) → option_or (option_map (λ k. 0 + k) o) None ≡ o
    go None = refl
    go (Some k) = let e : 0 + k ≡ k = omega arith in ap (λ n. Some n) e

pub namings_more : (at : ℕ) (op : Op) (ops : List Op) (uses : ℕ → Option ℕ)
    → namings_from (at + 1) ops (changed_at (is_named_by op) (Some at) uses) ≡ namings_from at (op ∷ ops) uses
namings_more at op ops uses j name = go (last_naming ops name) (is_named_by op name) j
  where
    go : (o : Option ℕ) (b : Bool)
        → option_or (option_map (λ k. (at + 1) + k) o) (if b then Some at else uses name)
        ≡ option_or (option_map (λ k. at + k) (option_or (option_map (λ k. suc k) o) (if b then Some 0 else None))) (uses name)
    go (Some k) b = let e : (at + 1) + k ≡ at + suc k = omega arith in ap (λ n. Some n) e
    go None true = let e : at ≡ at + 0 = omega arith in ap (λ n. Some n) e
    go None false = refl

pub next_namings : (ops : List Op) (at : ℕ) (op : Op) (old now all : ℕ → Option ℕ) → at < length ops → op ≡ get_or ops at op
    → now ≡ changed_at (is_named_by op) (Some at) old → namings_from at (drop at ops) old ≡ all → namings_from (at + 1) (drop (at + 1) ops) now ≡ all
next_namings ops at op old now all lt is now_is so_far =
    ap (namings_from (at + 1) (drop (at + 1) ops)) now_is ∙ namings_more at op (drop (at + 1) ops) old
    ∙ ap (λ os. namings_from at os old) (sym (drop_more ops at op lt ∙ ap (λ o. o ∷ drop (at + 1) ops) (sym is))) ∙ so_far

pub namings_all : (ops : List Op) (at : ℕ) (now all : ℕ → Option ℕ) → length ops ≤ at → namings_from at (drop at ops) now ≡ all → now ≡ all
namings_all ops at now all past so_far = ap (λ os. namings_from at os now) (sym (drop_all at ops past)) ∙ so_far

abbrev pub is_named : List Op → ℕ → Bool
is_named ops name = list_any (λ op. is_named_by op name) ops

unnamed : (ops : List Op) (name : ℕ) → last_naming ops name ≡ None → is_named ops name ≡ false
unnamed [] name h = refl
unnamed (op ∷ ops) name h = go (is_named_by op name) (last_naming ops name) (unnamed ops name) h
  where
    go : (b : Bool) (o : Option ℕ) → (o ≡ None → is_named ops name ≡ false)
        → option_or (option_map (λ k. suc k) o) (if b then Some 0 else None) ≡ None → (b || is_named ops name) ≡ false
    go true None rest h = absurd (none-some 0 (sym h))
    go false None rest h = rest refl
    go b (Some k) rest h = absurd (none-some (suc k) (sym h))

unnamed_behind : (ops : List Op) (name k : ℕ) → last_naming ops name ≡ Some k → is_named (drop (suc k) ops) name ≡ false
unnamed_behind [] name k h = absurd (none-some k h)
unnamed_behind (op ∷ ops) name k h = go (is_named_by op name) (last_naming ops name) refl (unnamed_behind ops name) h
  where
    go : (b : Bool) (o : Option ℕ) → last_naming ops name ≡ o → ((m : ℕ) → o ≡ Some m → is_named (drop (suc m) ops) name ≡ false)
        → option_or (option_map (λ k. suc k) o) (if b then Some 0 else None) ≡ Some k → is_named (drop k ops) name ≡ false
    go true None e rest h = subst (λ m. is_named (drop m ops) name ≡ false) (same_Some 0 k h) (unnamed ops name e)
    go false None e rest h = absurd (none-some k h)
    go b (Some m) e rest h = subst (λ n. is_named (drop n ops) name ≡ false) (same_Some (suc m) k h) (rest m refl)

-- ---- values that agree where they are still used

-- operations name a value, or it is returned
abbrev pub is_used : List Op → List ℕ → ℕ → Bool
is_used ops returned name = is_among returned name || is_named ops name

abbrev pub AgreeOn : List Op → List ℕ → Values → Values → Type 0
AgreeOn ops returned a b = (name : ℕ) → is_used ops returned name ≡ true → a name ≡ b name

or_true : (b : Bool) → (b || true) ≡ true
or_true true = refl
or_true false = refl

or_left : (a b : Bool) → a ≡ true → (a || b) ≡ true
or_left a b e = ap (λ c. c || b) e

or_right : (a b : Bool) → b ≡ true → (a || b) ≡ true
or_right a b e = ap (λ c. a || c) e ∙ or_true a

used_more : (op : Op) (ops : List Op) (returned : List ℕ) (name : ℕ) → is_used ops returned name ≡ true → is_used (op ∷ ops) returned name ≡ true
used_more op ops returned name = go (is_among returned name) (is_named_by op name) (is_named ops name)
  where
    go : (r o b : Bool) → (r || b) ≡ true → (r || (o || b)) ≡ true
    go true o b e = refl
    go false o b e = or_right o b e

used_here : (op : Op) (ops : List Op) (returned : List ℕ) (name : ℕ) → is_among op.operands name ≡ true → is_used (op ∷ ops) returned name ≡ true
used_here op ops returned name e =
    or_right (is_among returned name) _ (or_left (is_named_by op name) (is_named ops name) (or_left (is_among op.operands name) (is_name op.defines name) e))

same_name : (n : ℕ) → (n == n) ≡ true
same_name n = grind (arith, nat_tests)

there_too : (names : List ℕ) (a b : Values) → ((name : ℕ) → is_among names name ≡ true → a name ≡ b name) → map a names ≡ map b names
there_too [] a b agree = refl
there_too (n ∷ ns) a b agree =
    ap₂ ◌∷◌ (agree n (or_left (n == n) (is_among ns n) (same_name n)))
    (there_too ns a b (λ name e. agree name (or_right (n == name) (is_among ns name) e)))

first_too : (names : List ℕ) (a b : Values) → ((name : ℕ) → is_among names name ≡ true → a name ≡ b name)
    → option_and_then a (slice_get names 0) ≡ option_and_then b (slice_get names 0)
first_too [] a b agree = refl
first_too (n ∷ ns) a b agree = agree n (or_left (n == n) (is_among ns n) (same_name n))

-- the values behind an operation agree, or it is stuck on both
abbrev AgreeBehind : List Op → List ℕ → Option Values → Option Values → Type 0
AgreeBehind ops returned None None = Unit {0}
AgreeBehind ops returned None (Some b) = ⊥
AgreeBehind ops returned (Some a) None = ⊥
AgreeBehind ops returned (Some a) (Some b) = AgreeOn ops returned a b

module _ (op : Op) (ops : List Op) (returned : List ℕ) (a b : Values) (agree : AgreeOn (op ∷ ops) returned a b) where
  operands_too : map a op.operands ≡ map b op.operands
  operands_too = there_too op.operands a b (λ name e. agree name (used_here op ops returned name e))

  noted_too : noted_in op a ≡ noted_in op b
  noted_too = first_too op.operands a b (λ name e. agree name (used_here op ops returned name e))

  value_too : value_in op a ≡ value_in op b
  value_too = ap (λ ts. option_and_then (given op alone) (all_there ts)) operands_too

  load_too : load_in op a ≡ load_in op b
  unfolding load_in
  load_too = ap (λ ts. if has_work (class_of op.kind) then option_map_or (λ us. load_given op alone (map (λ t. t.shape) us)) (all_there ts) no_load else no_load) operands_too

  own_too : (own other : Option TensorValue) → own ≡ other → AgreeBehind ops returned (with_own op a own) (with_own op b other)
  own_too own other e = subst (λ o. AgreeBehind ops returned (with_own op a own) (with_own op b o)) e (same own)
    where
      same : (o : Option TensorValue) → AgreeBehind ops returned (with_own op a o) (with_own op b o)
      same None = tt
      same (Some t) = λ name used. ap (λ v. if is_name op.defines name then Some t else v) (agree name (used_more op ops returned name used))

  behind_too : (c : OpClass) → AgreeBehind ops returned (after_class c op a) (after_class c op b)
  behind_too class.Sharding = λ name used. agree name (used_more op ops returned name used)
  behind_too class.Return = λ name used. agree name (used_more op ops returned name used)
  behind_too class.Note = own_too (noted_in op a) (noted_in op b) noted_too
  behind_too class.Creator = own_too (value_in op a) (value_in op b) value_too
  behind_too class.Element = own_too (value_in op a) (value_in op b) value_too
  behind_too class.Layout = own_too (value_in op a) (value_in op b) value_too
  behind_too class.Structured = own_too (value_in op a) (value_in op b) value_too
  behind_too class.Convolution = own_too (value_in op a) (value_in op b) value_too
  behind_too class.DeviceLayout = own_too (value_in op a) (value_in op b) value_too
  behind_too class.Collective = own_too (value_in op a) (value_in op b) value_too
  behind_too class.Call = own_too (value_in op a) (value_in op b) value_too

  step_too : CanStep op a → CanStep op b
  step_too can = record {
    source = can.source;
    evaluates = λ has. subst (λ ts. IfSome (all_there ts) (CanEvaluate op alone)) operands_too (can.evaluates has);
  }

pub outcome_too : (so_far k : ℕ) (ops : List Op) (returned : List ℕ) (a b : Values) → AgreeOn ops returned a b
    → outcome_from so_far k ops returned a ≡ outcome_from so_far k ops returned b
outcome_too so_far k [] returned a b agree =
    ap (λ ts. Ended (elim (all_there ts) [ None ↦ StuckAt k | Some us ↦ Results us ]))
    (there_too returned a b (λ name e. agree name (or_left (is_among returned name) false e)))
outcome_too so_far k (op ∷ ops) returned a b agree =
    ap (λ l. next l (after_class (class_of op.kind) op a)) (load_too op ops returned a b agree)
    ∙ go (after_class (class_of op.kind) op a) (after_class (class_of op.kind) op b) (behind_too op ops returned a b agree (class_of op.kind))
    (λ x y. outcome_too (so_far + (load_in op b).work) (suc k) ops returned x y)
  where
    next : Load → Option Values → Outcome
    next l o = if passes so_far l then TooMuchAt k
        else elim o [ None ↦ Ended (StuckAt k) | Some after ↦ outcome_from (so_far + l.work) (suc k) ops returned after ]

    go : (o p : Option Values) → AgreeBehind ops returned o p
        → ((x y : Values) → AgreeOn ops returned x y
        → outcome_from (so_far + (load_in op b).work) (suc k) ops returned x ≡ outcome_from (so_far + (load_in op b).work) (suc k) ops returned y)
        → next (load_in op b) o ≡ next (load_in op b) p
    go None None h rest = refl
    go None (Some y) h rest = absurd h
    go (Some x) None h rest = absurd h
    go (Some x) (Some y) h rest = ap (λ out. if passes so_far (load_in op b) then TooMuchAt k else out) (rest x y h)

pub can_too : (ops : List Op) (returned : List ℕ) (a b : Values) → AgreeOn ops returned a b → CanEvaluateFrom ops a → CanEvaluateFrom ops b
can_too [] returned a b agree can = tt
can_too (op ∷ ops) returned a b agree can = (
  step_too op ops returned a b agree can.0,
  go (after_class (class_of op.kind) op a) (after_class (class_of op.kind) op b) (behind_too op ops returned a b agree (class_of op.kind))
      (λ x y. can_too ops returned x y) can.1,
)
  where
    go : (o p : Option Values) → AgreeBehind ops returned o p
        → ((x y : Values) → AgreeOn ops returned x y → CanEvaluateFrom ops x → CanEvaluateFrom ops y)
        → IfSome o (CanEvaluateFrom ops) → IfSome p (CanEvaluateFrom ops)
    go None None h rest can = tt
    go None (Some y) h rest can = absurd h
    go (Some x) None h rest can = absurd h
    go (Some x) (Some y) h rest can = rest x y h can

-- ---- values that are let go

and_right : (a b : Bool) → (a && b) ≡ true → b ≡ true
and_right true b e = e
and_right false b e = absurd (true≢false (sym e))

at_is : (o : Option ℕ) (at : ℕ) → is_at o at ≡ true → o ≡ Some at
at_is None at e = absurd (true≢false (sym e))
at_is (Some k) at e = ap (λ n. Some n) (equal_by k at e)

unused_behind : (ops : List Op) (returned : List ℕ) (name at : ℕ) → last_use ops returned name ≡ Some at → is_used (drop (suc at) ops) returned name ≡ false
unused_behind ops returned name at h = go (is_among returned name) h
  where
    go : (b : Bool) → (if b then None else last_naming ops name) ≡ Some at → (b || is_named (drop (suc at) ops) name) ≡ false
    go true h = absurd (none-some at h)
    go false h = unnamed_behind ops name at h

-- behind an operation whose values that end with it are let go
pub still_agree : (ops : List Op) (returned : List ℕ) (at : ℕ) (op : Op) (uses : ℕ → Option ℕ) (old new : Values) → uses ≡ last_use ops returned
    → new ≡ changed_at (ends_with op uses at) None old → AgreeOn (drop (at + 1) ops) returned old new
still_agree ops returned at op uses old new uses_are new_is name used = sym (ap (λ (v : Values). v name) new_is ∙ go (ends_with op uses at name) refl)
  where
    go : (b : Bool) → ends_with op uses at name ≡ b → (if b then None else old name) ≡ old name
    go false e = refl
    go true e =
        let last = ap (λ (u : ℕ → Option ℕ). u name) (sym uses_are) ∙ at_is (uses name) at (and_right (is_named_by op name) (is_at (uses name) at) e) in
        absurd (true≢false (sym used ∙ ap (λ k. is_used (drop k ops) returned name) (add-one at) ∙ unused_behind ops returned name at last))
