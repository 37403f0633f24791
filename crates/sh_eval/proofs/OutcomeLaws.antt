-- What an outcome says of the meaning of the function.
use Rattle.std.proofs.Common.{◌≡◌, ℕ, zero, suc, ◌+◌, ◌<◌, Bool, true, false, List, [], ◌∷◌, Option, Some, None, refl, ap, ap₂, sym, ◌∙◌, arith, subst}
use Rattle.std.specs.Prelude.{slice_get, option_and_then, if◌then◌else◌}
use Rattle.std.specs.Option.{option_map_or}
use Rattle.std.proofs.lemmas.Bool.{true≢false}
use Rattle.std.proofs.lemmas.Option.{same_Some}
use Rattle.sh_ir.specs.Classes.{class_of}
use Rattle.sh_ir.specs.declared.functions.Func.{Func}
use Rattle.sh_ir.specs.declared.operations.Op.{Op}
use Rattle.sh_sem.specs.Meaning.{Evaluation, Results, StuckAt, Values, after_class, evaluated, evaluated_from, means, results_in, results_of}
use Rattle.sh_sem.specs.Returned.{returned}
use Rattle.sh_tensor.specs.Tensor.{TensorValue}
use Rattle.sh_eval.specs.Reached.{values_at_start, values_behind}
use Rattle.sh_eval.specs.Work.{IsFirstTooMuch, IsOutcome, Outcome, Ended, TooMuchAt, PassesAt, load_in, outcome, outcome_from, passes, work_behind}

abbrev ended_or : Outcome → Evaluation → Evaluation
ended_or (Ended e) other = e
ended_or (TooMuchAt k) other = other

abbrev number_or : Outcome → ℕ → ℕ
number_or (Ended e) other = other
number_or (TooMuchAt k) other = k

abbrev is_ended : Outcome → Bool
is_ended (Ended e) = true
is_ended (TooMuchAt k) = false

same_Ended : (d e : Evaluation) → Ended d ≡ Ended e → d ≡ e
same_Ended d e h = ap (λ o. ended_or o d) h

same_TooMuch : (j k : ℕ) → TooMuchAt j ≡ TooMuchAt k → j ≡ k
same_TooMuch j k h = ap (λ o. number_or o j) h

not_ended : (e : Evaluation) (k : ℕ) → Ended e ≡ TooMuchAt k → ⊥
not_ended e k h = true≢false (ap is_ended h)

-- ---- without the limit

-- an evaluation that ends ends as it does without the limit
ended_from : (so_far k : ℕ) (ops : List Op) (names : List ℕ) (values : Values) (e : Evaluation) → outcome_from so_far k ops names values ≡ Ended e → evaluated_from k ops names values ≡ e
ended_from so_far k [] names values e h = same_Ended (results_in k names values) e h
ended_from so_far k (op ∷ ops) names values e h =
    go (passes so_far (load_in op values)) (after_class (class_of op.kind) op values) (λ after. ended_from (so_far + (load_in op values).work) (suc k) ops names after e) h
  where
    go : (p : Bool) (a : Option Values)
        → ((after : Values) → outcome_from (so_far + (load_in op values).work) (suc k) ops names after ≡ Ended e → evaluated_from (suc k) ops names after ≡ e)
        → (if p then TooMuchAt k else elim a [ None ↦ Ended (StuckAt k) | Some after ↦ outcome_from (so_far + (load_in op values).work) (suc k) ops names after ]) ≡ Ended e
        → elim a [ None ↦ StuckAt k | Some after ↦ evaluated_from (suc k) ops names after ] ≡ e
    go true a rest h = absurd (not_ended e k (sym h))
    go false None rest h = same_Ended (StuckAt k) e h
    go false (Some after) rest h = rest after h

-- ---- the first that passes

-- operation j of these is reached, and passes after so much work
record Passing (so_far : ℕ) (ops : List Op) (start : Values) (j : ℕ) : Type 0 where
  op : Op
  stands : slice_get ops j ≡ Some op
  values : Values
  reached : values_behind j ops start ≡ Some values
  passing : passes (so_far + work_behind j ops start) (load_in op values) ≡ true

record IsFound (so_far k : ℕ) (ops : List Op) (start : Values) (m : ℕ) : Type 0 where
  place : ℕ
  is : m ≡ k + place
  here : Passing so_far ops start place
  first : (i : ℕ) → i < place → Passing so_far ops start i → ⊥

found_here : (so_far k m : ℕ) (op : Op) (ops : List Op) (values : Values) → passes so_far (load_in op values) ≡ true → TooMuchAt k ≡ TooMuchAt m → IsFound so_far k (op ∷ ops) values m
found_here so_far k m op ops values p h =
    let same = same_TooMuch k m h in
    let sum : so_far + 0 ≡ so_far = omega arith in
    record {
      place = 0;
      is = omega (arith, same);
      here = record { op = op; stands = refl; values = values; reached = refl; passing = ap (λ n. passes n (load_in op values)) sum ∙ p };
      first = λ i l. absurd (omega (arith, l));
    }

module _ (so_far : ℕ) (op : Op) (ops : List Op) (values after : Values) (a : after_class (class_of op.kind) op values ≡ Some after) where
  behind_more : (j : ℕ) → values_behind (suc j) (op ∷ ops) values ≡ values_behind j ops after
  behind_more j = ap (option_and_then (values_behind j ops)) a

  work_more : (j : ℕ) → so_far + work_behind (suc j) (op ∷ ops) values ≡ (so_far + (load_in op values).work) + work_behind j ops after
  work_more j =
      let same : work_behind (suc j) (op ∷ ops) values ≡ (load_in op values).work + work_behind j ops after = ap (λ o. (load_in op values).work + option_map_or (work_behind j ops) o 0) a in
      omega (arith, same)

  passing_more : (j : ℕ) → Passing (so_far + (load_in op values).work) ops after j → Passing so_far (op ∷ ops) values (suc j)
  passing_more j h = record {
    op = h.op;
    stands = h.stands;
    values = h.values;
    reached = behind_more j ∙ h.reached;
    passing = ap (λ n. passes n (load_in h.op h.values)) (work_more j) ∙ h.passing;
  }

  passing_less : (j : ℕ) → Passing so_far (op ∷ ops) values (suc j) → Passing (so_far + (load_in op values).work) ops after j
  passing_less j h = record {
    op = h.op;
    stands = h.stands;
    values = h.values;
    reached = sym (behind_more j) ∙ h.reached;
    passing = ap (λ n. passes n (load_in h.op h.values)) (sym (work_more j)) ∙ h.passing;
  }

  found_more : (k m : ℕ) → passes so_far (load_in op values) ≡ false → IsFound (so_far + (load_in op values).work) (suc k) ops after m → IsFound so_far k (op ∷ ops) values m
  found_more k m p h = record {
    place = suc h.place;
    is = let is = h.is in omega (arith, is);
    here = passing_more h.place h.here;
    first = earlier;
  }
    where
      earlier : (i : ℕ) → i < suc h.place → Passing so_far (op ∷ ops) values i → ⊥
      earlier zero l q =
          let sum : so_far + 0 ≡ so_far = omega arith in
          let same : passes so_far (load_in op values) ≡ true =
          ap (passes so_far) (ap₂ load_in (same_Some op q.op q.stands) (same_Some values q.values q.reached)) ∙ ap (λ n. passes n (load_in q.op q.values)) (sym sum) ∙ q.passing in
          true≢false (sym same ∙ p)
      earlier (suc i) l q = h.first i (omega (arith, l)) (passing_less i q)

too_much_from : (so_far k : ℕ) (ops : List Op) (names : List ℕ) (values : Values) (m : ℕ) → outcome_from so_far k ops names values ≡ TooMuchAt m → IsFound so_far k ops values m
too_much_from so_far k [] names values m h = absurd (not_ended (results_in k names values) m h)
too_much_from so_far k (op ∷ ops) names values m h =
    go (passes so_far (load_in op values)) (after_class (class_of op.kind) op values) refl refl (λ after. too_much_from (so_far + (load_in op values).work) (suc k) ops names after m) h
  where
    go : (p : Bool) (a : Option Values) → passes so_far (load_in op values) ≡ p → after_class (class_of op.kind) op values ≡ a
        → ((after : Values) → outcome_from (so_far + (load_in op values).work) (suc k) ops names after ≡ TooMuchAt m → IsFound (so_far + (load_in op values).work) (suc k) ops after m)
        → (if p then TooMuchAt k else elim a [ None ↦ Ended (StuckAt k) | Some after ↦ outcome_from (so_far + (load_in op values).work) (suc k) ops names after ]) ≡ TooMuchAt m
        → IsFound so_far k (op ∷ ops) values m
    go true a p e rest h = found_here so_far k m op ops values p h
    go false None p e rest h = absurd (not_ended (StuckAt k) m h)
    go false (Some after) p e rest h = found_more so_far op ops values after e k m p (rest after h)

passes_at : (ops : List Op) (start : Values) (j : ℕ) → Passing 0 ops start j → PassesAt ops start j
passes_at ops start j h =
    let sum : 0 + work_behind j ops start ≡ work_behind j ops start = omega arith in
    record { op = h.op; stands = h.stands; values = h.values; reached = h.reached; passes = ap (λ n. passes n (load_in h.op h.values)) (sym sum) ∙ h.passing }

passing_at : (ops : List Op) (start : Values) (j : ℕ) → PassesAt ops start j → Passing 0 ops start j
passing_at ops start j h =
    let sum : 0 + work_behind j ops start ≡ work_behind j ops start = omega arith in
    record { op = h.op; stands = h.stands; values = h.values; reached = h.reached; passing = ap (λ n. passes n (load_in h.op h.values)) sum ∙ h.passes }

first_too_much : (ops : List Op) (start : Values) (m : ℕ) → IsFound 0 0 ops start m → IsFirstTooMuch ops start m
first_too_much ops start m h =
    let is = h.is in
    let same : h.place ≡ m = omega (arith, is) in
    subst (IsFirstTooMuch ops start) same
    (record { here = passes_at ops start h.place h.here; first = λ j l q. h.first j l (passing_at ops start j q) })

-- ---- what an outcome says

pub outcome_says : (f : Func) (arguments : List TensorValue) (o : Outcome) → o ≡ outcome f arguments → IsOutcome f arguments o
unfolding outcome evaluated means
outcome_says f arguments (Ended (Results ts)) h = ap results_of (ended_from 0 0 f.ops (returned f.ops) (values_at_start f arguments) (Results ts) (sym h))
outcome_says f arguments (Ended (StuckAt k)) h = ended_from 0 0 f.ops (returned f.ops) (values_at_start f arguments) (StuckAt k) (sym h)
outcome_says f arguments (TooMuchAt k) h = first_too_much f.ops (values_at_start f arguments) k (too_much_from 0 0 f.ops (returned f.ops) (values_at_start f arguments) k (sym h))
