-- Running in step is done exactly where every value is there.
use Rattle.std.proofs.Common.{◌≡◌, ℕ, zero, suc, ◌<◌, Bool, true, false, cond, List, [], ◌∷◌, map, get_or, Option, Some, None, refl, sym, ap, ◌∙◌, inl, inr, arith}
use Rattle.std.specs.Prelude.{filter_map, is_some, is_none, IsSome, if◌then◌else◌}
use Rattle.std.specs.List.{range_with_len}
use Rattle.std.specs.Option.{option_or}
use Rattle.std.proofs.lemmas.Bool.{cases_eq, cases_Bool}
use Rattle.std.proofs.lemmas.List.FromFn.{get_or-map-range_with_len}
use Rattle.sh_turns.specs.Program.{Program, there, values_before, value, returned}
use Rattle.sh_turns.specs.Lockstep.{Outcome, Done, StuckAt, MismatchAt, is_done, first_below, lacking, fault_at, results_of, outcome, lockstep, HasAllValues, LacksFirst}

first_below_none : (t : ℕ → Bool) (n : ℕ) → first_below t n ≡ None → (k : ℕ) → k < n → t k ≡ false
first_below_none t zero h k lt = absurd (omega arith)
first_below_none t (suc n) h k lt =
    let parts = or_none (first_below t n) (cond (t n) (Some n) None) h in
    elim (cases_eq k n) [
      | inl e ↦ elim (cases_Bool (t n)) [ inl b ↦ let bad : Some n ≡ None = rw b at parts.1 in cc | inr b ↦ rw e b ]
      | inr ne ↦ first_below_none t n parts.0 k (omega arith)
    ]
  where
    or_none : (a b : Option ℕ) → option_or a b ≡ None → (a ≡ None) × (b ≡ None)
    or_none None b h = (refl, h)
    or_none (Some x) b h = cc

none_first_below : (t : ℕ → Bool) (n : ℕ) → ((k : ℕ) → k < n → t k ≡ false) → first_below t n ≡ None
none_first_below t zero h = refl
none_first_below t (suc n) h = rw (none_first_below t n (λ k lt. h k (omega arith)), h n (omega arith)) refl

pub below_first : (t : ℕ → Bool) (n k : ℕ) → first_below t n ≡ Some k → (k < n) × ((j : ℕ) → j < k → t j ≡ false)
below_first t zero k h = cc
below_first t (suc n) k h = go (first_below t n) refl (λ e. below_first t n k e) h
  where
    go : (o : Option ℕ) → first_below t n ≡ o → (first_below t n ≡ Some k → (k < n) × ((j : ℕ) → j < k → t j ≡ false)) → option_or o (cond (t n) (Some n) None) ≡ Some k → (k < suc n) × ((j : ℕ) → j < k → t j ≡ false)
    go (Some j) e before h = let rest = before (e ∙ h) in (omega (arith, rest.0), rest.1)
    go None e before h =
        elim (cases_Bool (t n)) [
          | inl b ↦ let s : Some n ≡ Some k = rw b at h in let same : n ≡ k = cc in (omega arith, λ j lt. first_below_none t n e j (omega arith))
          | inr b ↦ let bad : None ≡ Some k = rw b at h in cc
        ]

passes_at : (t : ℕ → Bool) (n k : ℕ) → first_below t n ≡ Some k → t k ≡ true
passes_at t zero k h = cc
passes_at t (suc n) k h = go (first_below t n) (λ e. passes_at t n k e) h
  where
    go : (o : Option ℕ) → (o ≡ Some k → t k ≡ true) → option_or o (cond (t n) (Some n) None) ≡ Some k → t k ≡ true
    go (Some j) before h = before h
    go None before h =
        elim (cases_Bool (t n)) [
          | inl b ↦ let s : Some n ≡ Some k = rw b at h in let same : n ≡ k = cc in rw (← same) b
          | inr b ↦ let bad : None ≡ Some k = rw b at h in cc
        ]

there_from : {X : Type 0} (o : Option X) → is_none o ≡ false → IsSome o
there_from None h = cc
there_from (Some v) h = refl

there_not_none : {X : Type 0} (o : Option X) → IsSome o → is_none o ≡ false
there_not_none None h = cc
there_not_none (Some v) h = refl

none_from : (o : Option ℕ) → is_some o ≡ false → o ≡ None
none_from None h = refl
none_from (Some k) h = cc

pub present_of : {V : Type 0} (vs : List V) → filter_map (λ v. v) (there vs) ≡ vs
present_of [] = refl
present_of (v ∷ vs) = ap (λ l. v ∷ l) (present_of vs)

module _ {V : Type 0} (p : Program V) where
  -- the results of each device
  unfoldable pub all_results : List (List V)
  all_results = map (results_of p) (range_with_len 0 p.devices)

  fault_is_not_done : (k : ℕ) (o : Option ℕ) → is_done (fault_at p k o) ≡ false
  fault_is_not_done k None = refl
  fault_is_not_done k (Some c) =
      elim (cases_Bool (p.is_collective k)) [ inl b ↦ rw b refl | inr b ↦ rw b refl ]

  none_lacks : is_done (lockstep p) ≡ true → first_below (λ k. is_some (lacking p k)) p.size ≡ None
  none_lacks done = go (first_below (λ k. is_some (lacking p k)) p.size) done
    where
      go : (o : Option ℕ) → is_done (outcome p o) ≡ true → o ≡ None
      go None h = refl
      go (Some k) h = let f = fault_is_not_done k (lacking p k) in cc

  -- every value is there
  pub all_there_where_done : is_done (lockstep p) ≡ true → HasAllValues p
  all_there_where_done done k c kin cin =
      let none : lacking p k ≡ None = none_from _ (first_below_none (λ k. is_some (lacking p k)) p.size (none_lacks done) k kin) in
      there_from (value p k c) (first_below_none (λ c. is_none (value p k c)) p.devices none c cin)

  -- running in step ends with the results of each device
  pub done_where_all_there : HasAllValues p → lockstep p ≡ Done all_results
  unfolding all_results
  done_where_all_there all =
      ap (outcome p) (none_first_below (λ k. is_some (lacking p k)) p.size (λ k kin.
      ap is_some (none_first_below (λ c. is_none (value p k c)) p.devices (λ c cin. there_not_none (value p k c) (all k c kin cin)))))

  none_from_none : (o : Option V) → is_none o ≡ true → o ≡ None
  none_from_none None h = refl
  none_from_none (Some v) h = cc

  lacks_first : (k c : ℕ) → first_below (λ k. is_some (lacking p k)) p.size ≡ Some k → lacking p k ≡ Some c → LacksFirst p k c
  lacks_first k c first at =
      let before = below_first (λ k. is_some (lacking p k)) p.size k first in
      let before' = below_first (λ c. is_none (value p k c)) p.devices c at in
      record {
        instruction = before.0;
        device = before'.0;
        lacks = none_from_none (value p k c) (passes_at (λ c. is_none (value p k c)) p.devices c at);
        earlier = λ i d lt in'.
            let none : lacking p i ≡ None = none_from _ (before.1 i lt) in
            there_from (value p i d) (first_below_none (λ c. is_none (value p i c)) p.devices none d in');
        lower = λ d lt. there_from (value p k d) (before'.1 d lt);
      }

  -- what an answer other than done says
  fault_is : (Q : Outcome V → Type 0) → ((k c : ℕ) → LacksFirst p k c → Q (if p.is_collective k then MismatchAt k c else StuckAt k c)) → Q (Done all_results) → Q (lockstep p)
  unfolding all_results
  fault_is Q faults done = go (first_below (λ k. is_some (lacking p k)) p.size) refl
    where
      at : (k : ℕ) → first_below (λ k. is_some (lacking p k)) p.size ≡ Some k → (o : Option ℕ) → lacking p k ≡ o → Q (fault_at p k o)
      at k first (Some c) e = faults k c (lacks_first k c first e)
      at k first None e =
          let some : is_some (lacking p k) ≡ true = passes_at (λ k. is_some (lacking p k)) p.size k first in
          let none : is_some (lacking p k) ≡ false = ap is_some e in
          cc

      go : (o : Option ℕ) → first_below (λ k. is_some (lacking p k)) p.size ≡ o → Q (outcome p o)
      go None e = done
      go (Some k) e = at k e (lacking p k) refl

  pub stuck_is_first : (k c : ℕ) → lockstep p ≡ StuckAt k c → LacksFirst p k c × (p.is_collective k ≡ false)
  stuck_is_first k c =
      fault_is (λ o. o ≡ StuckAt k c → LacksFirst p k c × (p.is_collective k ≡ false))
      (λ i d first.
      elim (cases_Bool (p.is_collective i)) [
        | inl b ↦ rw b (λ h. cc)
        | inr b ↦ rw b (λ h. let si : i ≡ k = cc in let sd : d ≡ c = cc in (rw (← si, ← sd) first, rw (← si) b))
      ])
      (λ h. cc)

  pub mismatch_is_first : (k c : ℕ) → lockstep p ≡ MismatchAt k c → LacksFirst p k c × (p.is_collective k ≡ true)
  mismatch_is_first k c =
      fault_is (λ o. o ≡ MismatchAt k c → LacksFirst p k c × (p.is_collective k ≡ true))
      (λ i d first.
      elim (cases_Bool (p.is_collective i)) [
        | inl b ↦ rw b (λ h. let si : i ≡ k = cc in let sd : d ≡ c = cc in (rw (← si, ← sd) first, rw (← si) b))
        | inr b ↦ rw b (λ h. cc)
      ])
      (λ h. cc)

  -- the results of a device are those that its values give
  pub results_are : (rows : List (List V)) → lockstep p ≡ Done rows → (c : ℕ) (values : List V) → c < p.devices → there values ≡ values_before p p.size c → get_or rows c [] ≡ returned p values
  unfolding all_results
  results_are rows done c values cin is =
      let both : Done all_results ≡ Done rows = sym (done_where_all_there (all_there_where_done (ap is_done done))) ∙ done in
      let same : all_results ≡ rows = cc in
      ap (λ l. get_or l c []) (sym same) ∙ get_or-map-range_with_len (results_of p) 0 p.devices c c [] cin (omega arith)
      ∙ ap (λ l. returned p (filter_map (λ v. v) l)) (sym is) ∙ ap (returned p) (present_of values)
