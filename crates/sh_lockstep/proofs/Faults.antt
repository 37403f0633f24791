-- How a program ends in step, by its first value that is lacking.
use Rattle.std.proofs.Common.{◌≡◌, ℕ, zero, suc, ◌<◌, Bool, true, false, Option, Some, None, refl, ap, ◌∙◌, inl, inr, arith}
use Rattle.std.specs.Prelude.{is_none, is_some, IsSome}
use Rattle.std.proofs.lemmas.Bool.{cases_eq}
use Rattle.sh_turns.specs.Program.{Program, value}
use Rattle.sh_turns.specs.Lockstep.{first_below, lacking, fault_at, outcome, lockstep}

none_below : (t : ℕ → Bool) (n : ℕ) → ((k : ℕ) → k < n → t k ≡ false) → first_below t n ≡ None
none_below t zero h = refl
none_below t (suc n) h = rw (none_below t n (λ k l. h k (omega (arith, l))), h n (omega arith)) refl

first_is : (t : ℕ → Bool) (n k : ℕ) → k < n → t k ≡ true → ((j : ℕ) → j < k → t j ≡ false) → first_below t n ≡ Some k
first_is t zero k l here before = absurd (omega (arith, l))
first_is t (suc n) k l here before =
    elim (cases_eq k n) [
      | inl e ↦ rw (none_below t n (λ j m. before j (omega (arith, e, m)))) (rw (← e) (rw here refl))
      | inr ne ↦ rw (first_is t n k (omega (arith, l, ne)) here before) refl
    ]

not_none : {X : Type 0} (o : Option X) → IsSome o → is_none o ≡ false
not_none None h = absurd (cc)
not_none (Some x) h = refl

module _ {V : Type 0} (p : Program V) where
  none_lacking : (k : ℕ) → ((c : ℕ) → c < p.devices → IsSome (value p k c)) → is_some (lacking p k) ≡ false
  none_lacking k there = ap is_some (none_below (λ c. is_none (value p k c)) p.devices (λ c l. not_none (value p k c) (there c l)))

  -- it stops where a value is lacking, and none before
  pub stops_at : (k c : ℕ) → k < p.size → c < p.devices → value p k c ≡ None
      → ((i d : ℕ) → i < k → d < p.devices → IsSome (value p i d)) → ((d : ℕ) → d < c → IsSome (value p k d))
      → lockstep p ≡ fault_at p k (Some c)
  stops_at k c below on none earlier lower =
      let here = first_is (λ d. is_none (value p k d)) p.devices c on (ap is_none none) (λ d l. not_none (value p k d) (lower d l)) in
      let first = first_is (λ i. is_some (lacking p i)) p.size k below (ap is_some here) (λ i l. none_lacking i (λ d m. earlier i d l m)) in
      ap (outcome p) first ∙ ap (fault_at p k) here
