-- The values of a device and its posts, at one instruction.
use Rattle.std.proofs.Common.{◌≡◌, ℕ, zero, suc, ◌+◌, ◌<◌, ◌≤◌, true, cond, List, [], ◌∷◌, ◌++◌, length, Option, Some, refl, sym, ap, ◌∙◌, subst, inl, inr, arith}
use Rattle.std.specs.Prelude.{slice_get}
use Rattle.std.proofs.lemmas.Bool.{cases_eq, cases_Bool, cases_lt}
use Rattle.std.proofs.lemmas.List.{length_push, length-map}
use Rattle.sh_turns.specs.Program.{Program, values_before, value, collectives, locals}
use Rattle.sh_turns.specs.Law.{operands_before}

pub get_push_before : {X : Type 0} (xs : List X) (y : X) (k : ℕ) → k < length xs → slice_get (xs ++ y ∷ []) k ≡ slice_get xs k
get_push_before [] y k h = absurd (omega arith)
get_push_before (x ∷ xs) y zero h = refl
get_push_before (x ∷ xs) y (suc k) h = get_push_before xs y k (omega arith)

pub get_push_at : {X : Type 0} (xs : List X) (y : X) (k : ℕ) → k ≡ length xs → slice_get (xs ++ y ∷ []) k ≡ Some y
get_push_at [] y zero h = refl
get_push_at [] y (suc k) h = absurd (omega arith)
get_push_at (x ∷ xs) y zero h = absurd (omega arith)
get_push_at (x ∷ xs) y (suc k) h = get_push_at xs y k (omega arith)

module _ {V : Type 0} (p : Program V) where
  pub length-values_before : (n c : ℕ) → length (values_before p n c) ≡ length (p.arguments c) + n
  length-values_before zero c = omega (arith, length-map (p.arguments c) (λ v. Some v))
  length-values_before (suc n) c = omega (arith, length_push (values_before p n c) (value p n c), length-values_before n c)

  pub value_at : (n c k : ℕ) → k < n → slice_get (values_before p n c) (length (p.arguments c) + k) ≡ Some (value p k c)
  value_at zero c k h = absurd (omega arith)
  value_at (suc n) c k h =
      let size = length-values_before n c in
      elim (cases_eq k n) [
        | inl e ↦ get_push_at (values_before p n c) (value p n c) (length (p.arguments c) + k) (omega arith) ∙ ap (λ i. Some (value p i c)) (sym e)
        | inr ne ↦ get_push_before (values_before p n c) (value p n c) (length (p.arguments c) + k) (omega arith) ∙ value_at n c k (omega arith)
      ]

  pub length-operands_before : (n c : ℕ) → length (operands_before p n c) ≡ collectives p n
  length-operands_before zero c = refl
  length-operands_before (suc n) c =
      elim (cases_Bool (p.is_collective n)) [
        | inl e ↦ rw e (length_push (operands_before p n c) (n, p.operand n c (values_before p n c)) ∙ ap (λ i. i + 1) (length-operands_before n c))
        | inr e ↦ rw e (length-operands_before n c)
      ]

  pub collectives_step : (n : ℕ) → collectives p n ≤ collectives p (suc n)
  collectives_step n =
      elim (cases_Bool (p.is_collective n)) [ inl e ↦ rw e (omega arith) | inr e ↦ rw e (omega arith) ]

  pub collectives_up : (n k : ℕ) → k ≤ n → collectives p k ≤ collectives p n
  collectives_up zero k h = let e : k ≡ 0 = omega arith in rw e (omega arith)
  collectives_up (suc n) k h =
      elim (cases_lt k (suc n)) [
        | inl lt ↦ omega (arith, collectives_up n k (omega arith), collectives_step n)
        | inr ge ↦ let e : k ≡ suc n = omega arith in rw e (omega arith)
      ]

  pub locals_and_collectives : (n : ℕ) → locals p n + collectives p n ≡ n
  locals_and_collectives zero = refl
  locals_and_collectives (suc n) =
      elim (cases_Bool (p.is_collective n)) [
        | inl e ↦ rw e (omega (arith, locals_and_collectives n))
        | inr e ↦ rw e (omega (arith, locals_and_collectives n))
      ]

  pub operand_at : (n c k : ℕ) → k < n → p.is_collective k ≡ true → slice_get (operands_before p n c) (collectives p k) ≡ Some (k, p.operand k c (values_before p k c))
  operand_at zero c k h is = absurd (omega arith)
  operand_at (suc n) c k h is =
      elim (cases_eq k n) [
        | inl e ↦
            let post : ℕ → ℕ × Option V = λ i. (i, p.operand i c (values_before p i c)) in
            let is' : p.is_collective n ≡ true = subst (λ i. p.is_collective i ≡ true) e is in
            rw is' (get_push_at (operands_before p n c) (post n) (collectives p k) (ap (collectives p) e ∙ sym (length-operands_before n c)) ∙ ap (λ i. Some (post i)) (sym e))
        | inr ne ↦
            let here : collectives p k < collectives p n = omega (arith, collectives_up n (suc k) (omega arith), subst (λ b. collectives p k + 1 ≤ cond b (collectives p k + 1) (collectives p k)) (sym is) (omega arith)) in
            elim (cases_Bool (p.is_collective n)) [
              | inl e ↦ rw e (get_push_before (operands_before p n c) (n, p.operand n c (values_before p n c)) (collectives p k) (omega (arith, length-operands_before n c)) ∙ operand_at n c k (omega arith) is)
              | inr e ↦ rw e (operand_at n c k (omega arith) is)
            ]
      ]
