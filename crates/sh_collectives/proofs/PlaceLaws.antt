-- The shapes of all results, place by place.
use Rattle.std.proofs.Common.{◌≡◌, ℕ, zero, suc, ◌+◌, ◌-◌, ◌<◌, ◌≤◌, Bool, true, false, List, [], ◌∷◌, map, length, get_or, refl, ap, sym, ◌∙◌, arith, Option, Some, None}
use Rattle.std.specs.Prelude.{option_map, option_and_then, is_some, slice_get, min, if◌then◌else◌}
use Rattle.std.specs.List.{range_with_len}
use Rattle.sh_turns.specs.Program.{all_there}

more_there : {X : Type 0} (x : X) (o : Option (List X)) → is_some (option_map (λ xs. x ∷ xs) o) ≡ is_some o
more_there x None = refl
more_there x (Some xs) = refl

module _ {X : Type 0} (f : ℕ → Option X) where
  -- whether so many values from a place on are all there
  abbrev pub are_there : ℕ → ℕ → Bool
  are_there k n = is_some (all_there (map f (range_with_len k n)))

  there_next : (k n : ℕ) → k < n → are_there k (n - k) ≡ are_there k (suc (n - (k + 1)))
  there_next k n l =
      let one : n - k ≡ suc (n - (k + 1)) = omega (arith, l) in
      ap (are_there k) one

  -- all of as many as another list has
  pub there_start : (n m : ℕ) → n ≡ m → are_there 0 (n - 0) ≡ are_there 0 m
  there_start n m e =
      let same : n - 0 ≡ m = omega (arith, e) in
      ap (are_there 0) same

  pub there_fails : (k n : ℕ) (whole : Bool) → k < n → f k ≡ None → are_there k (n - k) ≡ whole → false ≡ whole
  there_fails k n whole l e h = sym (there_next k n l ∙ rw e refl) ∙ h

  pub there_passes : (k n : ℕ) (x : X) (whole : Bool) → k < n → f k ≡ Some x → are_there k (n - k) ≡ whole → are_there (k + 1) (n - (k + 1)) ≡ whole
  there_passes k n x whole l e h =
      sym (there_next k n l ∙ rw e (more_there x (all_there (map f (range_with_len (k + 1) (n - (k + 1))))))) ∙ h

  pub there_end : (k n : ℕ) (whole : Bool) → n ≤ k → are_there k (n - k) ≡ whole → true ≡ whole
  there_end k n whole l h =
      let none : n - k ≡ 0 = omega (arith, l) in
      sym (ap (are_there k) none) ∙ h

  -- a value that is one at all places is there at all if it is at the first
  there_once : ((p q : ℕ) → f p ≡ f q) → (o : Option X) → f 0 ≡ o → (k n : ℕ) → are_there k (suc n) ≡ is_some o
  there_once same None e k n = rw (same k 0, e) refl
  there_once same (Some x) e k zero = rw (same k 0, e) refl
  there_once same (Some x) e k (suc n) =
      let rest = there_once same (Some x) e (k + 1) n in
      rw (same k 0, e) (more_there x (all_there (map f (range_with_len (k + 1) (suc n)))) ∙ rest)

  pub there_by_first : ((p q : ℕ) → f p ≡ f q) → (n : ℕ) → are_there 0 (min n 1) ≡ are_there 0 n
  there_by_first same zero = refl
  there_by_first same (suc n) =
      let one : min (suc n) 1 ≡ 1 = omega arith in
      ap (are_there 0) one ∙ there_once same (f 0) refl 0 0 ∙ sym (there_once same (f 0) refl 0 n)

-- of values that are all there, the one at a place
found : {X : Type 0} (v : X) (o : Option (List X)) (k : ℕ) (x : Option X) → option_and_then (λ l. slice_get l k) o ≡ (if is_some o then x else None)
    → option_and_then (λ l. slice_get l (suc k)) (option_map (λ ws. v ∷ ws) o) ≡ (if is_some (option_map (λ ws. v ∷ ws) o) then x else None)
found v None k x h = refl
found v (Some l) k x h = h

first_found : {X : Type 0} (v : X) (o : Option (List X))
    → option_and_then (λ l. slice_get l 0) (option_map (λ ws. v ∷ ws) o) ≡ (if is_some (option_map (λ ws. v ∷ ws) o) then Some v else None)
first_found v None = refl
first_found v (Some l) = refl

pub there_at : {X : Type 0} (vs : List (Option X)) (k : ℕ) → k < length vs → option_and_then (λ l. slice_get l k) (all_there vs) ≡ (if is_some (all_there vs) then get_or vs k None else None)
there_at [] k l = absurd (omega (arith, l))
there_at (None ∷ vs) k l = refl
there_at (Some v ∷ vs) zero l = first_found v (all_there vs)
there_at (Some v ∷ vs) (suc k) l = found v (all_there vs) k (get_or vs k None) (there_at vs k (omega (arith, l)))
