-- What is computed for one place after the other, where each has something.
use Rattle.std.proofs.Common.{◌≡◌, ◌≤◌, ℕ, suc, ◌+◌, ◌-◌, ◌<◌, List, [], ◌∷◌, ◌++◌, map, Option, Some, None, ap, refl, sym, ◌∙◌, arith}
use Rattle.std.proofs.lemmas.List.{append_assoc, append-nil}
use Rattle.std.specs.Prelude.{option_map}
use Rattle.std.specs.List.{range_with_len}
use Rattle.sh_turns.specs.Program.{all_there}

-- the numbers from one that is below the bound on
range_next : (a n : ℕ) → a < n → range_with_len a (n - a) ≡ a ∷ range_with_len (a + 1) (n - (a + 1))
range_next a n l =
    let k : n - a ≡ suc (n - (a + 1)) = omega (arith, l) in
    ap (range_with_len a) k

range_done : (a n : ℕ) → n ≤ a → range_with_len a (n - a) ≡ []
range_done a n e =
    let k : n - a ≡ 0 = omega (arith, e) in
    ap (range_with_len a) k

-- behind these
abbrev pub so_far : {V : Type 0} → List V → Option (List V) → Option (List V)
so_far vs more = option_map (λ ws. vs ++ ws) more

abbrev pub from_place : {V : Type 0} → (ℕ → Option V) → ℕ → ℕ → Option (List V)
from_place f n a = all_there (map f (range_with_len a (n - a)))

one_more : {V : Type 0} (vs : List V) (v : V) (o : Option (List V))
    → so_far (vs ++ v ∷ []) o ≡ so_far vs (option_map (λ ws. v ∷ ws) o)
one_more vs v None = refl
one_more vs v (Some ws) = ap (λ xs. Some xs) (append_assoc vs (v ∷ []) ws)

module _ {V : Type 0} (f : ℕ → Option V) (n a : ℕ) where
  there_next : (o : Option V) → f a ≡ o → a < n → from_place f n a ≡ all_there (o ∷ map f (range_with_len (a + 1) (n - (a + 1))))
  there_next o e l = ap (λ xs. all_there (map f xs)) (range_next a n l) ∙ ap (λ x. all_there (x ∷ map f (range_with_len (a + 1) (n - (a + 1))))) e

  pub lacks : (vs : List V) (whole : Option (List V)) → a < n → f a ≡ None → so_far vs (from_place f n a) ≡ whole → None ≡ whole
  lacks vs whole l e h = sym (ap (so_far vs) (there_next None e l)) ∙ h

  pub adds : (vs : List V) (v : V) (whole : Option (List V)) → a < n → f a ≡ Some v → so_far vs (from_place f n a) ≡ whole
      → so_far (vs ++ v ∷ []) (from_place f n (a + 1)) ≡ whole
  adds vs v whole l e h = one_more vs v (from_place f n (a + 1)) ∙ sym (ap (so_far vs) (there_next (Some v) e l)) ∙ h

  pub ends : (vs : List V) (whole : Option (List V)) → n ≤ a → so_far vs (from_place f n a) ≡ whole → Some vs ≡ whole
  ends vs whole l h =
      sym (ap (λ xs. so_far vs (all_there (map f xs))) (range_done a n l) ∙ ap (λ xs. Some xs) (append-nil vs)) ∙ h
