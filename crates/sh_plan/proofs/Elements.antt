-- What is an element of a list, by recursion on the list.
use Rattle.std.proofs.Common.{zero, suc, ◌≡◌, ◌⊎◌, ℕ, ◌+◌, ◌<◌, ◌≤◌, Bool, true, false, cond, List, [], ◌∷◌, ◌++◌, map, refl, arith, inl, inr}
use Rattle.std.specs.Prelude.{Contains, filter}
use Rattle.std.specs.List.{flat_map, range_with_len}
use Rattle.std.proofs.lemmas.List.Elements.{Contains-append_right}
use Rattle.sh_sharding.proofs.Cases.{same_or_not}

abbrev pub IsIn : {X : Type 0} → X → List X → Type 0
IsIn x [] = ⊥
IsIn x (y ∷ ys) = (x ≡ y) ⊎ IsIn x ys

pub contained : {X : Type 0} (x : X) (xs : List X) → IsIn x xs → Contains xs x
contained x [] h = absurd h
contained x (y ∷ ys) (inl e) = rw e (0, omega arith, refl)
contained x (y ∷ ys) (inr h) = Contains-append_right (y ∷ []) ys x (contained x ys h)

pub in_left : {X : Type 0} (x : X) (xs ys : List X) → IsIn x xs → IsIn x (xs ++ ys)
in_left x [] ys h = absurd h
in_left x (z ∷ xs) ys (inl e) = inl e
in_left x (z ∷ xs) ys (inr h) = inr (in_left x xs ys h)

pub in_right : {X : Type 0} (x : X) (xs ys : List X) → IsIn x ys → IsIn x (xs ++ ys)
in_right x [] ys h = h
in_right x (z ∷ xs) ys h = inr (in_right x xs ys h)

pub in_map : {X Y : Type 0} (f : X → Y) (x : X) (xs : List X) → IsIn x xs → IsIn (f x) (map f xs)
in_map f x [] h = absurd h
in_map f x (y ∷ ys) (inl e) = rw e (inl refl)
in_map f x (y ∷ ys) (inr h) = inr (in_map f x ys h)

pub in_flat_map : {X Y : Type 0} (f : X → List Y) (x : X) (y : Y) (xs : List X) → IsIn x xs → IsIn y (f x) → IsIn y (flat_map f xs)
in_flat_map f x y [] h k = absurd h
in_flat_map f x y (z ∷ xs) (inl e) k = in_left y (f z) (flat_map f xs) (rw (← e) k)
in_flat_map f x y (z ∷ xs) (inr h) k = in_right y (f z) (flat_map f xs) (in_flat_map f x y xs h k)

pub in_range : (a n i : ℕ) → a ≤ i → i < a + n → IsIn i (range_with_len a n)
in_range a zero i low high = absurd (omega arith)
in_range a (suc n) i low high = elim (same_or_not i a) [
  | inl e ↦ inl e
  | inr ne ↦ inr (in_range (a + 1) n i (omega arith) (omega arith))
]

kept : {X : Type 0} (b : Bool) (x y : X) (ys : List X) → IsIn x ys → IsIn x (cond b (y ∷ ys) ys)
kept true x y ys h = inr h
kept false x y ys h = h

pub in_filter : {X : Type 0} (p : X → Bool) (x : X) (xs : List X) → p x ≡ true → IsIn x xs → IsIn x (filter p xs)
in_filter p x [] passes h = absurd h
in_filter p x (y ∷ ys) passes (inl e) = let first : p y ≡ true = rw (← e) passes in rw first (inl e)
in_filter p x (y ∷ ys) passes (inr h) = kept (p y) x y (filter p ys) (in_filter p x ys passes h)
