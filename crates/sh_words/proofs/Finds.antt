-- What the first element that passes a test says of other tests.
use Rattle.std.proofs.Common.{◌≡◌, ◌∙◌, ◌||◌, Bool, cond, true, false, refl, sym, ap, List, [], ◌∷◌, Option, Some, None, is_some}
use Rattle.std.specs.List.{find, list_all, list_any}
use Rattle.std.proofs.lemmas.Bool.{and_parts, or_parts}

-- it passes
pub found_passes : {X : Type 0} (p : X → Bool) (xs : List X) (x : X) → find p xs ≡ Some x → p x ≡ true
found_passes p [] x h = cc
found_passes p (y ∷ ys) x h = go (p y) refl (found_passes p ys x)
  where
    go : (b : Bool) → p y ≡ b → (find p ys ≡ Some x → p x ≡ true) → p x ≡ true
    go true e later = let same : Some y ≡ Some x = sym (rw e refl) ∙ h in let is : y ≡ x = cc in ap p (sym is) ∙ e
    go false e later = later (sym (rw e refl) ∙ h)

-- it passes each test that all pass
pub found_in : {X : Type 0} (p q : X → Bool) (xs : List X) (x : X) → find p xs ≡ Some x → list_all q xs ≡ true → q x ≡ true
found_in p q [] x h all = cc
found_in p q (y ∷ ys) x h all = go (p y) refl (found_in p q ys x)
  where
    go : (b : Bool) → p y ≡ b → (find p ys ≡ Some x → list_all q ys ≡ true → q x ≡ true) → q x ≡ true
    go true e later = let same : Some y ≡ Some x = sym (rw e refl) ∙ h in let is : y ≡ x = cc in ap q (sym is) ∙ (and_parts _ _ all).0
    go false e later = later (sym (rw e refl) ∙ h) (and_parts _ _ all).1

-- it fails each test that none passes
pub found_fails : {X : Type 0} (p q : X → Bool) (xs : List X) (x : X) → find p xs ≡ Some x → list_any q xs ≡ false → q x ≡ false
found_fails p q [] x h none = cc
found_fails p q (y ∷ ys) x h none = go (p y) refl (found_fails p q ys x)
  where
    go : (b : Bool) → p y ≡ b → (find p ys ≡ Some x → list_any q ys ≡ false → q x ≡ false) → q x ≡ false
    go true e later = let same : Some y ≡ Some x = sym (rw e refl) ∙ h in let is : y ≡ x = cc in ap q (sym is) ∙ (or_parts _ _ none).0
    go false e later = later (sym (rw e refl) ∙ h) (or_parts _ _ none).1

pub find_none : {X : Type 0} (p : X → Bool) (xs : List X) → list_any p xs ≡ false → find p xs ≡ None
find_none p [] e = refl
find_none p (x ∷ xs) e = let parts = or_parts (p x) (list_any p xs) e in rw parts.0 (find_none p xs parts.1)

pub some_found : {X : Type 0} (p : X → Bool) (xs : List X) → is_some (find p xs) ≡ list_any p xs
some_found p [] = refl
some_found p (x ∷ xs) = step (p x) (some_found p xs)
  where
    step : (b : Bool) → is_some (find p xs) ≡ list_any p xs → is_some (cond b (Some x) (find p xs)) ≡ (b || list_any p xs)
    step true h = refl
    step false h = h
