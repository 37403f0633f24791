-- Steps of loops over lists.
use Rattle.std.proofs.Common.{◌≡◌, ℕ, ◌+◌, ◌<◌, ◌≤◌, Bool, true, false, List, [], ◌∷◌, ◌++◌, map, length, get_or, ap, sym, ◌∙◌, take, drop}
use Rattle.std.specs.Prelude.{◌&&◌}
use Rattle.std.specs.List.{list_all}
use Rattle.std.proofs.lemmas.List.{take_more, drop_more, take_all}
use Rattle.std.proofs.Math.ListN.{drop_of_length-le}

-- one element more of a list that is copied
pub pushed : {X : Type 0} (xs old new : List X) (i : ℕ) (x d : X) → i < length xs → x ≡ get_or xs i d → old ≡ take i xs → new ≡ old ++ x ∷ [] → new ≡ take (i + 1) xs
pushed xs old new i x d l e h n = n ∙ ap (λ o. o ++ x ∷ []) h ∙ ap (λ y. take i xs ++ y ∷ []) e ∙ sym (take_more xs i d l)

pub copied : {X : Type 0} (xs new : List X) (i : ℕ) → length xs ≤ i → new ≡ take i xs → new ≡ xs
copied xs new i l h = h ∙ take_all i xs l

-- a test of all elements from a place on
pub all_next : {X Y : Type 0} (p : Y → Bool) (f : X → Y) (xs : List X) (i : ℕ) (x d : X) → i < length xs → x ≡ get_or xs i d
    → list_all p (map f (drop i xs)) ≡ (p (f x) && list_all p (map f (drop (i + 1) xs)))
all_next p f xs i x d l e = ap (λ ys. list_all p (map f ys)) (drop_more xs i d l) ∙ ap (λ y. p (f y) && list_all p (map f (drop (i + 1) xs))) (sym e)

pub all_fail : {X Y : Type 0} (p : Y → Bool) (f : X → Y) (xs : List X) (i : ℕ) (x d : X) (whole : Bool) → i < length xs → x ≡ get_or xs i d → p (f x) ≡ false
    → list_all p (map f (drop i xs)) ≡ whole → false ≡ whole
all_fail p f xs i x d whole l e fails_here h = sym (all_next p f xs i x d l e ∙ ap (λ b. b && list_all p (map f (drop (i + 1) xs))) fails_here) ∙ h

pub all_pass : {X Y : Type 0} (p : Y → Bool) (f : X → Y) (xs : List X) (i : ℕ) (x d : X) (whole : Bool) → i < length xs → x ≡ get_or xs i d → p (f x) ≡ true
    → list_all p (map f (drop i xs)) ≡ whole → list_all p (map f (drop (i + 1) xs)) ≡ whole
all_pass p f xs i x d whole l e holds h = sym (all_next p f xs i x d l e ∙ ap (λ b. b && list_all p (map f (drop (i + 1) xs))) holds) ∙ h

pub all_end : {X Y : Type 0} (p : Y → Bool) (f : X → Y) (xs : List X) (i : ℕ) (whole : Bool) → length xs ≤ i → list_all p (map f (drop i xs)) ≡ whole → true ≡ whole
all_end p f xs i whole l h = sym (ap (λ ys. list_all p (map f ys)) (drop_of_length-le xs l)) ∙ h
