-- What the tests of `specs/Predictive` tell.
use Rattle.std.proofs.Common.{◌≡◌, ℕ, zero, suc, Bool, true, false, cond, List, [], ◌∷◌, ◌++◌, refl, ◌⊎◌, inl, inr, subst, Some}
use Rattle.std.specs.Prelude.{slice_get}
use Rattle.std.proofs.lemmas.Bool.{eqb-true}
use Rattle.sh_grammar.specs.Predictive.{has, each, some, ◌&◌, ◌or◌, only_if}

pub and_both : (a b : Bool) → (a & b) ≡ true → (a ≡ true) × (b ≡ true)
unfolding ◌&◌
and_both true b e = (refl, e)
and_both false b e = (e, cc)

pub implied : (a b : Bool) → only_if a b ≡ true → a ≡ true → b ≡ true
unfolding only_if
implied true b e h = e
implied false b e h = cc

pub or_left : (a b : Bool) → a ≡ true → (a or b) ≡ true
unfolding ◌or◌
or_left true b e = refl
or_left false b e = cc

pub or_right : (a b : Bool) → b ≡ true → (a or b) ≡ true
unfolding ◌or◌
or_right true b e = refl
or_right false b e = e

pub or_either : (a b : Bool) → (a or b) ≡ true → (a ≡ true) ⊎ (b ≡ true)
unfolding ◌or◌
or_either true b e = inl refl
or_either false b e = inr e

pub has_either : (xs ys : List ℕ) (c : ℕ) → has (xs ++ ys) c ≡ true → (has xs c ≡ true) ⊎ (has ys c ≡ true)
has_either [] ys c h = inr h
has_either (x ∷ xs) ys c h = elim (or_either _ _ h) [
  | inl k ↦ inl (or_left _ _ k)
  | inr k ↦ elim (has_either xs ys c k) [ inl j ↦ inl (or_right _ _ j) | inr j ↦ inr j ]
]

pub has_left : (xs ys : List ℕ) (c : ℕ) → has xs c ≡ true → has (xs ++ ys) c ≡ true
has_left [] ys c h = cc
has_left (x ∷ xs) ys c h = elim (or_either _ _ h) [
  | inl k ↦ or_left _ _ k
  | inr k ↦ or_right _ _ (has_left xs ys c k)
]

pub has_right : (xs ys : List ℕ) (c : ℕ) → has ys c ≡ true → has (xs ++ ys) c ≡ true
has_right [] ys c h = h
has_right (x ∷ xs) ys c h = or_right _ _ (has_right xs ys c h)

pub each_has : (p : ℕ → Bool) (xs : List ℕ) (c : ℕ) → each p xs ≡ true → has xs c ≡ true → p c ≡ true
each_has p [] c e h = cc
each_has p (x ∷ xs) c e h =
    let both = and_both _ _ e in
    elim (or_either _ _ h) [
      | inl k ↦ let P : ℕ → Type 0 = λ y. p y ≡ true in subst P (eqb-true x c k) both.0
      | inr k ↦ each_has p xs c both.1 k
    ]

-- what passes of each item passes of the one at a place
pub each_at : {X : Type 0} (p : X → Bool) (xs : List X) (i : ℕ) (x : X) → each p xs ≡ true → slice_get xs i ≡ Some x → p x ≡ true
each_at p [] i x e at = cc
each_at p (y ∷ xs) zero x e at = let same : y ≡ x = cc in rw (← same) (and_both _ _ e).0
each_at p (y ∷ xs) (suc i) x e at = each_at p xs i x (and_both _ _ e).1 at

pub record SomeAt {X : Type 0} (p : X → Bool) (xs : List X) : Type 0 where
  pub i : ℕ
  pub item : X
  pub at : slice_get xs i ≡ Some item
  pub passes : p item ≡ true

pub some_at : {X : Type 0} (p : X → Bool) (xs : List X) → some p xs ≡ true → SomeAt p xs
some_at p [] e = cc
some_at p (x ∷ xs) e = elim (or_either _ _ e) [
  | inl k ↦ record { i = 0; item = x; at = refl; passes = k }
  | inr k ↦ let s = some_at p xs k in record { i = suc s.i; item = s.item; at = s.at; passes = s.passes }
]

pub and_true : (a b : Bool) → a ≡ true → b ≡ true → (a & b) ≡ true
unfolding ◌&◌
and_true true b e h = h
and_true false b e h = e

pub has_cond : (b : Bool) (xs ys : List ℕ) (c : ℕ) → has (xs ++ cond b ys []) c ≡ true → (has xs c ≡ true) ⊎ ((b ≡ true) × (has ys c ≡ true))
has_cond true xs ys c h = elim (has_either xs ys c h) [ inl k ↦ inl k | inr k ↦ inr (refl, k) ]
has_cond false xs ys c h = elim (has_either xs [] c h) [ inl k ↦ inl k | inr k ↦ cc ]

pub has_cond_right : (b : Bool) (xs ys : List ℕ) (c : ℕ) → b ≡ true → has ys c ≡ true → has (xs ++ cond b ys []) c ≡ true
has_cond_right true xs ys c e h = has_right xs ys c h
has_cond_right false xs ys c e h = cc
