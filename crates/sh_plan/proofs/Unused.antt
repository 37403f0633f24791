-- Axes that split no dimension of a state, where each dimension of it is split by axes of the target's.
use Rattle.std.proofs.Common.{zero, suc, ◌≡◌, ◌≢◌, ℕ, ◌<◌, ◌==◌, Bool, true, false, ◌||◌, List, [], ◌∷◌, length, take, get_or, sym, refl, arith, inl, inr}
use Rattle.std.specs.List.{AllZip}
use Rattle.std.proofs.lemmas.Bool.{cases_Bool}
use Rattle.std.proofs.lemmas.Bool.Decides.{nat_tests}
use Rattle.std.proofs.lemmas.List.Folds.{list_any-append}
use Rattle.sh_grid.specs.Grid.{AreApart, AreAxesOf, IsNoneOf}
use Rattle.sh_grid.proofs.GroupLaws.{axes_join}
use Rattle.sh_sharding.specs.declared.shardings.Dimension.{Dimension}
use Rattle.sh_sharding.specs.Sharding.{axes_of}
use Rattle.sh_sharding.proofs.Cases.{same_or_not}
use Rattle.sh_plan.specs.Moves.{at, is_listed}

pub or_false : (a b : Bool) → a ≡ false → b ≡ false → (a || b) ≡ false
or_false false b h k = k
or_false true b h k = absurd (cc)

pub or_left : (a b : Bool) → (a || b) ≡ false → a ≡ false
or_left false b h = refl
or_left true b h = absurd (cc)

pub or_right : (a b : Bool) → (a || b) ≡ false → b ≡ false
or_right false b h = h
or_right true b h = absurd (cc)

other : (a b : ℕ) → a ≢ b → (a == b) ≡ false
other a b h = grind (arith, nat_tests)

pub same : (a : ℕ) → (a == a) ≡ true
same a = grind (arith, nat_tests)

-- an axis that is none of a list isn't listed
none_listed : (a : ℕ) (axes : List ℕ) → IsNoneOf a axes → is_listed a axes ≡ false
none_listed a [] h = refl
none_listed a (b ∷ axes) h = or_false (b == a) (is_listed a axes) (other b a (λ e. h.0 (sym e))) (none_listed a axes h.1)

-- lists that are apart share no axis
pub apart_listed : (xs ys : List ℕ) (a : ℕ) → AreApart xs ys → is_listed a xs ≡ true → is_listed a ys ≡ false
apart_listed [] ys a apart h = absurd (cc)
apart_listed (x ∷ xs) ys a apart h = elim (same_or_not x a) [
  | inl e ↦ none_listed a ys (rw e at apart.0)
  | inr ne ↦
      let first : (x == a) ≡ false = other x a ne in
      let later : is_listed a xs ≡ true = rw first at h in
      apart_listed xs ys a apart.1 later
]

-- an axis that is listed further on isn't the first
none_is_apart : (x a : ℕ) (xs : List ℕ) → IsNoneOf x xs → is_listed a xs ≡ true → (x == a) ≡ false
none_is_apart x a xs none listed = elim (same_or_not x a) [
  | inl e ↦
      let not_there : is_listed a xs ≡ false = rw e at (none_listed x xs none) in
      absurd (cc)
  | inr ne ↦ other x a ne
]

pub listed_at : (xs : List ℕ) (k : ℕ) → k < length xs → is_listed (get_or xs k 0) xs ≡ true
listed_at [] k h = absurd (omega arith)
listed_at (x ∷ xs) zero h = rw (same x) refl
listed_at (x ∷ xs) (suc k) h =
    let rest : is_listed (get_or xs k 0) xs ≡ true = listed_at xs k (omega arith) in
    by (x == get_or xs k 0) rest
  where
    by : (b : Bool) → is_listed (get_or xs k 0) xs ≡ true → (b || is_listed (get_or xs k 0) xs) ≡ true
    by true r = refl
    by false r = r

-- of distinct axes one doesn't stand before its place
pub not_before : (rank : ℕ) (xs : List ℕ) (k : ℕ) → AreAxesOf rank xs → k < length xs → is_listed (get_or xs k 0) (take k xs) ≡ false
not_before rank [] k axes h = absurd (omega arith)
not_before rank (x ∷ xs) zero axes h = refl
not_before rank (x ∷ xs) (suc k) axes h =
    or_false (x == get_or xs k 0) (is_listed (get_or xs k 0) (take k xs))
    (none_is_apart x (get_or xs k 0) xs axes.1 (listed_at xs k (omega arith)))
    (not_before rank xs k axes.2 (omega arith))

-- each dimension of a state is split by no other axes than the target's
abbrev pub IsWithin : Dimension → Dimension → Type 0
IsWithin t s = (a : ℕ) → is_listed a t.axes ≡ false → is_listed a s.axes ≡ false

-- an axis that splits no dimension of the target splits none of the state
none_within : (ts ss : List Dimension) (a : ℕ) → AllZip IsWithin ts ss → is_listed a (axes_of ts) ≡ false → is_listed a (axes_of ss) ≡ false
none_within [] [] a zip h = refl
none_within [] (s ∷ ss) a zip h = absurd zip
none_within (t ∷ ts) [] a zip h = refl
none_within (t ∷ ts) (s ∷ ss) a zip h =
    let both : (is_listed a t.axes || is_listed a (axes_of ts)) ≡ false = rw (list_any-append (λ b. b == a) t.axes (axes_of ts)) at h in
    rw (list_any-append (λ b. b == a) s.axes (axes_of ss))
    (or_false (is_listed a s.axes) (is_listed a (axes_of ss)) (zip.0 a (or_left (is_listed a t.axes) (is_listed a (axes_of ts)) both))
    (none_within ts ss a zip.1 (or_right (is_listed a t.axes) (is_listed a (axes_of ts)) both)))

-- an axis of one dimension is one of all
listed_of : (ts : List Dimension) (i a : ℕ) → is_listed a (at ts i).axes ≡ true → is_listed a (axes_of ts) ≡ true
listed_of [] i a h = absurd (cc)
listed_of (t ∷ ts) zero a h = rw (list_any-append (λ b. b == a) t.axes (axes_of ts), h) refl
listed_of (t ∷ ts) (suc i) a h = rw (list_any-append (λ b. b == a) t.axes (axes_of ts), listed_of ts i a h) (or_true (is_listed a t.axes))
  where
    or_true : (b : Bool) → (b || true) ≡ true
    or_true true = refl
    or_true false = refl

not_listed : (a : ℕ) (xs : List ℕ) → (is_listed a xs ≡ true → ⊥) → is_listed a xs ≡ false
not_listed a xs no' = elim (cases_Bool (is_listed a xs)) [
  | inl t ↦ absurd (no' t)
  | inr f ↦ f
]

-- an axis of a dimension of the target that doesn't split this dimension of the state splits none of it
pub unused : (rank : ℕ) (ts ss : List Dimension) (i a : ℕ) → AllZip IsWithin ts ss → AreAxesOf rank (axes_of ts) →
    is_listed a (at ts i).axes ≡ true → is_listed a (at ss i).axes ≡ false → is_listed a (axes_of ss) ≡ false
unused rank [] [] i a zip axes in_t not_s = refl
unused rank [] (s ∷ ss) i a zip axes in_t not_s = absurd zip
unused rank (t ∷ ts) [] i a zip axes in_t not_s = refl
unused rank (t ∷ ts) (s ∷ ss) zero a zip axes in_t not_s =
    let parts = (axes_join rank t.axes (axes_of ts)).0 axes in
    rw (list_any-append (λ b. b == a) s.axes (axes_of ss))
    (or_false (is_listed a s.axes) (is_listed a (axes_of ss)) not_s
    (none_within ts ss a zip.1 (apart_listed t.axes (axes_of ts) a parts.1 in_t)))
unused rank (t ∷ ts) (s ∷ ss) (suc i) a zip axes in_t not_s =
    let parts = (axes_join rank t.axes (axes_of ts)).0 axes in
    let not_t : is_listed a t.axes ≡ false = not_listed a t.axes (λ h.
    let gone : is_listed a (axes_of ts) ≡ false = apart_listed t.axes (axes_of ts) a parts.1 h in
    let there : is_listed a (axes_of ts) ≡ true = listed_of ts i a in_t in
    cc) in
    rw (list_any-append (λ b. b == a) s.axes (axes_of ss))
    (or_false (is_listed a s.axes) (is_listed a (axes_of ss)) (zip.0 a not_t)
    (unused rank ts ss i a zip.1 parts.2 in_t not_s))
