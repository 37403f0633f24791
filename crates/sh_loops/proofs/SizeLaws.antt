-- The extents of loops, found operand by operand.
use Rattle.std.proofs.Common.{◌≡◌, ◌≢◌, ℕ, zero, suc, ◌+◌, ◌-◌, ◌<◌, ◌≤◌, Bool, true, false, List, [], ◌∷◌, ◌++◌, map, length, get_or, drop, Some, refl, ap, ap₂, sym, ◌∙◌, arith, inl, inr, add-one, subst}
use Rattle.std.specs.Prelude.{◌==◌, ◌&&◌, ◌⊎◌, nat_eq, unwrap_or}
use Rattle.std.specs.Cmp.Lexicographic.{pointwise}
use Rattle.std.proofs.lemmas.Bool.{cases_Bool}
use Rattle.std.proofs.lemmas.Bool.Decides.{nat_tests}
use Rattle.sh_sem.specs.Nest.{Followed, all_followed, extent_of_loop, followed}
use Rattle.std.proofs.lemmas.List.{drop_all}
use Rattle.std.proofs.lemmas.List.FromFn.{length-map-range_with_len, map-range_with_len_more}
use Rattle.sh_ir.specs.Loops.{LoopMap}
use Rattle.sh_tensor.specs.Tensor.{TensorValue}
use Rattle.sh_loops.specs.Folds.{coordinate_of}
use Rattle.sh_loops.specs.Sizes.{AreRanked, extent_by, extents_with, first_alone, has_room_for}

pub not_alone : (loops : List ℕ) (l : ℕ) → length loops ≢ 1 → pointwise nat_eq loops (l ∷ []) ≡ false
not_alone [] l h = refl
not_alone (k ∷ []) l h = absurd (h refl)
not_alone (k ∷ j ∷ loops) l h = last (nat_eq k l)
  where
    last : (b : Bool) → (b && false) ≡ false
    last true = refl
    last false = refl

pub alone : (loops : List ℕ) (l d : ℕ) → length loops ≡ 1 → pointwise nat_eq loops (l ∷ []) ≡ nat_eq (get_or loops 0 d) l
alone [] l d h = absurd (omega (arith, h))
alone (k ∷ []) l d h = last (nat_eq k l)
  where
    last : (b : Bool) → (b && true) ≡ b
    last true = refl
    last false = refl
alone (k ∷ j ∷ loops) l d h = absurd (omega (arith, h))

-- one dimension
pub first_found : (dims : List (List ℕ)) (shape : List ℕ) (i l e : ℕ) (d : List ℕ) → i < length dims → length dims ≡ length shape → pointwise nat_eq (get_or dims i d) (l ∷ []) ≡ true
    → first_alone (followed (drop i dims) (drop i shape)) l ≡ Some (get_or shape i e)
first_found [] shape i l e d lt long b = absurd (omega (arith, lt))
first_found (k ∷ dims) [] i l e d lt long b = absurd (omega (arith, long))
first_found (k ∷ dims) (n ∷ shape) zero l e d lt long b = rw b refl
first_found (k ∷ dims) (n ∷ shape) (suc i) l e d lt long b = first_found dims shape i l e d (omega (arith, lt)) (omega (arith, long)) b

first_other : (dims : List (List ℕ)) (shape : List ℕ) (i l : ℕ) (d : List ℕ) → i < length dims → length dims ≡ length shape → pointwise nat_eq (get_or dims i d) (l ∷ []) ≡ false
    → first_alone (followed (drop (suc i) dims) (drop (suc i) shape)) l ≡ first_alone (followed (drop i dims) (drop i shape)) l
first_other [] shape i l d lt long b = absurd (omega (arith, lt))
first_other (k ∷ dims) [] i l d lt long b = absurd (omega (arith, long))
first_other (k ∷ dims) (n ∷ shape) zero l d lt long b = sym (rw b refl)
first_other (k ∷ dims) (n ∷ shape) (suc i) l d lt long b = first_other dims shape i l d (omega (arith, lt)) (omega (arith, long)) b

pub next_dim : (dims : List (List ℕ)) (shape : List ℕ) (i l : ℕ) (d : List ℕ) → i < length dims → length dims ≡ length shape → pointwise nat_eq (get_or dims i d) (l ∷ []) ≡ false
    → first_alone (followed (drop (i + 1) dims) (drop (i + 1) shape)) l ≡ first_alone (followed (drop i dims) (drop i shape)) l
next_dim dims shape i l d lt long b = ap (λ n. first_alone (followed (drop n dims) (drop n shape)) l) (add-one i) ∙ first_other dims shape i l d lt long b

-- one operand
pub alone_first : (xs ys : List Followed) (l : ℕ) → extent_of_loop (xs ++ ys) l ≡ unwrap_or (first_alone xs l) (extent_of_loop ys l)
alone_first [] ys l = refl
alone_first (x ∷ xs) ys l =
    elim (cases_Bool (pointwise nat_eq x.loops (l ∷ []))) [
      | inl b ↦ rw b refl
      | inr b ↦ rw b (alone_first xs ys l)
    ]

-- ---- all operands

pub ranked_length : (maps : List LoopMap) (ts : List TensorValue) → AreRanked maps ts → length maps ≡ length ts
ranked_length [] [] h = refl
ranked_length [] (t ∷ ts) h = absurd h
ranked_length (dims ∷ maps) [] h = absurd h
ranked_length (dims ∷ maps) (t ∷ ts) h = ap suc (ranked_length maps ts h.1)

pub ranked_at : (maps : List LoopMap) (ts : List TensorValue) (i : ℕ) (d : LoopMap) (u : TensorValue) → AreRanked maps ts → i < length maps
    → length (get_or maps i d) ≡ length (get_or ts i u).shape
ranked_at [] ts i d u h l = absurd (omega (arith, l))
ranked_at (dims ∷ maps) [] i d u h l = absurd h
ranked_at (dims ∷ maps) (t ∷ ts) zero d u h l = h.0
ranked_at (dims ∷ maps) (t ∷ ts) (suc i) d u h l = ranked_at maps ts i d u h.1 (omega (arith, l))

pub extent_next : (maps : List LoopMap) (ts : List TensorValue) (i l : ℕ) (d : LoopMap) (u : TensorValue) → AreRanked maps ts → i < length maps
    → extent_by (drop i maps) (drop i ts) l ≡ unwrap_or (first_alone (followed (get_or maps i d) (get_or ts i u).shape) l) (extent_by (drop (i + 1) maps) (drop (i + 1) ts) l)
unfolding extent_by
extent_next [] ts i l d u h lt = absurd (omega (arith, lt))
extent_next (dims ∷ maps) [] i l d u h lt = absurd h
extent_next (dims ∷ maps) (t ∷ ts) zero l d u h lt = alone_first (followed dims t.shape) (all_followed maps (map (λ t. t.shape) ts)) l
extent_next (dims ∷ maps) (t ∷ ts) (suc i) l d u h lt =
    let next : suc i + 1 ≡ suc (i + 1) = omega arith in
    extent_next maps ts i l d u h.1 (omega (arith, lt))
    ∙ ap (λ n. unwrap_or (first_alone (followed (get_or maps i d) (get_or ts i u).shape) l) (extent_by (drop n (dims ∷ maps)) (drop n (t ∷ ts)) l)) (sym next)

pub no_extent : (maps : List LoopMap) (ts : List TensorValue) (i l : ℕ) → length maps ≤ i → extent_by (drop i maps) ts l ≡ 0
unfolding extent_by
no_extent maps ts i l h = ap (λ ms. extent_of_loop (all_followed ms (map (λ t. t.shape) ts)) l) (drop_all i maps h)

-- the extents so far, and all
pub extents_more : (maps : List LoopMap) (ts : List TensorValue) (n e : ℕ) (found new : List ℕ) → found ≡ extents_with maps ts n → e ≡ extent_by maps ts n → new ≡ found ++ e ∷ []
    → new ≡ extents_with maps ts (n + 1)
unfolding extents_with
extents_more maps ts n e found new h is pushed =
    pushed ∙ ap₂ (λ xs x. xs ++ x ∷ []) h is ∙ sym (map-range_with_len_more (extent_by maps ts) 0 n n (omega arith))

pub length-extents_with : (maps : List LoopMap) (ts : List TensorValue) (n : ℕ) → length (extents_with maps ts n) ≡ n
unfolding extents_with
length-extents_with maps ts n = length-map-range_with_len (extent_by maps ts) 0 n

pub no_extents : (maps : List LoopMap) (ts : List TensorValue) → [] ≡ extents_with maps ts 0
unfolding extents_with
no_extents maps ts = refl

-- ---- ranks

ranked_next : (maps : List LoopMap) (ts : List TensorValue) (i : ℕ) (d : LoopMap) (u : TensorValue) → i < length maps → length maps ≡ length ts
    → length (get_or maps i d) ≡ length (get_or ts i u).shape → AreRanked (drop (suc i) maps) (drop (suc i) ts) → AreRanked (drop i maps) (drop i ts)
ranked_next [] ts i d u l long e h = absurd (omega (arith, l))
ranked_next (dims ∷ maps) [] i d u l long e h = absurd (omega (arith, long))
ranked_next (dims ∷ maps) (t ∷ ts) zero d u l long e h = (e, h)
ranked_next (dims ∷ maps) (t ∷ ts) (suc i) d u l long e h = ranked_next maps ts i d u (omega (arith, l)) (omega (arith, long)) e h

pub ranked_back : (maps : List LoopMap) (ts : List TensorValue) (i : ℕ) (d : LoopMap) (u : TensorValue) → i < length maps → length maps ≡ length ts
    → length (get_or maps i d) ≡ length (get_or ts i u).shape → AreRanked (drop (i + 1) maps) (drop (i + 1) ts) → AreRanked (drop i maps) (drop i ts)
ranked_back maps ts i d u l long e h = ranked_next maps ts i d u l long e (subst (λ n. AreRanked (drop n maps) (drop n ts)) (add-one i) h)

pub ranked_end : (maps : List LoopMap) (ts : List TensorValue) (i : ℕ) → length maps ≤ i → length maps ≡ length ts → AreRanked (drop i maps) (drop i ts)
ranked_end maps ts i l long =
    subst (λ ms. AreRanked ms (drop i ts)) (sym (drop_all i maps l)) (subst (AreRanked []) (sym (drop_all i ts (omega (arith, l, long)))) tt)

-- ---- room

pub none_by : (n : ℕ) (b : Bool) → b ≡ (n == 0) → b ≡ true → n ≡ 0
none_by n b e t = grind (arith, nat_tests)

pub some_by : (n : ℕ) (b : Bool) → b ≡ (n == 0) → b ≡ false → n ≢ 0
some_by n b e t = grind (arith, nat_tests)

pub room_of_none : (extents loops : List ℕ) (e : ℕ) → length loops ≡ 0 → has_room_for extents loops e ≡ true
unfolding has_room_for
room_of_none extents [] e none = refl
room_of_none extents (l ∷ loops) e none = absurd (omega (arith, none))

pub room_without_points : (extents loops : List ℕ) (e d : ℕ) → length loops ≢ 1 → get_or extents (get_or loops 0 d) 0 ≡ 0 → length loops ≢ 0 → has_room_for extents loops e ≡ true
unfolding has_room_for
room_without_points extents [] e d more none some = absurd (some refl)
room_without_points extents (l ∷ []) e d more none some = absurd (more refl)
room_without_points extents (l ∷ k ∷ loops) e d more none some =
    let test : (get_or extents l 0 == 0) ≡ true = grind (arith, nat_tests) in
    let long : (suc (length loops) == 0) ≡ false = grind (arith, nat_tests) in
    rw (long, test) refl

pub room_of_points : (extents loops : List ℕ) (e d : ℕ) → length loops ≢ 0 → (length loops ≡ 1) ⊎ (get_or extents (get_or loops 0 d) 0 ≢ 0)
    → has_room_for extents loops e ≡ (e + (length loops - 1) == coordinate_of extents loops)
unfolding has_room_for coordinate_of
room_of_points extents [] e d some h = absurd (some refl)
room_of_points extents (l ∷ []) e d some h = refl
room_of_points extents (l ∷ k ∷ loops) e d some (inl one) = absurd (omega (arith, one))
room_of_points extents (l ∷ k ∷ loops) e d some (inr points) =
    let test : (get_or extents l 0 == 0) ≡ false = grind (arith, nat_tests) in
    let long : (suc (length loops) == 0) ≡ false = grind (arith, nat_tests) in
    let less : suc (suc (length loops)) - 1 ≡ suc (length loops) = omega arith in
    rw (long, test, less) refl
