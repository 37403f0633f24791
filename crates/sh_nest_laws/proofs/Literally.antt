-- The fold loop by loop is the fold over the loop points that the output's map sends to the index.
use Rattle.std.proofs.Common.{◌≡◌, ◌≢◌, ℕ, zero, suc, ◌+◌, ◌*◌, ◌<◌, ◌≤◌, Bool, true, false, List, [], ◌∷◌, ◌++◌, map, fold, get_or, length, Option, Some, None, refl, ap, ap₂, sym, ◌∙◌, arith, subst, inl, inr}
use Rattle.std.specs.Prelude.{◌==◌, ◌&&◌, nat_eq, filter, if◌then◌else◌, flat_map}
use Rattle.std.specs.List.{range_with_len, AllByRecursion, list_any}
use Rattle.std.specs.Cmp.Lexicographic.{pointwise}
use Rattle.std.proofs.lemmas.Bool.{cases_Bool, cases_eq, and_from}
use Rattle.std.proofs.lemmas.Nat.{div-mul-add, mod-mul-add}
use Rattle.sh_sharding.proofs.Cases.{and_left, and_right}
use Rattle.std.proofs.lemmas.Bool.Decides.{nat_tests}
use Rattle.std.proofs.lemmas.Option.{same_Some}
use Rattle.std.proofs.lemmas.Slice.Eq.{bytes_eq-Decides}
use Rattle.sh_base.specs.Shape.{IsIndexOf, cell_count, unflat_of}
use Rattle.sh_grid.specs.Grid.{IsNoneOf, AreAxesOf}
use Rattle.sh_ir.specs.Loops.{single}
use Rattle.sh_sem.specs.Nest.{index_at, points_of}
use Rattle.sh_nest_laws.proofs.Points.{choices, over_points, IsPoint, taken, entry_for, every_up}
use Rattle.sh_nest_laws.proofs.Totals.{fold_same, each_in_range, range_add}

-- ---- entries of points and of indices

test_itself : (x : ℕ) → (x == x) ≡ true
test_itself x = grind (arith, nat_tests)

pub test_same : (a b : ℕ) → (a == b) ≡ true → a ≡ b
test_same a b h = grind (arith, nat_tests)

pub point_entry : (extent : ℕ → ℕ) (n b : ℕ) (p : List ℕ) (i : ℕ) → IsPoint b n extent p → i < n → get_or p i 0 < extent (b + i)
point_entry extent zero b p i pt lt = absurd (omega arith)
point_entry extent (suc n) b [] i pt lt = absurd pt
point_entry extent (suc n) b (k ∷ p) zero pt lt = let e : b + 0 ≡ b = omega arith in rw e pt.0
point_entry extent (suc n) b (k ∷ p) (suc i) pt lt = let e : b + suc i ≡ suc b + i = omega arith in rw e (point_entry extent n (suc b) p i pt.1 (omega arith))

-- whether the map names the loop
abbrev pub names : List ℕ → ℕ → Bool
names m l = list_any (λ k. k == l) m

pub entry_none : (m s i : List ℕ) (l : ℕ) → length i ≡ length m → entry_for m i l ≡ None → names m l ≡ false
entry_none [] s i l long h = refl
entry_none (k ∷ m) s [] l long h = absurd (omega arith)
entry_none (k ∷ m) s (x ∷ i) l long h =
    elim (cases_Bool (k == l)) [
      | inl b ↦ let bad : Some x ≡ None = rw b at h in absurd (cc)
      | inr b ↦ let rest : entry_for m i l ≡ None = rw b at h in rw b (entry_none m s i l (omega arith) rest)
    ]

-- the entry of an index within the extents of its loops is within the extent of its loop
pub entry_within : (extent : ℕ → ℕ) (m i : List ℕ) (l x : ℕ) → IsIndexOf (map extent m) i → entry_for m i l ≡ Some x → x < extent l
entry_within extent [] i l x inside h = absurd (cc)
entry_within extent (k ∷ m) [] l x inside h = absurd inside
entry_within extent (k ∷ m) (y ∷ i) l x inside h =
    elim (cases_Bool (k == l)) [
      | inl b ↦ let e : Some y ≡ Some x = rw b at h in let same : y ≡ x = same_Some y x e in let loop : k ≡ l = test_same k l b in
          subst (λ z. z < extent l) same (subst (λ j. y < extent j) loop inside.0)
      | inr b ↦ let rest : entry_for m i l ≡ Some x = rw b at h in entry_within extent m i l x inside.1 rest
    ]

-- all points of n loops from l on, in row-major order
abbrev pub all_points : ℕ → ℕ → (ℕ → ℕ) → List (List ℕ)
all_points l zero extent = [] ∷ []
all_points l (suc n) extent = flat_map (λ k. map (λ p. k ∷ p) (all_points (suc l) n extent)) (range_with_len 0 (extent l))

-- whether the output map sends the point to the index
abbrev pub is_sent : List ℕ → List ℕ → List ℕ → Bool
is_sent out o p = pointwise nat_eq (taken out p) o

abbrev is_at : Option ℕ → ℕ → Bool
is_at None k = true
is_at (Some x) k = x == k

abbrev agrees : ℕ → (ℕ → Option ℕ) → List ℕ → Bool
agrees l fixed [] = true
agrees l fixed (k ∷ p) = is_at (fixed l) k && agrees (suc l) fixed p

filter_more : {X : Type 0} (t : X → Bool) (xs ys : List X) → filter t (xs ++ ys) ≡ filter t xs ++ filter t ys
filter_more t [] ys = refl
filter_more t (x ∷ xs) ys =
    elim (cases_Bool (t x)) [
      | inl b ↦ rw b (ap (λ zs. x ∷ zs) (filter_more t xs ys))
      | inr b ↦ rw b (filter_more t xs ys)
    ]

fold_more : {A X : Type 0} (F : A → X → A) (a : A) (xs ys : List X) → fold F a (xs ++ ys) ≡ fold F (fold F a xs) ys
fold_more F a [] ys = refl
fold_more F a (x ∷ xs) ys = fold_more F (F a x) xs ys

module _ {A : Type 0} (extent : ℕ → ℕ) (fixed : ℕ → Option ℕ) (within : (l x : ℕ) → fixed l ≡ Some x → x < extent l) where
  -- one row
  row : (l k : ℕ) (ps : List (List ℕ)) (f : List ℕ → A → A) (a : A)
      → fold (λ b p. f p b) a (filter (agrees l fixed) (map (λ p. k ∷ p) ps)) ≡ (if is_at (fixed l) k then fold (λ b p. f (k ∷ p) b) a (filter (agrees (suc l) fixed) ps) else a)
  row l k ps f a =
      elim (cases_Bool (is_at (fixed l) k)) [
        | inl b ↦ rw b (taken_row ps a b)
        | inr b ↦ rw b (no_row ps a b)
      ]
    where
      taken_row : (ps : List (List ℕ)) (a : A) → is_at (fixed l) k ≡ true → fold (λ b p. f p b) a (filter (agrees l fixed) (map (λ p. k ∷ p) ps)) ≡ fold (λ b p. f (k ∷ p) b) a (filter (agrees (suc l) fixed) ps)
      taken_row [] a b = refl
      taken_row (p ∷ ps) a b =
          elim (cases_Bool (agrees (suc l) fixed p)) [
            | inl c ↦ rw (b, c) (taken_row ps (f (k ∷ p) a) b)
            | inr c ↦ rw (b, c) (taken_row ps a b)
          ]

      no_row : (ps : List (List ℕ)) (a : A) → is_at (fixed l) k ≡ false → fold (λ b p. f p b) a (filter (agrees l fixed) (map (λ p. k ∷ p) ps)) ≡ a
      no_row [] a b = refl
      no_row (p ∷ ps) a b = rw b (no_row ps a b)

  rows : (l : ℕ) (ks : List ℕ) (ps : List (List ℕ)) (f : List ℕ → A → A) (a : A)
      → fold (λ b p. f p b) a (filter (agrees l fixed) (flat_map (λ k. map (λ p. k ∷ p) ps) ks)) ≡ fold (λ b k. if is_at (fixed l) k then fold (λ c p. f (k ∷ p) c) b (filter (agrees (suc l) fixed) ps) else b) a ks
  rows l [] ps f a = refl
  rows l (k ∷ ks) ps f a =
      ap (fold (λ b p. f p b) a) (filter_more (agrees l fixed) (map (λ p. k ∷ p) ps) (flat_map (λ k. map (λ p. k ∷ p) ps) ks))
      ∙ fold_more (λ b p. f p b) a (filter (agrees l fixed) (map (λ p. k ∷ p) ps)) (filter (agrees l fixed) (flat_map (λ k. map (λ p. k ∷ p) ps) ks))
      ∙ ap (λ z. fold (λ b p. f p b) z (filter (agrees l fixed) (flat_map (λ k. map (λ p. k ∷ p) ps) ks))) (row l k ps f a)
      ∙ rows l ks ps f (if is_at (fixed l) k then fold (λ b p. f (k ∷ p) b) a (filter (agrees (suc l) fixed) ps) else a)

  -- of a row of numbers one is taken
  none_taken : (F : A → ℕ → A) (x b n : ℕ) (a : A) → x < b → fold (λ c k. if x == k then F c k else c) a (range_with_len b n) ≡ a
  none_taken F x b zero a lt = refl
  none_taken F x b (suc n) a lt = let t : (x == b) ≡ false = grind (arith, nat_tests) in ap (λ (u : Bool). fold (λ c k. if x == k then F c k else c) (if u then F a b else a) (range_with_len (b + 1) n)) t ∙ none_taken F x (b + 1) n a (omega (arith, lt))

  one_taken : (F : A → ℕ → A) (x b n : ℕ) (a : A) → b ≤ x → x < b + n → fold (λ c k. if x == k then F c k else c) a (range_with_len b n) ≡ F a x
  one_taken F x b zero a le lt = absurd (omega (arith, le, lt))
  one_taken F x b (suc n) a le lt =
      elim (cases_eq x b) [
        | inl e ↦
            let t : (x == b) ≡ true = grind (arith, nat_tests) in
            ap (λ (u : Bool). fold (λ c k. if x == k then F c k else c) (if u then F a b else a) (range_with_len (b + 1) n)) t ∙ none_taken F x (b + 1) n (F a b) (omega (arith, e)) ∙ ap (F a) (sym e)
        | inr ne ↦
            let t : (x == b) ≡ false = grind (arith, nat_tests) in
            ap (λ (u : Bool). fold (λ c k. if x == k then F c k else c) (if u then F a b else a) (range_with_len (b + 1) n)) t ∙ one_taken F x (b + 1) n a (omega (arith, le, ne)) (omega (arith, lt))
      ]

  over_is_fold : (n l : ℕ) (f : List ℕ → A → A) (a : A) → over_points l n extent fixed f a ≡ fold (λ b p. f p b) a (filter (agrees l fixed) (all_points l n extent))
  over_is_fold zero l f a = refl
  over_is_fold (suc n) l f a = go (λ b k. over_is_fold n (suc l) (λ p. f (k ∷ p)) b) (fixed l) refl
    where
      F : A → ℕ → A
      F b k = over_points (suc l) n extent fixed (λ p. f (k ∷ p)) b

      G : A → ℕ → A
      G b k = fold (λ c p. f (k ∷ p) c) b (filter (agrees (suc l) fixed) (all_points (suc l) n extent))

      go : ((b : A) (k : ℕ) → F b k ≡ G b k) → (o : Option ℕ) → fixed l ≡ o → fold F a (choices (extent l) (fixed l)) ≡ fold (λ b p. f p b) a (filter (agrees l fixed) (all_points l (suc n) extent))
      go same None e =
          ap (λ o. fold F a (choices (extent l) o)) e
          ∙ fold_same F G a (range_with_len 0 (extent l)) (each_in_range (λ k. (b : A) → F b k ≡ G b k) 0 (extent l) (λ k le lt b. same b k))
          ∙ sym (rows l (range_with_len 0 (extent l)) (all_points (suc l) n extent) f a ∙ ap (λ o. fold (λ b k. if is_at o k then G b k else b) a (range_with_len 0 (extent l))) e)
      go same (Some x) e =
          let lt = within l x e in
          ap (λ o. fold F a (choices (extent l) o)) e
          ∙ same a x
          ∙ sym (one_taken G x 0 (extent l) a (omega arith) (omega (arith, lt)))
          ∙ sym (rows l (range_with_len 0 (extent l)) (all_points (suc l) n extent) f a ∙ ap (λ o. fold (λ b k. if is_at o k then G b k else b) a (range_with_len 0 (extent l))) e)

-- ---- the two tests

agrees_at : (fixed : ℕ → Option ℕ) (b n : ℕ) (extent : ℕ → ℕ) (p : List ℕ) (i : ℕ) → IsPoint b n extent p → agrees b fixed p ≡ true → i < n → is_at (fixed (b + i)) (get_or p i 0) ≡ true
agrees_at fixed b zero extent p i pt h lt = absurd (omega (arith, lt))
agrees_at fixed b (suc n) extent [] i pt h lt = absurd pt
agrees_at fixed b (suc n) extent (k ∷ p) zero pt h lt = let z : b + 0 ≡ b = omega arith in rw z (and_left (is_at (fixed b) k) (agrees (suc b) fixed p) h)
agrees_at fixed b (suc n) extent (k ∷ p) (suc i) pt h lt = let z : b + suc i ≡ suc b + i = omega arith in rw z (agrees_at fixed (suc b) n extent p i pt.1 (and_right (is_at (fixed b) k) (agrees (suc b) fixed p) h) (omega (arith, lt)))

agrees_all : (fixed : ℕ → Option ℕ) (b : ℕ) (p : List ℕ) → ((i : ℕ) → is_at (fixed (b + i)) (get_or p i 0) ≡ true) → agrees b fixed p ≡ true
agrees_all fixed b [] h = refl
agrees_all fixed b (k ∷ p) h =
    let z : b + 0 ≡ b = omega arith in
    and_from (is_at (fixed b) k) (agrees (suc b) fixed p) (subst (λ m. is_at (fixed m) k ≡ true) z (h 0))
    (agrees_all fixed (suc b) p (λ i. let s : b + suc i ≡ suc b + i = omega arith in subst (λ m. is_at (fixed m) (get_or p i 0) ≡ true) s (h (suc i))))

entry_taken : (out p : List ℕ) (l : ℕ) → is_at (entry_for out (taken out p) l) (get_or p l 0) ≡ true
entry_taken [] p l = refl
entry_taken (k ∷ out) p l =
    elim (cases_Bool (k == l)) [
      | inl b ↦ rw b (ap (λ m. get_or p k 0 == get_or p m 0) (sym (test_same k l b)) ∙ test_itself (get_or p k 0))
      | inr b ↦ rw b (entry_taken out p l)
    ]

-- entries at a loop that the rest of the map doesn't name
entry_other : (out o : List ℕ) (k l x : ℕ) → IsNoneOf k out → entry_for out o l ≡ Some x → (k == l) ≡ false
entry_other [] o k l x none h = absurd (cc)
entry_other (m ∷ out) [] k l x none h = absurd (cc)
entry_other (m ∷ out) (y ∷ o) k l x none h =
    elim (cases_Bool (m == l)) [
      | inl b ↦ let e : m ≡ l = test_same m l b in let ne : k ≢ m = none.0 in let r : k ≢ l = subst (λ z. k ≢ z) e ne in grind (arith, nat_tests)
      | inr b ↦ let rest : entry_for out o l ≡ Some x = rw b at h in entry_other out o k l x none.1 rest
    ]

sent_of : (n : ℕ) (p out o : List ℕ) → length o ≡ length out → AreAxesOf n out → ((l x : ℕ) → l < n → entry_for out o l ≡ Some x → x ≡ get_or p l 0) → taken out p ≡ o
sent_of n p [] [] long axes h = refl
sent_of n p [] (y ∷ o) long axes h = absurd (omega (arith, long))
sent_of n p (k ∷ out) [] long axes h = absurd (omega (arith, long))
sent_of n p (k ∷ out) (y ∷ o) long axes h =
    let here : entry_for (k ∷ out) (y ∷ o) k ≡ Some y = rw (test_itself k) refl in
    ap₂ (λ z zs. z ∷ zs) (sym (h k y axes.0 here))
    (sent_of n p out o (omega (arith, long)) axes.2 (λ l x lt e. h l x lt (rw (entry_other out o k l x axes.1 e) e)))

same_tests : (n : ℕ) (extent : ℕ → ℕ) (out o p : List ℕ) → length o ≡ length out → AreAxesOf n out → IsPoint 0 n extent p → agrees 0 (entry_for out o) p ≡ is_sent out o p
same_tests n extent out o p long axes pt =
    elim (cases_Bool (agrees 0 (entry_for out o) p)) [
      | inl b ↦
          b ∙ sym ((bytes_eq-Decides (taken out p) o).1 (sent_of n p out o long axes
          (λ l x lt e.
          let z : 0 + l ≡ l = omega arith in
          let at_l : is_at (entry_for out o l) (get_or p l 0) ≡ true = subst (λ m. is_at (entry_for out o m) (get_or p l 0) ≡ true) z (agrees_at (entry_for out o) 0 n extent p l pt b lt) in
          let test : (x == get_or p l 0) ≡ true = subst (λ o. is_at o (get_or p l 0) ≡ true) e at_l in
          test_same x (get_or p l 0) test)))
      | inr b ↦
          elim (cases_Bool (is_sent out o p)) [
            | inl s ↦
                let is : taken out p ≡ o = (bytes_eq-Decides (taken out p) o).0 s in
                let all : agrees 0 (entry_for out o) p ≡ true = agrees_all (entry_for out o) 0 p (λ i. let z : 0 + i ≡ i = omega arith in subst (λ q. is_at (entry_for out q (0 + i)) (get_or p i 0) ≡ true) is (rw z (entry_taken out p i))) in
                let bad : true ≡ false = sym all ∙ b in
                absurd (cc)
            | inr s ↦ b ∙ sym s
          ]
    ]

same_filter : {X : Type 0} (t u : X → Bool) (xs : List X) → AllByRecursion (λ x. t x ≡ u x) xs → filter t xs ≡ filter u xs
same_filter t u [] h = refl
same_filter t u (x ∷ xs) h = ap₂ (λ (b : Bool) ys. if b then x ∷ ys else ys) h.0 (same_filter t u xs h.1)

each_more : {X : Type 0} (P : X → Type 0) (xs ys : List X) → AllByRecursion P xs → AllByRecursion P ys → AllByRecursion P (xs ++ ys)
each_more P [] ys h k = k
each_more P (x ∷ xs) ys h k = (h.0, each_more P xs ys h.1 k)

are_points : (n l : ℕ) (extent : ℕ → ℕ) → AllByRecursion (IsPoint l n extent) (all_points l n extent)
are_points zero l extent = (tt, tt)
are_points (suc n) l extent = go (range_with_len 0 (extent l)) (each_in_range (λ k. k < extent l) 0 (extent l) (λ k le lt. omega (arith, lt))) (are_points n (suc l) extent)
  where
    each_row : (k : ℕ) → k < extent l → (ps : List (List ℕ)) → AllByRecursion (IsPoint (suc l) n extent) ps → AllByRecursion (IsPoint l (suc n) extent) (map (λ p. k ∷ p) ps)
    each_row k lt [] h = tt
    each_row k lt (p ∷ ps) h = ((lt, h.0), each_row k lt ps h.1)

    go : (ks : List ℕ) → AllByRecursion (λ k. k < extent l) ks → AllByRecursion (IsPoint (suc l) n extent) (all_points (suc l) n extent)
        → AllByRecursion (IsPoint l (suc n) extent) (flat_map (λ k. map (λ p. k ∷ p) (all_points (suc l) n extent)) ks)
    go [] h ps = tt
    go (k ∷ ks) h ps = each_more (IsPoint l (suc n) extent) (map (λ p. k ∷ p) (all_points (suc l) n extent)) (flat_map (λ k. map (λ p. k ∷ p) (all_points (suc l) n extent)) ks) (each_row k h.0 (all_points (suc l) n extent) ps) (go ks h.1 ps)

-- Over the loop points that the output map sends to o, in row-major order.
pub literally : {A : Type 0} (n : ℕ) (extent : ℕ → ℕ) (out o : List ℕ) → AreAxesOf n out → length o ≡ length out → IsIndexOf (map extent out) o → (f : List ℕ → A → A) (a : A)
    → over_points 0 n extent (entry_for out o) f a ≡ fold (λ b p. f p b) a (filter (is_sent out o) (all_points 0 n extent))
literally n extent out o axes long inside f a =
    over_is_fold extent (entry_for out o) (λ l x e. entry_within extent out o l x inside e) n 0 f a
    ∙ ap (fold (λ b p. f p b) a) (same_filter (agrees 0 (entry_for out o)) (is_sent out o) (all_points 0 n extent)
    (every_up (IsPoint 0 n extent) (λ p. agrees 0 (entry_for out o) p ≡ is_sent out o p) (all_points 0 n extent) (λ p pt. same_tests n extent out o p long axes pt) (are_points n 0 extent)))

-- ---- all points by their row-major numbers

range_from : (a n : ℕ) → range_with_len a n ≡ map (λ r. a + r) (range_with_len 0 n)
range_from a n = let z : a + 0 ≡ a = omega arith in ap (λ b. range_with_len b n) (sym z) ∙ go a 0 n
  where
    go : (a b n : ℕ) → range_with_len (a + b) n ≡ map (λ r. a + r) (range_with_len b n)
    go a b zero = refl
    go a b (suc n) =
        let s : a + b + 1 ≡ a + (b + 1) = omega arith in
        ap (λ (xs : List ℕ). (a + b) ∷ xs) (ap (λ m. range_with_len m n) s ∙ go a (b + 1) n)

-- the numbers below a product, row by row
pub range_product : (m n : ℕ) → range_with_len 0 (m * n) ≡ flat_map (λ q. map (λ r. q * n + r) (range_with_len 0 n)) (range_with_len 0 m)
range_product m n = let none : 0 * n ≡ 0 = omega arith in ap (λ a. range_with_len a (m * n)) (sym none) ∙ go 0 m
  where
    go : (a m : ℕ) → range_with_len (a * n) (m * n) ≡ flat_map (λ q. map (λ r. q * n + r) (range_with_len 0 n)) (range_with_len a m)
    go a zero = let none : 0 * n ≡ 0 = omega arith in ap (range_with_len (a * n)) none
    go a (suc m) =
        let more : suc m * n ≡ n + m * n = grind arith in
        let next : a * n + n ≡ (a + 1) * n = grind arith in
        ap (range_with_len (a * n)) more
        ∙ range_add (a * n) n (m * n)
        ∙ ap₂ (λ xs b. xs ++ range_with_len b (m * n)) (range_from (a * n) n) next
        ∙ ap (λ ys. map (λ r. a * n + r) (range_with_len 0 n) ++ ys) (go (a + 1) m)

pub map_flat : {X Y Z : Type 0} (h : Y → Z) (f : X → List Y) (xs : List X) → map h (flat_map f xs) ≡ flat_map (λ x. map h (f x)) xs
map_flat {X} {Y} {Z} h f [] = refl
map_flat {X} {Y} {Z} h f (x ∷ xs) = more (f x) (flat_map f xs) ∙ ap (λ zs. map h (f x) ++ zs) (map_flat h f xs)
  where
    more : (ys zs : List Y) → map h (ys ++ zs) ≡ map h ys ++ map h zs
    more [] zs = refl
    more (y ∷ ys) zs = ap (λ us. h y ∷ us) (more ys zs)

pub flat_same : {X Y : Type 0} (f g : X → List Y) (xs : List X) → AllByRecursion (λ x. f x ≡ g x) xs → flat_map f xs ≡ flat_map g xs
flat_same f g [] h = refl
flat_same f g (x ∷ xs) h = ap₂ (λ a b. a ++ b) h.0 (flat_same f g xs h.1)

pub map_each : {X Y : Type 0} (f g : X → Y) (xs : List X) → AllByRecursion (λ x. f x ≡ g x) xs → map f xs ≡ map g xs
map_each f g [] h = refl
map_each f g (x ∷ xs) h = ap₂ (λ a b. a ∷ b) h.0 (map_each f g xs h.1)

pub map_map : {X Y Z : Type 0} (f : Y → Z) (h : X → Y) (xs : List X) → map f (map h xs) ≡ map (λ x. f (h x)) xs
map_map f h [] = refl
map_map f h (x ∷ xs) = ap (λ ys. f (h x) ∷ ys) (map_map f h xs)

points_row : (n : ℕ) (ns : List ℕ) → points_of (n ∷ ns) ≡ flat_map (λ k. map (λ p. k ∷ p) (points_of ns)) (range_with_len 0 n)
points_row n ns =
    let c = cell_count ns in
    ap (map (unflat_of (n ∷ ns))) (range_product n c)
    ∙ map_flat (unflat_of (n ∷ ns)) (λ q. map (λ r. q * c + r) (range_with_len 0 c)) (range_with_len 0 n)
    ∙ flat_same (λ q. map (unflat_of (n ∷ ns)) (map (λ r. q * c + r) (range_with_len 0 c))) (λ k. map (λ p. k ∷ p) (points_of ns)) (range_with_len 0 n)
    (each_in_range _ 0 n (λ q low lt.
    map_map (unflat_of (n ∷ ns)) (λ r. q * c + r) (range_with_len 0 c)
    ∙ map_each (λ r. unflat_of (n ∷ ns) (q * c + r)) (λ r. q ∷ unflat_of ns r) (range_with_len 0 c)
    (each_in_range _ 0 c (λ r low below. ap₂ (λ a b. a ∷ unflat_of ns b) (div-mul-add q c r (omega (arith, below))) (mod-mul-add q c r (omega (arith, below)))))
    ∙ sym (map_map (λ p. q ∷ p) (unflat_of ns) (range_with_len 0 c))))

pub points_are : (n l : ℕ) (extent : ℕ → ℕ) → points_of (map extent (range_with_len l n)) ≡ all_points l n extent
points_are zero l extent = refl
points_are (suc n) l extent =
    let s : l + 1 ≡ suc l = omega arith in
    points_row (extent l) (map extent (range_with_len (l + 1) n))
    ∙ ap (λ ps. flat_map (λ k. map (λ p. k ∷ p) ps) (range_with_len 0 (extent l))) (ap (λ m. points_of (map extent (range_with_len m n))) s ∙ points_are n (suc l) extent)

-- ---- a map of single loops

pub index_is_taken : (dims p : List ℕ) → index_at (single dims) p ≡ taken dims p
index_is_taken [] p = refl
index_is_taken (l ∷ dims) p = let z : 0 + get_or p l 0 ≡ get_or p l 0 = omega arith in ap₂ (λ x xs. x ∷ xs) z (index_is_taken dims p)

-- the loop points that a map of single loops sends to an index, in row-major order
pub over_sent : {A : Type 0} (n : ℕ) (extent : ℕ → ℕ) (out o : List ℕ) → AreAxesOf n out → length o ≡ length out → IsIndexOf (map extent out) o → (f : List ℕ → A → A) (a : A)
    → fold (λ b p. f p b) a (filter (λ p. pointwise nat_eq (index_at (single out) p) o) (points_of (map extent (range_with_len 0 n)))) ≡ over_points 0 n extent (entry_for out o) f a
over_sent n extent out o axes long inside f a =
    ap₂ (λ t ps. fold (λ b p. f p b) a (filter t ps)) (λ i p. pointwise nat_eq (index_is_taken out p i) o) (points_are n 0 extent)
    ∙ sym (literally n extent out o axes long inside f a)
