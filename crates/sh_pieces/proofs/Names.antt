-- Names, their places, and the values that stand under them.
use Rattle.std.proofs.Common.{◌≡◌, ◌≢◌, ℕ, zero, suc, ◌+◌, ◌<◌, true, false, cond, List, [], ◌∷◌, ◌++◌, map, length, Option, Some, None, refl, sym, ap, ◌∙◌, subst, inl, inr, arith}
use Rattle.std.specs.Prelude.{slice_get, option_map, option_and_then, unwrap_or, filter_map, IsSome}
use Rattle.std.specs.Option.{option_or}
use Rattle.std.specs.List.{range_with_len, cons_option}
use Rattle.std.proofs.lemmas.Bool.{cases_Bool}
use Rattle.std.proofs.lemmas.Bool.Decides.{nat_tests}
use Rattle.std.proofs.lemmas.Option.{same_Some, slice_get-map}
use Rattle.sh_turns.specs.Program.{there, all_there}
use Rattle.sh_turns.proofs.Table.{get_push_before, get_push_at}
use Rattle.sh_pieces.specs.Instructions.{is_name, last_place, value_under}

pub name_is : (a b : ℕ) → is_name (Some a) b ≡ true → a ≡ b
name_is a b h = grind (arith, nat_tests)

pub name_itself : (a : ℕ) → is_name (Some a) a ≡ true
name_itself a = grind (arith, nat_tests)

pub name_other : (a b : ℕ) → a ≢ b → is_name (Some a) b ≡ false
name_other a b h = elim (cases_Bool (is_name (Some a) b)) [ inl e ↦ absurd (h (name_is a b e)) | inr e ↦ e ]

-- ---- last places

-- one name more
pub place_push : (ns : List (Option ℕ)) (n : Option ℕ) (name : ℕ)
    → last_place (ns ++ n ∷ []) name ≡ cond (is_name n name) (Some (length ns)) (last_place ns name)
place_push [] n name = refl
place_push (m ∷ ns) n name =
    let more = place_push ns n name in
    elim (cases_Bool (is_name n name)) [
      | inl b ↦ let here : last_place (ns ++ n ∷ []) name ≡ Some (length ns) = rw b at more in rw (here, b) refl
      | inr b ↦ let here : last_place (ns ++ n ∷ []) name ≡ last_place ns name = rw b at more in rw (here, b) refl
    ]

pub place_below : (ns : List (Option ℕ)) (name k : ℕ) → last_place ns name ≡ Some k → k < length ns
place_below [] name k h = cc
place_below (m ∷ ns) name k h = go (last_place ns name) (λ j e. place_below ns name j e) h
  where
    go : (o : Option ℕ) → ((j : ℕ) → o ≡ Some j → j < length ns)
        → option_or (option_map (λ k. suc k) o) (cond (is_name m name) (Some 0) None) ≡ Some k → k < suc (length ns)
    go None below h =
        elim (cases_Bool (is_name m name)) [
          | inl b ↦ let e : Some 0 ≡ Some k = rw b at h in let z : 0 ≡ k = same_Some 0 k e in omega (arith, z)
          | inr b ↦ let e : None ≡ Some k = rw b at h in cc
        ]
    go (Some j) below h = let z : suc j ≡ k = same_Some (suc j) k h in omega (arith, z, below j refl)

-- a name of a list in which each is the next
not_in_range : (a n name : ℕ) → ((k : ℕ) → k < n → a + k ≢ name) → last_place (map (λ m. Some m) (range_with_len a n)) name ≡ None
not_in_range a zero name other = refl
not_in_range a (suc n) name other =
    let first : is_name (Some a) name ≡ false = name_other a name (λ e. other 0 (omega arith) (omega (arith, e))) in
    let rest = not_in_range (a + 1) n name (λ k lt e. other (suc k) (omega arith) (omega (arith, e))) in
    rw (rest, first) refl

pub place_in_range : (a n k : ℕ) → k < n → last_place (map (λ m. Some m) (range_with_len a n)) (a + k) ≡ Some k
place_in_range a zero k lt = absurd (omega arith)
place_in_range a (suc n) zero lt =
    let same : a + 0 ≡ a = omega arith in
    let rest = not_in_range (a + 1) n a (λ k lt e. absurd (omega (arith, e))) in
    rw (same, rest, name_itself a) refl
place_in_range a (suc n) (suc k) lt =
    let same : a + suc k ≡ a + 1 + k = omega arith in
    rw (same, place_in_range (a + 1) n k (omega arith)) refl

-- ---- values

module _ {V : Type 0} where
  -- the value at a place, if it is there
  abbrev at : List (Option V) → Option ℕ → Option V
  at values place = option_and_then (λ k. unwrap_or (slice_get values k) None) place

  -- one value more under one name more
  pub value_push : (ns : List (Option ℕ)) (vs : List (Option V)) (n : Option ℕ) (v : Option V) (name : ℕ) → length ns ≡ length vs
      → value_under (ns ++ n ∷ []) (vs ++ v ∷ []) name ≡ cond (is_name n name) v (value_under ns vs name)
  value_push ns vs n v name size =
      ap (at (vs ++ v ∷ [])) (place_push ns n name)
      ∙ elim (cases_Bool (is_name n name)) [
        | inl b ↦ rw b (ap (λ o. unwrap_or o None) (get_push_at vs v (length ns) size))
        | inr b ↦ rw b (older (last_place ns name) (λ k e. place_below ns name k e))
      ]
    where
      older : (o : Option ℕ) → ((k : ℕ) → o ≡ Some k → k < length ns) → at (vs ++ v ∷ []) o ≡ at vs o
      older None below = refl
      older (Some k) below = ap (λ o. unwrap_or o None) (get_push_before vs v k (omega (arith, below k refl, size)))

  pub flat : (o : Option V) → unwrap_or (option_map (λ v. Some v) o) None ≡ o
  flat None = refl
  flat (Some v) = refl

  -- the value at a place of values that are all there
  at_there : (vs : List V) (k : ℕ) → at (there vs) (Some k) ≡ slice_get vs k
  at_there vs k = ap (λ o. unwrap_or o None) (slice_get-map (λ v. Some v) vs k) ∙ flat (slice_get vs k)

  pub value_at_place : (ns : List (Option ℕ)) (vs : List V) (name k : ℕ) → last_place ns name ≡ Some k → value_under ns (there vs) name ≡ slice_get vs k
  value_at_place ns vs name k place = ap (at (there vs)) place ∙ at_there vs k

  pub value_in_range : (n : ℕ) (vs : List V) (k : ℕ) → k < n → value_under (map (λ m. Some m) (range_with_len 0 n)) (there vs) k ≡ slice_get vs k
  value_in_range n vs k lt =
      let same : 0 + k ≡ k = omega arith in
      value_at_place (map (λ m. Some m) (range_with_len 0 n)) vs k k (subst (λ name. last_place (map (λ m. Some m) (range_with_len 0 n)) name ≡ Some k) same (place_in_range 0 n k lt))

  within : (vs : List V) (k : ℕ) → k < length vs → IsSome (slice_get vs k)
  within [] k lt = absurd (omega arith)
  within (v ∷ vs) zero lt = refl
  within (v ∷ vs) (suc k) lt = within vs k (omega arith)

  -- a name with a value is one of the names
  pub known_where_there : (ns : List (Option ℕ)) (vs : List (Option V)) (name : ℕ) → IsSome (value_under ns vs name) → IsSome (last_place ns name)
  known_where_there ns vs name h = go (last_place ns name) h
    where
      go : (o : Option ℕ) → IsSome (at vs o) → IsSome o
      go None h = cc
      go (Some k) h = refl

  -- and where all values are there, each of the names has one
  pub there_where_known : (ns : List (Option ℕ)) (vs : List V) (name : ℕ) → length ns ≡ length vs → IsSome (last_place ns name) → IsSome (value_under ns (there vs) name)
  there_where_known ns vs name size h = go (last_place ns name) (λ k e. place_below ns name k e) h
    where
      go : (o : Option ℕ) → ((k : ℕ) → o ≡ Some k → k < length ns) → IsSome o → IsSome (at (there vs) o)
      go None below h = cc
      go (Some k) below h = subst (λ (o : Option V). IsSome o) (sym (at_there vs k)) (within vs k (omega (arith, below k refl, size)))

  -- the values of names are those at their places
  pub values_at_places : (ns : List (Option ℕ)) (vs : List V) (names : List ℕ) → length ns ≡ length vs
      → ((k name : ℕ) → slice_get names k ≡ Some name → IsSome (last_place ns name))
      → all_there (map (value_under ns (there vs)) names) ≡ Some (filter_map (λ k. slice_get vs k) (filter_map (last_place ns) names))
  values_at_places ns vs [] size known = refl
  values_at_places ns vs (name ∷ names) size known =
      go (last_place ns name) (λ k e. place_below ns name k e) (known 0 name refl) (values_at_places ns vs names size (λ k other e. known (suc k) other e))
    where
      found : (k : ℕ) (o : Option V) → slice_get vs k ≡ o → IsSome o
          → all_there (map (value_under ns (there vs)) names) ≡ Some (filter_map (λ k. slice_get vs k) (filter_map (last_place ns) names))
          → all_there (at (there vs) (Some k) ∷ map (value_under ns (there vs)) names) ≡ Some (filter_map (λ k. slice_get vs k) (k ∷ filter_map (last_place ns) names))
      found k None e h more = cc
      found k (Some v) e h more =
          let here : at (there vs) (Some k) ≡ Some v = at_there vs k ∙ e in
          rw (here, e, more) refl

      go : (o : Option ℕ) → ((k : ℕ) → o ≡ Some k → k < length ns) → IsSome o
          → all_there (map (value_under ns (there vs)) names) ≡ Some (filter_map (λ k. slice_get vs k) (filter_map (last_place ns) names))
          → all_there (at (there vs) o ∷ map (value_under ns (there vs)) names) ≡ Some (filter_map (λ k. slice_get vs k) (cons_option o (filter_map (last_place ns) names)))
      go None below h more = cc
      go (Some k) below h more = found k (slice_get vs k) refl (within vs k (omega (arith, below k refl, size))) more

-- ---- values that are all there

-- the first of values that are all there, and the others
pub record IsFirst {V : Type 0} (o : Option V) (os : List (Option V)) (vs : List V) : Type 0 where
  pub first : V
  pub rest : List V
  pub here : o ≡ Some first
  pub others : all_there os ≡ Some rest
  pub whole : vs ≡ first ∷ rest

pub first_there : {V : Type 0} (o : Option V) (os : List (Option V)) (vs : List V) → all_there (o ∷ os) ≡ Some vs → IsFirst o os vs
first_there None os vs h = cc
first_there {V} (Some v) os vs h = go (all_there os) refl h
  where
    go : (r : Option (List V)) → all_there os ≡ r → option_map (λ ws. v ∷ ws) r ≡ Some vs → IsFirst (Some v) os vs
    go None e h = cc
    go (Some ws) e h = record { first = v; rest = ws; here = refl; others = e; whole = sym (same_Some (v ∷ ws) vs h) }

-- each of them, and its place
pub each_there : {X V : Type 0} (f : X → Option V) (xs : List X) (vs : List V) (k : ℕ) (x : X) → all_there (map f xs) ≡ Some vs → slice_get xs k ≡ Some x
    → (v : V) × (f x ≡ Some v) × (slice_get vs k ≡ Some v)
each_there f [] vs k x h here = cc
each_there f (y ∷ xs) vs zero x h here =
    let c = first_there (f y) (map f xs) vs h in
    (c.first, ap f (sym (same_Some y x here)) ∙ c.here, ap (λ l. slice_get l 0) c.whole)
each_there f (y ∷ xs) vs (suc k) x h here =
    let c = first_there (f y) (map f xs) vs h in
    let more = each_there f xs c.rest k x c.others here in
    (more.0, more.1, ap (λ l. slice_get l (suc k)) c.whole ∙ more.2)

in_order : {V : Type 0} (named : ℕ → Option V) (a : ℕ) (vs : List V) (n : ℕ) → length vs ≡ n → ((k : ℕ) → k < length vs → named (a + k) ≡ slice_get vs k) → all_there (map named (range_with_len a n)) ≡ Some vs
in_order named a [] zero size same = refl
in_order named a [] (suc n) size same = absurd (omega arith)
in_order named a (v ∷ vs) zero size same = absurd (omega arith)
in_order named a (v ∷ vs) (suc n) size same =
    let first : a + 0 ≡ a = omega arith in
    let here : named a ≡ Some v = subst (λ k. named k ≡ Some v) first (same 0 (omega arith)) in
    let rest : all_there (map named (range_with_len (a + 1) n)) ≡ Some vs = in_order named (a + 1) vs n (omega arith) (λ k lt. let next : a + suc k ≡ a + 1 + k = omega arith in subst (λ m. named m ≡ slice_get vs k) next (same (suc k) (omega arith))) in
    rw (here, rest) refl

-- values in order, under the names 0, 1, ..
pub rows_at_start : {V : Type 0} (n : ℕ) (vs : List V) → length vs ≡ n → all_there (map (value_under (map (λ m. Some m) (range_with_len 0 n)) (there vs)) (range_with_len 0 n)) ≡ Some vs
rows_at_start n vs size =
    in_order (value_under (map (λ m. Some m) (range_with_len 0 n)) (there vs)) 0 vs n size
    (λ k lt. let same : 0 + k ≡ k = omega arith in subst (λ m. value_under (map (λ m. Some m) (range_with_len 0 n)) (there vs) m ≡ slice_get vs k) (sym same) (value_in_range n vs k (omega (arith, lt, size))))
