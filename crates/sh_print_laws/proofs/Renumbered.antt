-- Words that are numbered by first occurrence are told by which of them are the same.
use Rattle.std.proofs.Common.{◌≡◌, ◌∙◌, inl, inr, ◌<◌, ◌≤◌, ◌+◌, ◌^◌, ℕ, suc, true, nat_le, nat_lt, List, [], ◌∷◌, ◌++◌, map, drop, None, refl, ap, sym, subst, arith, ltb-true, ltb-false}
use Rattle.std.specs.Prelude.{max}
use Rattle.std.specs.List.{AllByRecursion, list_all}
use Rattle.std.proofs.lemmas.Bool.{cases_Bool, leb-true}
use Rattle.std.proofs.lemmas.Fmt.{decimal_injective}
use Rattle.std.proofs.lemmas.List.{map-append}
use Rattle.sh_ir.specs.Formed.{are_numbered, is_numbered}
use Rattle.sh_ir.specs.declared.linalg_ops.AffineMap.{AffineMap}
use Rattle.sh_names.specs.Names.{Owned}
use Rattle.sh_names.specs.declared.scopes.Role.TheVariants as role
use Rattle.sh_print_laws.proofs.MapForms.{AreMapsOf, SmallMap, word_number, word_of}
use Rattle.sh_print_laws.proofs.Standing.{Spot, owned}
use Rattle.sh_print_laws.proofs.Tests.{and_parts}

abbrev AreSmall : List ℕ → Type 0
AreSmall ns = AllByRecursion (λ n. n < 2 ^ 64) ns

max_old : (next n : ℕ) → n < next → max next (n + 1) ≡ next
max_old next n h = grind arith

max_new : (next n : ℕ) → n ≡ next → max next (n + 1) ≡ suc next
max_new next n h = grind arith

module _ (w : ℕ → ℕ) (apart : (a b : ℕ) → a < 2 ^ 64 → b < 2 ^ 64 → w a ≡ w b → a ≡ b) where
  abbrev IsFixed : ℕ → Type 0
  IsFixed next = (i : ℕ) → i < next → w i ≡ i

  -- a word of a new number has no smaller one
  kept_new : (next n : ℕ) → IsFixed next → n ≡ next → n < 2 ^ 64 → w n ≤ next → w n ≡ n
  kept_new next n fixed same small low = elim (cases_Bool (nat_lt (w n) next)) [
    | inl e ↦ let less : w n < next = ltb-true (w n) next e in apart (w n) n (omega arith) small (fixed (w n) less)
    | inr e ↦ let least : next ≤ w n = ltb-false (w n) next e in omega arith
  ]

  fixed_more : (next n : ℕ) → IsFixed next → n ≡ next → w n ≡ n → IsFixed (suc next)
  fixed_more next n fixed same is i h = elim (cases_Bool (nat_lt i next)) [
    | inl e ↦ fixed i (ltb-true i next e)
    | inr e ↦ let at : next ≤ i = ltb-false i next e in let here : n ≡ i = omega arith in subst (λ k. w k ≡ k) here is
  ]

  renumbered : (next : ℕ) (ns : List ℕ) → IsFixed next → are_numbered next ns ≡ true → are_numbered next (map w ns) ≡ true → AreSmall ns → map w ns ≡ ns
  renumbered next [] fixed h g small = refl
  renumbered next (n ∷ ns) fixed h g small =
      let a = and_parts (nat_le n next) (are_numbered (max next (n + 1)) ns) h in
      let b = and_parts (nat_le (w n) next) (are_numbered (max next (w n + 1)) (map w ns)) g in
      elim (cases_Bool (nat_lt n next)) [
        | inl e ↦ let old : n < next = ltb-true n next e in
            let is : w n ≡ n = fixed n old in
            let behind : are_numbered next ns ≡ true = ap (λ k. are_numbered k ns) (sym (max_old next n old)) ∙ a.1 in
            let mapped : are_numbered next (map w ns) ≡ true = ap (λ k. are_numbered k (map w ns)) (sym (ap (λ k. max next (k + 1)) is ∙ max_old next n old)) ∙ b.1 in
            rw (is, renumbered next ns fixed behind mapped small.1) refl
        | inr e ↦ let least : next ≤ n = ltb-false n next e in
            let most : n ≤ next = leb-true n next a.0 in
            let low : w n ≤ next = leb-true (w n) next b.0 in
            let at : n ≡ next = omega arith in
            let is : w n ≡ n = kept_new next n fixed at small.0 low in
            let behind : are_numbered (suc next) ns ≡ true = ap (λ k. are_numbered k ns) (sym (max_new next n at)) ∙ a.1 in
            let mapped : are_numbered (suc next) (map w ns) ≡ true = ap (λ k. are_numbered k (map w ns)) (sym (ap (λ k. max next (k + 1)) is ∙ max_new next n at)) ∙ b.1 in
            rw (is, renumbered (suc next) ns (fixed_more next n fixed at is) behind mapped small.1) refl
      ]

both_same : (w : ℕ → ℕ) (xs ys : List ℕ) → map w xs ++ map w ys ≡ xs ++ ys → (map w xs ≡ xs) × (map w ys ≡ ys)
both_same w [] ys e = (refl, e)
both_same w (x ∷ xs) ys e =
    let head : w x ≡ x = cc in
    let tail : map w xs ++ map w ys ≡ xs ++ ys = cc in
    let more = both_same w xs ys tail in (rw (head, more.0) refl, more.1)

each_small : (xs ys : List ℕ) → AreSmall xs → AreSmall ys → AreSmall (xs ++ ys)
each_small [] ys h g = g
each_small (x ∷ xs) ys h g = (h.0, each_small xs ys h.1 g)

module _ (v : Owned → ℕ) (apart : (x y : Owned) → x.unit ≡ y.unit → v x ≡ v y → x ≡ y) (s : Spot) (none : s.at ≡ role.Nothing) where
  words_apart : (k a b : ℕ) → a < 2 ^ 64 → b < 2 ^ 64 → word_number v s none k a ≡ word_number v s none k b → a ≡ b
  words_apart k a b small low e =
      let one = apart (owned k None (word_of a)) (owned k None (word_of b)) refl e in
      decimal_injective a b small low (ap (λ x. drop 1 x.text) one)

  map_same : (k : ℕ) (x : AffineMap) → SmallMap x → is_numbered x ≡ true
      → is_numbered (record { loops = map (word_number v s none k) x.loops; results = map (word_number v s none k) x.results }) ≡ true
      → record { loops = map (word_number v s none k) x.loops; results = map (word_number v s none k) x.results } ≡ x
  map_same k x small h g =
      let w : ℕ → ℕ = word_number v s none k in
      let all : map w (x.loops ++ x.results) ≡ x.loops ++ x.results =
      renumbered w (words_apart k) 0 (x.loops ++ x.results) (λ i less. absurd (omega arith)) h (ap (are_numbered 0) (map-append w x.loops x.results) ∙ g) (each_small x.loops x.results small.0 small.1) in
      let parts = both_same w x.loops x.results (sym (map-append w x.loops x.results) ∙ all) in rw (parts.0, parts.1) refl

  pub maps_same : (xs ys : List AffineMap) → AreMapsOf v s none xs ys → AllByRecursion SmallMap xs → list_all is_numbered xs ≡ true → list_all is_numbered ys ≡ true → ys ≡ xs
  maps_same [] [] are small h g = refl
  maps_same [] (y ∷ ys) are small h g = absurd are
  maps_same (x ∷ xs) [] are small h g = absurd are
  maps_same (x ∷ xs) (y ∷ ys) are small h g =
      let a = and_parts (is_numbered x) (list_all is_numbered xs) h in
      let b = and_parts (is_numbered y) (list_all is_numbered ys) g in
      let first : y ≡ x = are.0.1 ∙ map_same are.0.0 x small.0 a.0 (ap is_numbered (sym are.0.1) ∙ b.0) in
      ap (λ z. z ∷ ys) first ∙ ap (λ zs. x ∷ zs) (maps_same xs ys are.1 small.1 a.1 b.1)
