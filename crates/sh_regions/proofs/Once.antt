-- Each name once: one more name.
use Rattle.std.proofs.Common.{◌≡◌, ℕ, List, [], ◌∷◌, ◌++◌, Bool, true, false, not, ◌||◌, cond, nat_eq, filter, refl, ap, sym, ◌∙◌, arith}
use Rattle.std.proofs.lemmas.Grind.{common_steps}
use Rattle.indexmap.specs.IndexSet.{insert_key}
use Rattle.sh_ir.specs.Regions.{first_occurrences, is_among}

-- the others
abbrev without : ℕ → List ℕ → List ℕ
without y names = filter (λ other. not (nat_eq y other)) names

without_same : (y x : ℕ) (ks : List ℕ) → nat_eq y x ≡ true → without y (ks ++ x ∷ []) ≡ without y ks
without_same y x [] e = rw e refl
without_same y x (k ∷ ks) e =
    ap (λ rest. cond (not (nat_eq y k)) (k ∷ rest) rest) (without_same y x ks e)

without_other : (y x : ℕ) (ks : List ℕ) → nat_eq y x ≡ false → without y (ks ++ x ∷ []) ≡ without y ks ++ x ∷ []
without_other y x [] e = rw e refl
without_other y x (k ∷ ks) e =
    ap (λ rest. cond (not (nat_eq y k)) (k ∷ rest) rest) (without_other y x ks e)
    ∙ pushed (not (nat_eq y k))
  where
    pushed : (b : Bool) → cond b (k ∷ (without y ks ++ x ∷ [])) (without y ks ++ x ∷ [])
        ≡ cond b (k ∷ without y ks) (without y ks) ++ x ∷ []
    pushed true = refl
    pushed false = refl

among_one : (y x k : ℕ) (ks : List ℕ) (b : Bool) → nat_eq x y ≡ false → nat_eq y k ≡ b
    → is_among (without y ks) x ≡ is_among ks x
    → is_among (cond (not b) (k ∷ without y ks) (without y ks)) x ≡ (nat_eq x k || is_among ks x)
among_one y x k ks false e n rest = ap (λ b. nat_eq x k || b) rest
among_one y x k ks true e n rest =
    let same : nat_eq x k ≡ false = grind (arith, common_steps) in rw same rest

among_without : (y x : ℕ) (ks : List ℕ) → nat_eq x y ≡ false → is_among (without y ks) x ≡ is_among ks x
among_without y x [] e = refl
among_without y x (k ∷ ks) e = among_one y x k ks (nat_eq y k) e refl (among_without y x ks e)

inserted_same : (y x : ℕ) (ks : List ℕ) (found : Bool) → nat_eq y x ≡ true
    → without y (cond found ks (ks ++ x ∷ [])) ≡ without y ks
inserted_same y x ks true e = refl
inserted_same y x ks false e = without_same y x ks e

inserted_other : (y x : ℕ) (ks : List ℕ) (found : Bool) → nat_eq y x ≡ false
    → y ∷ without y (cond found ks (ks ++ x ∷ [])) ≡ cond found (y ∷ without y ks) (y ∷ (without y ks ++ x ∷ []))
inserted_other y x ks true e = refl
inserted_other y x ks false e = ap (λ rest. y ∷ rest) (without_other y x ks e)

one_inserted : (y x : ℕ) (ks : List ℕ) (b : Bool) → nat_eq x y ≡ b
    → y ∷ without y (insert_key nat_eq ks x) ≡ cond (b || is_among (without y ks) x) (y ∷ without y ks) (y ∷ (without y ks ++ x ∷ []))
one_inserted y x ks true n =
    let other : nat_eq y x ≡ true = grind (arith, common_steps) in
    ap (λ rest. y ∷ rest) (inserted_same y x ks (is_among ks x) other)
one_inserted y x ks false n =
    let other : nat_eq y x ≡ false = grind (arith, common_steps) in
    inserted_other y x ks (is_among ks x) other
    ∙ ap (λ found. cond found (y ∷ without y ks) (y ∷ (without y ks ++ x ∷ []))) (sym (among_without y x ks n))

-- one name more
pub one_name : (xs : List ℕ) (x : ℕ) → first_occurrences (xs ++ x ∷ []) ≡ insert_key nat_eq (first_occurrences xs) x
one_name [] x = refl
one_name (y ∷ ys) x =
    ap (λ names. y ∷ without y names) (one_name ys x)
    ∙ one_inserted y x (first_occurrences ys) (nat_eq x y) refl

-- the same of lists that are kept side by side
pub once_more : (xs keys once new : List ℕ) (x : ℕ) → keys ≡ once → once ≡ first_occurrences xs
    → new ≡ insert_key nat_eq keys x → new ≡ first_occurrences (xs ++ x ∷ [])
once_more xs keys once new x side so inserted =
    inserted ∙ ap (λ names. insert_key nat_eq names x) (side ∙ so) ∙ sym (one_name xs x)

by_found : (keys : List ℕ) (x : ℕ) (found fresh : Bool) → not found ≡ fresh
    → cond found keys (keys ++ x ∷ []) ≡ cond fresh (keys ++ x ∷ []) keys
by_found keys x true true e = cc
by_found keys x true false e = refl
by_found keys x false true e = refl
by_found keys x false false e = cc

-- a name that is new goes last
pub appended : (keys : List ℕ) (x : ℕ) → not (is_among keys x) ≡ true → insert_key nat_eq keys x ≡ keys ++ x ∷ []
appended keys x e = by_found keys x (is_among keys x) true e

-- one that isn't new changes nothing
pub stays : (keys : List ℕ) (x : ℕ) → not (is_among keys x) ≡ false → insert_key nat_eq keys x ≡ keys
stays keys x e = by_found keys x (is_among keys x) false e
