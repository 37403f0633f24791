-- Each name once: one more name.
use Rattle.std.proofs.Common.{◌≡◌, List, [], ◌∷◌, ◌++◌, Bool, true, false, not, ◌||◌, cond, filter, refl, ap, sym, ◌∙◌, if◌then◌else◌}
use Rattle.std.specs.List.{list_any}
use Rattle.std.proofs.lemmas.List.{append-nil}
use Rattle.std.proofs.Common.{append_assoc}
use Rattle.sh_names.specs.Names.{Owned, distinct, same_owned}
use Rattle.sh_names.specs.Tables.{with_name, with_names}
use Rattle.sh_names.proofs.Owned.{owned_either, owned_equal}

-- the others
abbrev without : Owned → List Owned → List Owned
without y names = filter (λ other. not (same_owned y other)) names

without_same : (y x : Owned) (ks : List Owned) → same_owned y x ≡ true → without y (ks ++ x ∷ []) ≡ without y ks
without_same y x [] e = rw e refl
without_same y x (k ∷ ks) e =
    ap (λ rest. cond (not (same_owned y k)) (k ∷ rest) rest) (without_same y x ks e)

without_other : (y x : Owned) (ks : List Owned) → same_owned y x ≡ false → without y (ks ++ x ∷ []) ≡ without y ks ++ x ∷ []
without_other y x [] e = rw e refl
without_other y x (k ∷ ks) e =
    ap (λ rest. cond (not (same_owned y k)) (k ∷ rest) rest) (without_other y x ks e)
    ∙ pushed (not (same_owned y k)) (without y ks)
  where
    pushed : (b : Bool) (ls : List Owned) → cond b (k ∷ (ls ++ x ∷ [])) (ls ++ x ∷ [])
        ≡ cond b (k ∷ ls) ls ++ x ∷ []
    pushed true ls = refl
    pushed false ls = refl

among_one : (y x k : Owned) (ks : List Owned) (b : Bool) → same_owned x y ≡ false → same_owned y k ≡ b
    → list_any (same_owned x) (without y ks) ≡ list_any (same_owned x) ks
    → list_any (same_owned x) (cond (not b) (k ∷ without y ks) (without y ks)) ≡ (same_owned x k || list_any (same_owned x) ks)
among_one y x k ks false e n rest = ap (λ b. same_owned x k || b) rest
among_one y x k ks true e n rest =
    let same : same_owned x k ≡ false = ap (same_owned x) (sym (owned_equal y k n)) ∙ e in rw same rest

among_without : (y x : Owned) (ks : List Owned) → same_owned x y ≡ false → list_any (same_owned x) (without y ks) ≡ list_any (same_owned x) ks
among_without y x [] e = refl
among_without y x (k ∷ ks) e = among_one y x k ks (same_owned y k) e refl (among_without y x ks e)

added_same : (y x : Owned) (ks : List Owned) (found : Bool) → same_owned y x ≡ true
    → without y (if found then ks else ks ++ x ∷ []) ≡ without y ks
added_same y x ks true e = refl
added_same y x ks false e = without_same y x ks e

added_other : (y x : Owned) (ks : List Owned) (found : Bool) → same_owned y x ≡ false
    → y ∷ without y (if found then ks else ks ++ x ∷ []) ≡ (if found then y ∷ without y ks else y ∷ (without y ks ++ x ∷ []))
added_other y x ks true e = refl
added_other y x ks false e = ap (λ rest. y ∷ rest) (without_other y x ks e)

one_added : (y x : Owned) (ks : List Owned) (b : Bool) → same_owned x y ≡ b
    → y ∷ without y (with_name ks x)
    ≡ (if b || list_any (same_owned x) (without y ks) then y ∷ without y ks else y ∷ (without y ks ++ x ∷ []))
one_added y x ks true n =
    let other : same_owned y x ≡ true = owned_either y x ∙ n in
    ap (λ rest. y ∷ rest) (added_same y x ks (list_any (same_owned x) ks) other)
one_added y x ks false n =
    let other : same_owned y x ≡ false = owned_either y x ∙ n in
    added_other y x ks (list_any (same_owned x) ks) other
    ∙ ap (λ found. if found then y ∷ without y ks else y ∷ (without y ks ++ x ∷ [])) (sym (among_without y x ks n))

-- one name more
pub one_name : (xs : List Owned) (x : Owned) → distinct (xs ++ x ∷ []) ≡ with_name (distinct xs) x
one_name [] x = refl
one_name (y ∷ ys) x =
    ap (λ names. y ∷ without y names) (one_name ys x)
    ∙ one_added y x (distinct ys) (same_owned x y) refl

-- some names more
pub more_names : (xs ys : List Owned) → distinct (xs ++ ys) ≡ with_names (distinct xs) ys
more_names xs [] = ap distinct (append-nil xs)
more_names xs (y ∷ ys) =
    ap distinct (sym (append_assoc xs (y ∷ []) ys)) ∙ more_names (xs ++ y ∷ []) ys
    ∙ ap (λ names. with_names names ys) (one_name xs y)
