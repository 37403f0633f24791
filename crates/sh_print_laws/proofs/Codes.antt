-- Numbers of owned names: some for all names, and those that names of a text have for the names of it.
use Rattle.std.proofs.Common.{◌≡◌, ◌∙◌, ◌<◌, ◌+◌, inl, inr, ℕ, zero, suc, false, List, [], ◌∷◌, Option, Some, None, refl, ap, sym, subst, arith, if◌then◌else◌}
use Rattle.std.specs.List.{list_any}
use Rattle.std.proofs.lemmas.Bool.{cases_Bool}
use Rattle.std.proofs.lemmas.List.{append-nil}
use Rattle.sh_names.specs.Names.{Owned, distinct, number_among, same_owned}
use Rattle.sh_parse.proofs.formed.NumbersOfNames.{IsIn, count_of, old_number, one_number}
use Rattle.sh_print_laws.proofs.Standing.{owned}

-- ## Some number for each name

abbrev pair : ℕ → ℕ → ℕ
pair zero b = b + b + 1
pair (suc a) b = pair a b + pair a b

pair_some : (a b : ℕ) → 0 < pair a b
pair_some zero b = omega arith
pair_some (suc a) b = let h = pair_some a b in omega arith

pair_apart : (a b c d : ℕ) → pair a b ≡ pair c d → (a ≡ c) × (b ≡ d)
pair_apart zero b zero d e = (refl, omega arith)
pair_apart zero b (suc c) d e = absurd (omega arith)
pair_apart (suc a) b zero d e = absurd (omega arith)
pair_apart (suc a) b (suc c) d e = let h = pair_apart a b c d (omega arith) in (ap suc h.0, h.1)

abbrev code_list : List ℕ → ℕ
code_list [] = 0
code_list (x ∷ xs) = pair x (code_list xs)

list_apart : (xs ys : List ℕ) → code_list xs ≡ code_list ys → xs ≡ ys
list_apart [] [] e = refl
list_apart [] (y ∷ ys) e = absurd (let h = pair_some y (code_list ys) in omega arith)
list_apart (x ∷ xs) [] e = absurd (let h = pair_some x (code_list xs) in omega arith)
list_apart (x ∷ xs) (y ∷ ys) e = let h = pair_apart x (code_list xs) y (code_list ys) e in
    let rest = list_apart xs ys h.1 in rw (h.0, rest) refl

abbrev code_region : Option ℕ → ℕ
code_region None = 0
code_region (Some o) = suc o

region_apart : (a b : Option ℕ) → code_region a ≡ code_region b → a ≡ b
region_apart None None e = refl
region_apart None (Some b) e = absurd (omega arith)
region_apart (Some a) None e = absurd (omega arith)
region_apart (Some a) (Some b) e = ap Some (let h : a ≡ b = omega arith in h)

abbrev pub code : Owned → ℕ
code x = pair x.unit (pair (code_region x.region) (code_list x.text))

pub code_apart : (x y : Owned) → code x ≡ code y → x ≡ y
code_apart x y e =
    let a = pair_apart x.unit (pair (code_region x.region) (code_list x.text)) y.unit (pair (code_region y.region) (code_list y.text)) e in
    let b = pair_apart (code_region x.region) (code_list x.text) (code_region y.region) (code_list y.text) a.1 in
    ap (λ u. owned u x.region x.text) a.0 ∙ ap (λ r. owned y.unit r x.text) (region_apart x.region y.region b.0) ∙ ap (λ t. owned y.unit y.region t) (list_apart x.text y.text b.1)

-- ## The numbers of these names

module _ (all : List Owned) where
  abbrev pub number_by : Owned → ℕ
  number_by x = if list_any (same_owned x) all then number_among (distinct all) x else count_of x.unit all + code x

  pub number_in_all : (x : Owned) → IsIn all x → number_by x ≡ number_among (distinct all) x
  number_in_all x h = rw h refl

  number_out : (x : Owned) → list_any (same_owned x) all ≡ false → number_by x ≡ count_of x.unit all + code x
  number_out x h = rw h refl

  number_small : (x : Owned) → IsIn all x → number_by x < count_of x.unit all
  number_small x h = subst (λ n. n < count_of x.unit all) (sym (number_in_all x h))
      (subst (λ xs. number_among (distinct xs) x < count_of x.unit all) (append-nil all) (old_number all [] x h))

  pub numbers_apart : (x y : Owned) → x.unit ≡ y.unit → number_by x ≡ number_by y → x ≡ y
  numbers_apart x y u e = elim (cases_Bool (list_any (same_owned x) all)) [
    | inl h ↦ elim (cases_Bool (list_any (same_owned y) all)) [
      | inl g ↦ one_number all x y h g u (sym (number_in_all x h) ∙ e ∙ number_in_all y g)
      | inr g ↦ absurd (let a = number_small x h in let b = number_out y g in let c : count_of x.unit all ≡ count_of y.unit all = ap (λ k. count_of k all) u in omega arith)
    ]
    | inr h ↦ elim (cases_Bool (list_any (same_owned y) all)) [
      | inl g ↦ absurd (let a = number_small y g in let b = number_out x h in let c : count_of x.unit all ≡ count_of y.unit all = ap (λ k. count_of k all) u in omega arith)
      | inr g ↦ let a = number_out x h in let b = number_out y g in let c : count_of x.unit all ≡ count_of y.unit all = ap (λ k. count_of k all) u in
          code_apart x y (omega arith)
    ]
  ]
