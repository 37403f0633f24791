-- Distinct numbers, one after the other.
use mathlib.Core.Path.{◌∙◌, ap, sym, refl}
use Rattle.std.proofs.Common.{◌≡◌, ℕ, ◌+◌, ◌<◌, List, [], ◌∷◌, ◌++◌, Bool, true, false, not, ◌&&◌, ◌||◌, length, drop, nat_eq}
use Rattle.std.specs.Prelude.{ℤ, pos, get_or}
use Rattle.sh_ir.specs.Numbers.{are_distinct, as_natural, as_naturals}
use Rattle.sh_ir.specs.Regions.{is_among}
use Rattle.sh_verify.specs.Lists.{all_axes, is_apart, stands_again}
use Rattle.sh_verify.proofs.LeastLaws.{default_drop, next_drop}

distinct_at : (zs : List ℤ) (i : ℕ) → i < length zs
    → are_distinct (as_naturals (drop i zs)) ≡ (not (stands_again zs i) && are_distinct (as_naturals (drop (i + 1) zs)))
distinct_at zs i within =
    ap (λ l. are_distinct (as_naturals l)) (default_drop zs i (pos 0) within)

-- one that doesn't stand again leaves the others to decide
pub distinct_next : (zs : List ℤ) (i : ℕ) (again whole : Bool) → i < length zs → again ≡ stands_again zs i → again ≡ false
    → are_distinct (as_naturals (drop i zs)) ≡ whole → are_distinct (as_naturals (drop (i + 1) zs)) ≡ whole
distinct_next zs i again whole within is no_more so_far =
    sym (distinct_at zs i within ∙ ap (λ b. not b && are_distinct (as_naturals (drop (i + 1) zs))) (sym is ∙ no_more)) ∙ so_far

-- one that does decides
pub distinct_ends : (zs : List ℤ) (i : ℕ) (again whole : Bool) → i < length zs → again ≡ stands_again zs i → again ≡ true
    → are_distinct (as_naturals (drop i zs)) ≡ whole → false ≡ whole
distinct_ends zs i again whole within is once_more so_far =
    sym (distinct_at zs i within ∙ ap (λ b. not b && are_distinct (as_naturals (drop (i + 1) zs))) (sym is ∙ once_more)) ∙ so_far

-- ---- the numbers of lists

among_both : (xs ys : List ℤ) (n : ℕ) → is_among (as_naturals (xs ++ ys)) n ≡ (is_among (as_naturals xs) n || is_among (as_naturals ys) n)
among_both [] ys n = refl
among_both (x ∷ xs) ys n =
    ap (λ b. nat_eq n (as_natural x) || b) (among_both xs ys n)
    ∙ regroup (nat_eq n (as_natural x)) (is_among (as_naturals xs) n) (is_among (as_naturals ys) n)
  where
    regroup : (a b d : Bool) → (a || (b || d)) ≡ ((a || b) || d)
    regroup true b d = refl
    regroup false b d = refl

-- a list leaves the others to decide where the number isn't in it
pub among_next : (lists : List (List ℤ)) (i : ℕ) (g h : List ℤ) (n : ℕ) (here whole : Bool) → i < length lists → g ≡ get_or lists i g → h ≡ g
    → here ≡ is_among (as_naturals h) n → is_among (as_naturals (all_axes (drop i lists))) n ≡ whole
    → (here || is_among (as_naturals (all_axes (drop (i + 1) lists))) n) ≡ whole
among_next lists i g h n here whole within read same is so_far =
    ap (λ b. b || is_among (as_naturals (all_axes (drop (i + 1) lists))) n) (is ∙ ap (λ l. is_among (as_naturals l) n) same)
    ∙ (sym (ap (λ l. is_among (as_naturals (all_axes l)) n) (next_drop lists i g within read)
    ∙ among_both g (all_axes (drop (i + 1) lists)) n) ∙ so_far)

distinct_both : (xs ys : List ℤ)
    → are_distinct (as_naturals (xs ++ ys)) ≡ ((are_distinct (as_naturals xs) && is_apart xs ys) && are_distinct (as_naturals ys))
distinct_both [] ys = refl
distinct_both (x ∷ xs) ys =
    ap (λ b. not b && are_distinct (as_naturals (xs ++ ys))) (among_both xs ys (as_natural x))
    ∙ (ap (λ d. not (is_among (as_naturals xs) (as_natural x) || is_among (as_naturals ys) (as_natural x)) && d) (distinct_both xs ys)
    ∙ regroup (is_among (as_naturals xs) (as_natural x)) (is_among (as_naturals ys) (as_natural x)) (are_distinct (as_naturals xs)) (is_apart xs ys) _)
  where
    regroup : (a b d p w : Bool) → (not (a || b) && ((d && p) && w)) ≡ (((not a && d) && (not b && p)) && w)
    regroup true b d p w = refl
    regroup false true true p w = refl
    regroup false true false p w = refl
    regroup false false d p w = refl

-- a list that stands alone leaves the others to decide
pub alone_next : (lists : List (List ℤ)) (i : ℕ) (g h : List ℤ) (others : List (List ℤ)) (alone whole : Bool) → i < length lists
    → g ≡ get_or lists i g → h ≡ g → others ≡ drop (i + 1) lists
    → alone ≡ (are_distinct (as_naturals h) && is_apart h (all_axes others))
    → are_distinct (as_naturals (all_axes (drop i lists))) ≡ whole
    → (alone && are_distinct (as_naturals (all_axes (drop (i + 1) lists)))) ≡ whole
alone_next lists i g h others alone whole within read same rest is so_far =
    ap (λ b. b && are_distinct (as_naturals (all_axes (drop (i + 1) lists))))
    (is ∙ (ap (λ l. are_distinct (as_naturals l) && is_apart l (all_axes others)) same
    ∙ ap (λ l. are_distinct (as_naturals g) && is_apart g (all_axes l)) rest))
    ∙ (sym (ap (λ l. are_distinct (as_naturals (all_axes l))) (next_drop lists i g within read)
    ∙ distinct_both g (all_axes (drop (i + 1) lists))) ∙ so_far)
