-- Extents that follow from others: sizes of groups, cut where they pass every extent.
use mathlib.Core.Path.{◌∙◌, ap, sym, refl}
use Rattle.std.proofs.Common.{◌≡◌, ℕ, zero, suc, ◌+◌, ◌*◌, ◌/◌, ◌%◌, ◌<◌, ◌≤◌, ◌⊎◌, inl, inr, List, [], ◌∷◌, Bool, false, min, nat_eq, arith, length}
use Rattle.std.proofs.Math.Nat.{div-eq_of_lt, mod-eq_of_lt}
use Rattle.std.proofs.lemmas.Bool.{cases_lt, and_right, ne_eqb}
use Rattle.sh_ir.specs.declared.types.Dim.{Dim}
use Rattle.sh_ir.specs.Agreement.{all_related}
use Rattle.sh_verify.specs.Lists.{above_extents}
use Rattle.sh_verify.proofs.CellLaws.{cut_times, swapped}

-- lists of two lengths aren't related
pub unrelated : (R : ℕ → Dim → Dim → Bool) (at : ℕ) (ds es : List Dim) → (length ds ≡ length es → ⊥) → all_related R at ds es ≡ false
unrelated R at [] [] differ = absurd (differ refl)
unrelated R at [] (e ∷ es) differ = refl
unrelated R at (d ∷ ds) [] differ = refl
unrelated R at (d ∷ ds) (e ∷ es) differ = and_right (R at d e) _ (unrelated R (at + 1) ds es (λ same. differ (ap suc same)))

-- a product of some factors, cut, times further ones
pub product_more : (most count n rest next whole : ℕ) → min (count * (n * rest)) most ≡ whole → next ≡ min (count * n) most
    → min (next * rest) most ≡ whole
product_more most count n rest next whole so_far is =
    let a : min (next * rest) most ≡ min most (min most (count * n) * rest) =
    ap (λ k. min (k * rest) most) (is ∙ swapped (count * n) most) ∙ swapped _ most in
    let b : count * n * rest ≡ count * (n * rest) = grind arith in
    a ∙ (cut_times most (count * n) rest ∙ (swapped most _ ∙ (ap (λ k. min k most) b ∙ so_far)))

-- ---- a cut number of members decides as the number does

great_product : (m n all : ℕ) → m < above_extents → all < above_extents → above_extents ≤ n → nat_eq (m * above_extents) all ≡ nat_eq (m * n) all
great_product zero n all small fits great = grind (arith, fits)
great_product (suc m) n all small fits great =
    let cut : all < suc m * above_extents = omega arith in
    let n_less : n ≤ suc m * n = grind arith in
    let whole : all < suc m * n = omega arith in
    ne_eqb _ _ (λ (e : suc m * above_extents ≡ all). let no : ⊥ = omega arith in no)
    ∙ sym (ne_eqb _ _ (λ (e : suc m * n ≡ all). let no : ⊥ = omega arith in no))

product_at : (m n all : ℕ) → m < above_extents → all < above_extents → (n < above_extents) ⊎ (above_extents ≤ n)
    → nat_eq (m * min n above_extents) all ≡ nat_eq (m * n) all
product_at m n all small fits (inl below) =
    let same : min n above_extents ≡ n = omega arith in
    ap (λ k. nat_eq (m * k) all) same
product_at m n all small fits (inr great) =
    let cut : min n above_extents ≡ above_extents = omega arith in
    ap (λ k. nat_eq (m * k) all) cut ∙ great_product m n all small fits great

pub cut_product : (m n all : ℕ) → m < above_extents → all < above_extents → nat_eq (m * min n above_extents) all ≡ nat_eq (m * n) all
cut_product m n all small fits = product_at m n all small fits (cases_lt n above_extents)

quotient_at : (m n : ℕ) → m < above_extents → (n < above_extents) ⊎ (above_extents ≤ n) → m / min n above_extents ≡ m / n
quotient_at m n small (inl below) =
    let same : min n above_extents ≡ n = omega arith in
    ap (λ k. m / k) same
quotient_at m n small (inr great) =
    let cut : m < min n above_extents = omega arith in
    let less : m < n = omega arith in
    div-eq_of_lt cut ∙ sym (div-eq_of_lt less)

pub cut_quotient : (m n : ℕ) → m < above_extents → m / min n above_extents ≡ m / n
cut_quotient m n small = quotient_at m n small (cases_lt n above_extents)

remainder_at : (m n : ℕ) → m < above_extents → (n < above_extents) ⊎ (above_extents ≤ n) → m % min n above_extents ≡ m % n
remainder_at m n small (inl below) =
    let same : min n above_extents ≡ n = omega arith in
    ap (λ k. m % k) same
remainder_at m n small (inr great) =
    let cut : m < min n above_extents = omega arith in
    let less : m < n = omega arith in
    mod-eq_of_lt cut ∙ sym (mod-eq_of_lt less)

pub cut_remainder : (m n : ℕ) → m < above_extents → m % min n above_extents ≡ m % n
cut_remainder m n small = remainder_at m n small (cases_lt n above_extents)
