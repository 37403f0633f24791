-- Numbers that are cut: sums and products of cut numbers, cut, are those of the numbers themselves.
use Rattle.std.proofs.Common.{◌≡◌, ℕ, zero, suc, ◌+◌, ◌*◌, ◌<◌, ◌≤◌, List, [], ◌∷◌, length, get_or, drop, set, min, refl, ap, ap₂, sym, ◌∙◌, arith, inl, inr, add-one}
use Rattle.std.proofs.lemmas.Bool.{cases_lt}
use Rattle.std.proofs.lemmas.Nat.{mul-le}
use Rattle.std.proofs.lemmas.List.{get_or_past}
use Rattle.sh_base.specs.Shape.{cell_count, flat_of, max_cells}
use Rattle.sh_base.specs.declared.numbers.Cell.{Cell}
use Rattle.sh_base.specs.declared.numbers.Cell.TheVariants.{Undef}
use Rattle.sh_loops.proofs.PointLaws.{count_at}
use Rattle.sh_eval.specs.Cuts.{cut, cut_index}

-- ---- one number

great : (T x c : ℕ) → T ≤ x → T ≤ T * suc c
great T x c l = let one = mul-le T 1 T (suc c) (omega arith) (omega arith) in omega (arith, one)

pub cut_times_at : (T x c f : ℕ) → min (min x T * c + f) T ≡ min (x * c + f) T
cut_times_at T x zero f = grind arith
cut_times_at T x (suc c) f =
    elim (cases_lt x T) [
      | inl l ↦ let same : min x T ≡ x = omega (arith, l) in ap (λ y. min (y * suc c + f) T) same
      | inr l ↦
          let same : min x T ≡ T = omega (arith, l) in
          let here = great T x c (omega (arith, l)) in
          let there : T * suc c ≤ x * suc c = mul-le T (suc c) x (suc c) (omega (arith, l)) (omega arith) in
          let left : min (T * suc c + f) T ≡ T = omega (arith, here) in
          let right : min (x * suc c + f) T ≡ T = omega (arith, here, there) in
          ap (λ y. min (y * suc c + f) T) same ∙ left ∙ sym right
    ]

pub cut_times : (x c f : ℕ) → cut (cut x * c + f) ≡ cut (x * c + f)
cut_times x c f = cut_times_at 18446744073709551615 x c f

pub cut_twice : (n : ℕ) → cut (cut n) ≡ cut n
cut_twice n = omega arith

pub cut_plus : (x f g : ℕ) → cut f ≡ cut g → cut (x + f) ≡ cut (x + g)
cut_plus x f g e = omega (arith, e)

-- ---- the number of an index

none : (k : ℕ) (xs : List ℕ) → xs ≡ [] → drop k xs ≡ []
none zero xs e = e
none (suc k) xs e = ap (drop (suc k)) e

flat_none : (ns : List ℕ) → flat_of ns [] ≡ 0
flat_none [] = refl
flat_none (n ∷ ns) = refl

flat_at : (ns is : List ℕ) (k : ℕ) → k < length ns
    → flat_of (drop k ns) (drop k is) ≡ get_or is k 0 * cell_count (drop (suc k) ns) + flat_of (drop (suc k) ns) (drop (suc k) is)
flat_at [] is k l = absurd (omega (arith, l))
flat_at (n ∷ ns) [] zero l = let e = flat_none ns in grind (arith, e)
flat_at (n ∷ ns) (i ∷ is) zero l = refl
flat_at (n ∷ ns) [] (suc k) l =
    ap (flat_of (drop k ns)) (sym (none k [] refl)) ∙ flat_at ns [] k (omega (arith, l))
flat_at (n ∷ ns) (i ∷ is) (suc k) l = flat_at ns is k (omega (arith, l))

arranged : (a x c e f : ℕ) → (a * x + e) * c + f ≡ a * (x * c) + (e * c + f)
arranged a x c e f = grind arith

pub horner : (E I : List ℕ) (k a m e b : ℕ) → k < length E → m ≡ cut (a * get_or E k 0) → e ≡ get_or I k 0 → b ≡ cut (m + e)
    → cut (b * cell_count (drop (k + 1) E) + flat_of (drop (k + 1) E) (drop (k + 1) I)) ≡ cut (a * cell_count (drop k E) + flat_of (drop k E) (drop k I))
horner E I k a m e b l times entry next =
    let x = get_or E k 0 in
    let c = cell_count (drop (suc k) E) in
    let f = flat_of (drop (suc k) E) (drop (suc k) I) in
    let both : b ≡ cut (a * x + e) = next ∙ ap (λ n. cut (n + e)) times ∙ omega arith in
    ap (λ n. cut (b * cell_count (drop n E) + flat_of (drop n E) (drop n I))) (add-one k)
    ∙ ap (λ n. cut (n * c + f)) both
    ∙ cut_times (a * x + e) c f
    ∙ ap cut (arranged a x c e f)
    ∙ sym (ap₂ (λ m n. cut (a * m + n)) (count_at E k 0 l) (flat_at E I k l ∙ ap (λ n. n * c + f) (sym entry)))

pub horner_end : (E I : List ℕ) (k a : ℕ) → length E ≤ k → a ≤ 18446744073709551615 → cut (a * cell_count (drop k E) + flat_of (drop k E) (drop k I)) ≡ a
horner_end [] I zero a l small = omega (arith, small)
horner_end [] I (suc k) a l small = omega (arith, small)
horner_end (n ∷ E) I zero a l small = absurd (omega (arith, l))
horner_end (n ∷ E) [] (suc k) a l small = ap (λ i. cut (a * cell_count (drop k E) + flat_of (drop k E) i)) (sym (none k [] refl)) ∙ horner_end E [] k a (omega (arith, l)) small
horner_end (n ∷ E) (i ∷ I) (suc k) a l small = horner_end E I k a (omega (arith, l)) small

-- the index may be cut
flat_cut : (ns is : List ℕ) → cut (flat_of ns (cut_index is)) ≡ cut (flat_of ns is)
flat_cut [] is = refl
flat_cut (n ∷ ns) [] = refl
flat_cut (n ∷ ns) (i ∷ is) =
    cut_times i (cell_count ns) (flat_of ns (cut_index is)) ∙ cut_plus (i * cell_count ns) (flat_of ns (cut_index is)) (flat_of ns is) (flat_cut ns is)

-- so may the number
read_cut : (cells : List Cell) (n : ℕ) → length cells ≤ max_cells → get_or cells (cut n) Undef ≡ get_or cells n Undef
read_cut cells n few =
    elim (cases_lt n 18446744073709551615) [
      | inl l ↦ let same : cut n ≡ n = omega (arith, l) in ap (λ k. get_or cells k Undef) same
      | inr l ↦ get_or_past cells (cut n) Undef (omega (arith, few, l)) ∙ sym (get_or_past cells n Undef (omega (arith, few, l)))
    ]

pub read_exact : (cells : List Cell) (s i : List ℕ) (k : ℕ) (c : Cell) → length cells ≤ max_cells → k ≡ cut (flat_of s i) → c ≡ get_or cells k Undef → c ≡ get_or cells (flat_of s i) Undef
read_exact cells s i k c few number cell = cell ∙ ap (λ n. get_or cells n Undef) number ∙ read_cut cells (flat_of s i) few

pub read_of_cut : (cells : List Cell) (s i j : List ℕ) (k : ℕ) (c : Cell) → length cells ≤ max_cells → k ≡ cut (flat_of s j) → c ≡ get_or cells k Undef → j ≡ cut_index i
    → c ≡ get_or cells (flat_of s i) Undef
read_of_cut cells s i j k c few number cell is =
    read_exact cells s i k c few (number ∙ ap (λ x. cut (flat_of s x)) is ∙ flat_cut s i) cell

-- ---- one coordinate

pub set_cut : (i : List ℕ) (axis v : ℕ) → cut_index (set i axis (cut v)) ≡ cut_index (set i axis v)
set_cut [] axis v = refl
set_cut (x ∷ i) zero v = ap (λ y. y ∷ cut_index i) (cut_twice v)
set_cut (x ∷ i) (suc axis) v = ap (λ ys. cut x ∷ ys) (set_cut i axis v)

-- ---- products

-- one factor more, cut
pub factor_at : (T total e m new rest : ℕ) → e ≡ min m T → new ≡ min (total * e) T → min (new * rest) T ≡ min (total * (m * rest)) T
factor_at T total e m new rest is next =
    let first : min (new * rest) T ≡ min (total * min m T * rest) T = ap (λ n. min (n * rest) T) next ∙ product_cut T (total * e) rest ∙ ap (λ n. min (total * n * rest) T) is in
    first ∙ ap (λ n. min n T) (turned total (min m T) rest) ∙ product_cut T m (total * rest) ∙ ap (λ n. min n T) (turned_back total m rest)
  where
    product_cut : (T x c : ℕ) → min (min x T * c) T ≡ min (x * c) T
    product_cut T x c = let both = cut_times_at T x c 0 in omega (arith, both)

    turned : (a b c : ℕ) → a * b * c ≡ b * (a * c)
    turned a b c = grind arith

    turned_back : (a b c : ℕ) → b * (a * c) ≡ a * (b * c)
    turned_back a b c = grind arith
