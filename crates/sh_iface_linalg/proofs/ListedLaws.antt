-- The numbers below a bound that aren't listed.
use mathlib.Core.Path.{◌∙◌, ap, sym, refl}
use Rattle.std.proofs.Common.{◌≡◌, ℕ, zero, suc, ◌+◌, ◌-◌, ◌<◌, List, ◌∷◌, Bool, true, false, not, length, arith}
use Rattle.std.specs.Prelude.{Option, Some, cond, filter, slice_get}
use Rattle.std.specs.List.{range_with_len}
use Rattle.std.proofs.lemmas.Bool.{cond-true, cond-false}
use Rattle.sh_ir.specs.Regions.{is_among}
use Rattle.sh_iface_linalg.specs.Reading.{count_unless}

got_range : (a n i : ℕ) → i < n → slice_get (range_with_len a n) i ≡ Some (a + i)
got_range a zero i within = absurd (omega arith)
got_range a (suc n) zero within =
    let same : a ≡ a + 0 = omega arith in
    ap (λ k. Some k) same
got_range a (suc n) (suc i) within =
    let less : i < n = omega arith in
    let same : a + 1 + i ≡ a + suc i = omega arith in
    got_range (a + 1) n i less ∙ ap (λ k. Some k) same

pub got_below : (n i : ℕ) → i < n → slice_get (range_with_len 0 n) i ≡ Some i
got_below n i within =
    let same : 0 + i ≡ i = omega arith in
    got_range 0 n i within ∙ ap (λ k. Some k) same

-- ---- numbers that aren't listed

range_next : (number bound : ℕ) → number < bound
    → range_with_len number (bound - number) ≡ number ∷ range_with_len (number + 1) (bound - (number + 1))
range_next number bound within =
    let more : bound - number ≡ suc (bound - (number + 1)) = omega arith in
    ap (range_with_len number) more

got_tail : (x : ℕ) (xs : List ℕ) (i : ℕ) → (i ≡ 0 → ⊥) → slice_get (x ∷ xs) i ≡ slice_get xs (i - 1)
got_tail x xs zero some = absurd (some refl)
got_tail x xs (suc i) some =
    let same : i ≡ suc i - 1 = omega arith in
    ap (slice_get xs) same

pub skip_one : (p : ℕ → Bool) (number bound before : ℕ) (whole : Option ℕ) → number < bound → p number ≡ false
    → slice_get (filter p (range_with_len number (bound - number))) before ≡ whole
    → slice_get (filter p (range_with_len (number + 1) (bound - (number + 1)))) before ≡ whole
skip_one p number bound before whole within out so_far =
    let rest = filter p (range_with_len (number + 1) (bound - (number + 1))) in
    sym (ap (λ ns. slice_get (filter p ns) before) (range_next number bound within)
    ∙ ap (λ ns. slice_get ns before) (cond-false (p number) (number ∷ rest) rest out)) ∙ so_far

pub count_one : (p : ℕ → Bool) (number bound before : ℕ) (whole : Option ℕ) → number < bound → p number ≡ true → (before ≡ 0 → ⊥)
    → slice_get (filter p (range_with_len number (bound - number))) before ≡ whole
    → slice_get (filter p (range_with_len (number + 1) (bound - (number + 1)))) (before - 1) ≡ whole
count_one p number bound before whole within there some so_far =
    let rest = filter p (range_with_len (number + 1) (bound - (number + 1))) in
    sym (ap (λ ns. slice_get (filter p ns) before) (range_next number bound within)
    ∙ (ap (λ ns. slice_get ns before) (cond-true (p number) (number ∷ rest) rest there) ∙ got_tail number rest before some)) ∙ so_far

counted : (b : Bool) (number : ℕ) (rest : List ℕ) → length (cond (not b) (number ∷ rest) rest) ≡ count_unless b + length rest
counted true number rest = omega arith
counted false number rest = omega arith

pub count_next : (listed : List ℕ) (number bound count n whole : ℕ) → number < bound → n ≡ count_unless (is_among listed number)
    → count + length (filter (λ k. not (is_among listed k)) (range_with_len number (bound - number))) ≡ whole
    → count + n + length (filter (λ k. not (is_among listed k)) (range_with_len (number + 1) (bound - (number + 1)))) ≡ whole
count_next listed number bound count n whole within is so_far =
    let rest = filter (λ k. not (is_among listed k)) (range_with_len (number + 1) (bound - (number + 1))) in
    let step : length (filter (λ k. not (is_among listed k)) (range_with_len number (bound - number))) ≡ count_unless (is_among listed number) + length rest =
    ap (λ ns. length (filter (λ k. not (is_among listed k)) ns)) (range_next number bound within)
    ∙ counted (is_among listed number) number rest in
    omega arith
