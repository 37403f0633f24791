-- `flat` and `unflat` undo each other, and a count that is cut at a bound.
use Rattle.std.proofs.Common.{◌≡◌, ℕ, zero, suc, ◌+◌, ◌*◌, ◌/◌, ◌%◌, ◌<◌, ◌≤◌, ◌⊎◌, inl, inr, min, List, [], ◌∷◌, ◌++◌, length, take, drop, get_or, refl, ap, sym, ◌∙◌, arith, add-one}
use Rattle.std.proofs.lemmas.Grind.{common_steps}
use Rattle.std.proofs.lemmas.List.{take_more}
use Rattle.std.proofs.lemmas.Nat.{div-mul-add, mod-mul-add, div-add-mod', mod_below}
use Rattle.std.proofs.Math.Nat.{div-lt_iff_lt-mul, mul-le-mul_right, mul-le-mul_left, mul-div_cancel_left}
use Rattle.std.proofs.Math.Seq.{drop-cons}
use Rattle.sh_base.specs.Shape.{cell_count, IsIndexOf, flat_of, unflat_of}

pub cell_count-append : (ns : List ℕ) (n : ℕ) → cell_count (ns ++ n ∷ []) ≡ cell_count ns * n
cell_count-append [] n = omega arith
cell_count-append (m ∷ ns) n = let e = cell_count-append ns n in rw e (grind arith)

pub cell_count-take_more : (ns : List ℕ) (i : ℕ) → i < length ns → cell_count (take (i + 1) ns) ≡ cell_count (take i ns) * get_or ns i 0
cell_count-take_more ns i h = rw (take_more ns i 0 h) (cell_count-append (take i ns) (get_or ns i 0))

at_least_factor : (a b : ℕ) → 0 < b → a ≤ a * b
at_least_factor a b h = let e : a * 1 ≤ a * b = mul-le-mul_left a h in omega (arith, e)

le_or_ge : (a b : ℕ) → (a ≤ b) ⊎ (b ≤ a)
le_or_ge a b = grind arith

pub min-mul-min : (a b top : ℕ) → min (min a top * b) top ≡ min (a * b) top
min-mul-min a zero top = omega arith
min-mul-min a (suc b) top =
    let over = at_least_factor a (suc b) (omega arith) in
    let top_over = at_least_factor top (suc b) (omega arith) in
    elim (le_or_ge a top) [
      | inl le ↦ let e : min a top ≡ a = omega arith in rw e refl
      | inr ge ↦ let e : min a top ≡ top = omega arith in rw e (omega arith)
    ]

pub IsIndexOf-length : (ns is : List ℕ) → IsIndexOf ns is → length ns ≡ length is
IsIndexOf-length [] [] h = refl
IsIndexOf-length [] (i ∷ is) h = absurd h
IsIndexOf-length (n ∷ ns) [] h = absurd h
IsIndexOf-length (n ∷ ns) (i ∷ is) h = ap (λ x. suc x) (IsIndexOf-length ns is h.1)

-- an index is numbered below the count
pub flat_of-below : (ns is : List ℕ) → IsIndexOf ns is → flat_of ns is < cell_count ns
flat_of-below [] [] h = omega arith
flat_of-below [] (i ∷ is) h = absurd h
flat_of-below (n ∷ ns) [] h = absurd h
flat_of-below (n ∷ ns) (i ∷ is) h =
    let below = flat_of-below ns is h.1 in
    let step : i + 1 ≤ n = let k : i < n = h.0 in omega arith in
    let room : (i + 1) * cell_count ns ≤ n * cell_count ns = mul-le-mul_right (cell_count ns) step in
    omega arith

pub IsIndexOf-take : (ns is : List ℕ) (d : ℕ) → IsIndexOf ns is → IsIndexOf (take d ns) (take d is)
IsIndexOf-take ns is zero h = tt
IsIndexOf-take [] [] (suc d) h = tt
IsIndexOf-take [] (i ∷ is) (suc d) h = absurd h
IsIndexOf-take (n ∷ ns) [] (suc d) h = absurd h
IsIndexOf-take (n ∷ ns) (i ∷ is) (suc d) h = (h.0, IsIndexOf-take ns is d h.1)

-- where there is an index, no extent is 0
pub IsIndexOf-some : (ns is : List ℕ) → IsIndexOf ns is → 0 < cell_count ns
IsIndexOf-some ns is h = let e = flat_of-below ns is h in omega arith

pub cell_count-take_le : (ns is : List ℕ) (d : ℕ) → IsIndexOf ns is → cell_count (take d ns) ≤ cell_count ns
cell_count-take_le ns is zero h = let e = IsIndexOf-some ns is h in omega arith
cell_count-take_le [] is (suc d) h = omega arith
cell_count-take_le (n ∷ ns) [] (suc d) h = absurd h
cell_count-take_le (n ∷ ns) (i ∷ is) (suc d) h = mul-le-mul_left n (cell_count-take_le ns is d h.1)

pub flat_of-take_below : (ns is : List ℕ) (d : ℕ) → IsIndexOf ns is → flat_of (take d ns) (take d is) < cell_count ns
flat_of-take_below ns is d h =
    let below = flat_of-below (take d ns) (take d is) (IsIndexOf-take ns is d h) in
    let less = cell_count-take_le ns is d h in
    omega arith

pub flat_of-take_more : (ns is : List ℕ) (d : ℕ) → IsIndexOf ns is → d < length ns → flat_of (take (suc d) ns) (take (suc d) is) ≡ flat_of (take d ns) (take d is) * get_or ns d 0 + get_or is d 0
flat_of-take_more [] is d h lt = absurd (omega arith)
flat_of-take_more (n ∷ ns) [] d h lt = absurd h
flat_of-take_more (n ∷ ns) (i ∷ is) zero h lt = omega arith
flat_of-take_more (n ∷ ns) (i ∷ is) (suc d) h lt =
    let less : d < length ns = omega arith in
    let rec = flat_of-take_more ns is d h.1 less in
    let whole : cell_count (take (suc d) ns) ≡ cell_count (take d ns) * get_or ns d 0 = rw (← add_one_is d) (cell_count-take_more ns d less) in
    rw (rec, whole) (grind arith)
  where
    add_one_is : (d : ℕ) → d + 1 ≡ suc d
    add_one_is d = omega arith

pub unflat_of-flat_of : (ns is : List ℕ) → IsIndexOf ns is → unflat_of ns (flat_of ns is) ≡ is
unflat_of-flat_of [] [] h = refl
unflat_of-flat_of [] (i ∷ is) h = absurd h
unflat_of-flat_of (n ∷ ns) [] h = absurd h
unflat_of-flat_of (n ∷ ns) (i ∷ is) h =
    let below = flat_of-below ns is h.1 in
    let rec = unflat_of-flat_of ns is h.1 in
    let quotient = div-mul-add i (cell_count ns) (flat_of ns is) below in
    let remainder = mod-mul-add i (cell_count ns) (flat_of ns is) below in
    rw (quotient, remainder, rec) refl

rest_not_empty : (n c k : ℕ) → k < n * c → 0 < c
rest_not_empty n zero k h = absurd (omega arith)
rest_not_empty n (suc c) k h = omega arith

first_not_zero : (n c k : ℕ) → k < n * c → 0 < n
first_not_zero zero c k h = absurd (omega arith)
first_not_zero (suc n) c k h = omega arith

pub unflat_of-within : (ns : List ℕ) (k : ℕ) → k < cell_count ns → IsIndexOf ns (unflat_of ns k)
unflat_of-within [] k h = tt
unflat_of-within (n ∷ ns) k h =
    let some = rest_not_empty n (cell_count ns) k h in
    ((div-lt_iff_lt-mul some).1 h, unflat_of-within ns (k % cell_count ns) (mod_below k (cell_count ns) some))

pub flat_of-unflat_of : (ns : List ℕ) (k : ℕ) → k < cell_count ns → flat_of ns (unflat_of ns k) ≡ k
flat_of-unflat_of [] k h = omega arith
flat_of-unflat_of (n ∷ ns) k h =
    let some = rest_not_empty n (cell_count ns) k h in
    let rec = flat_of-unflat_of ns (k % cell_count ns) (mod_below k (cell_count ns) some) in
    rw rec (div-add-mod' k (cell_count ns))

-- one digit of an index: what the list from i on gives, and what is left
pub record IsDigit (ns : List ℕ) (i k : ℕ) : Type 0 where
  pub stride : cell_count (drop i ns) / get_or ns i 0 ≡ cell_count (drop (i + 1) ns)
  pub some : 0 < cell_count (drop (i + 1) ns)
  pub extent : 0 < get_or ns i 0
  pub value : unflat_of (drop i ns) k ≡ (k / cell_count (drop (i + 1) ns)) ∷ unflat_of (drop (i + 1) ns) (k % cell_count (drop (i + 1) ns))

digit_at : (ns : List ℕ) (i k : ℕ) → i < length ns → k < cell_count (drop i ns) → IsDigit ns i k
digit_at ns i k h lt =
    let e : drop i ns ≡ get_or ns i 0 ∷ drop (i + 1) ns = rw add-one (drop-cons ns i 0 h) in
    let count = ap cell_count e in
    let lt' : k < get_or ns i 0 * cell_count (drop (i + 1) ns) = omega (arith, count) in
    let some = rest_not_empty (get_or ns i 0) (cell_count (drop (i + 1) ns)) k lt' in
    let extent = first_not_zero (get_or ns i 0) (cell_count (drop (i + 1) ns)) k lt' in
    record {
      stride = ap (λ x. x / get_or ns i 0) count ∙ mul-div_cancel_left (cell_count (drop (i + 1) ns)) extent;
      some = some;
      extent = extent;
      value = ap (λ xs. unflat_of xs k) e;
    }

pub is_digit : (ns : List ℕ) (i k : ℕ) → i < length ns → k < cell_count (drop i ns) → IsDigit ns i k
is_digit ns i k h lt = digit_at ns i k h lt

-- the next step of `flat`
pub record IsFlatStep (s i : List ℕ) (d number : ℕ) : Type 0 where
  pub value : number ≡ flat_of (take (d + 1) s) (take (d + 1) i)
  pub below : number < cell_count s

pub flat_step : (s i : List ℕ) (d number : ℕ) → IsIndexOf s i → d < length s → number ≡ flat_of (take d s) (take d i) → IsFlatStep s i d (number * get_or s d 0 + get_or i d 0)
flat_step s i d number h lt e =
    let value : number * get_or s d 0 + get_or i d 0 ≡ flat_of (take (d + 1) s) (take (d + 1) i) = rw (e, add-one) (sym (flat_of-take_more s i d h lt)) in
    record { value = value; below = rw value (flat_of-take_below s i (d + 1) h) }

pub flat_whole : (s i : List ℕ) (d number : ℕ) → IsIndexOf s i → length s ≤ d → number ≡ flat_of (take d s) (take d i) → number ≡ flat_of s i
flat_whole s i d number h le e =
    let same = IsIndexOf-length s i h in
    let s_all : take d s ≡ s = grind (arith, common_steps) in
    let le' : length i ≤ d = omega arith in
    let i_all : take d i ≡ i = grind (arith, common_steps) in
    e ∙ cc
