-- The marks of the normal form, and the offsets that they stand for.
use Rattle.std.proofs.Common.{◌≡◌, ◌≢◌, ℕ, zero, suc, ◌+◌, ◌-◌, ◌*◌, ◌<◌, ◌≤◌, ◌⊎◌, inl, inr, List, [], ◌∷◌, length, get_or, map, Bool, true, false, refl, ap, ap₂, sym, ◌∙◌, arith, subst, ℤ, pos, negsuc}
use Rattle.std.specs.Prelude.{◌≤ℤ◌, nat_eq, ◌&&◌, if◌then◌else◌}
use Rattle.std.specs.List.{All}
use Rattle.std.specs.Int.{div_ceil}
use Rattle.std.specs.Cmp.Lexicographic.{pointwise}
use Rattle.std.proofs.Math.Nat.{mul-le-mul_right}
use Rattle.std.proofs.lemmas.Bool.{false_from_ne_true}
use Rattle.std.proofs.lemmas.Bool.Decides.{nat_tests}
use Rattle.std.proofs.lemmas.Grind.{div_ceil_times}
use Rattle.std.proofs.lemmas.Int.{ints}
use Rattle.std.proofs.lemmas.List.{get_or_default, get_or-map, length-map}
use Rattle.std.proofs.lemmas.List.FromFn.{get_or-map-range_with_len, length-map-range_with_len, fill_by_all}
use Rattle.sh_sharding.specs.declared.shardings.Mark.{Mark}
use Rattle.sh_sharding.specs.declared.shardings.Mark.TheVariants.{Balanced, Offsets}
use Rattle.sh_sharding.specs.Sharding.{offset_of, offsets_of, IsDivided, IsNormalMark}
use Rattle.sh_sharding.specs.AxisLists.{natural, IsBelow}
use Rattle.sh_sharding.specs.OffsetLists.{AreOffsets, normal_mark, mark_of}
use Rattle.sh_sharding.specs.Views.{IsBetween}
use Rattle.sh_sharding.proofs.Cases.{and_left, and_right, same_or_not}

-- ---- balanced offsets

pub get_or-offsets_of : (n p : ℕ) (m : Mark) (k : ℕ) → k < p + 1 → get_or (offsets_of n p m) k 0 ≡ offset_of n p m k
unfolding offsets_of
get_or-offsets_of n p m k l = get_or-map-range_with_len (offset_of n p m) 0 (p + 1) k k 0 l (omega arith)

pub are_offsets_of : (n p : ℕ) (m : Mark) (os : List ℕ) → length os ≡ p + 1 → ((k : ℕ) → k < p + 1 → get_or os k 0 ≡ offset_of n p m k) → os ≡ offsets_of n p m
unfolding offsets_of
are_offsets_of n p m os counted h = fill_by_all (offset_of n p m) os (p + 1) 0 counted h

-- ---- marks

pointwise_refl : (xs : List ℕ) → pointwise nat_eq xs xs ≡ true
pointwise_refl [] = refl
pointwise_refl (x ∷ xs) =
    let first : nat_eq x x ≡ true = grind (arith, nat_tests) in
    ap₂ (λ (a b : Bool). a && b) first (pointwise_refl xs)

eq_from : (a b : ℕ) → nat_eq a b ≡ true → a ≡ b
eq_from a b h = grind (arith, nat_tests)

pointwise_same : (xs ys : List ℕ) → pointwise nat_eq xs ys ≡ true → xs ≡ ys
pointwise_same [] [] h = refl
pointwise_same [] (y ∷ ys) h = absurd (cc)
pointwise_same (x ∷ xs) [] h = absurd (cc)
pointwise_same (x ∷ xs) (y ∷ ys) h =
    ap₂ ◌∷◌ (eq_from x y (and_left (nat_eq x y) (pointwise nat_eq xs ys) h)) (pointwise_same xs ys (and_right (nat_eq x y) (pointwise nat_eq xs ys) h))

pub normal_mark-balanced : (n p : ℕ) (os : List ℕ) → os ≡ offsets_of n p Balanced → normal_mark n p os ≡ Balanced
unfolding normal_mark
normal_mark-balanced n p os e =
    let same : pointwise nat_eq os (offsets_of n p Balanced) ≡ true = subst (λ z. pointwise nat_eq os z ≡ true) e (pointwise_refl os) in
    ap (λ (b : Bool). if b then Balanced else Offsets os) same

pub normal_mark-written : (n p : ℕ) (os : List ℕ) → os ≢ offsets_of n p Balanced → normal_mark n p os ≡ Offsets os
unfolding normal_mark
normal_mark-written n p os h =
    let other : pointwise nat_eq os (offsets_of n p Balanced) ≡ false = false_from_ne_true (pointwise nat_eq os (offsets_of n p Balanced)) (λ e. h (pointwise_same os (offsets_of n p Balanced) e)) in
    ap (λ (b : Bool). if b then Balanced else Offsets os) other

pub mark_of-balanced : (n p : ℕ) (os : List ℕ) → os ≡ offsets_of n p Balanced → mark_of n p os ≡ Balanced
unfolding mark_of
mark_of-balanced n p [] e = refl
mark_of-balanced n p (o ∷ os) e = normal_mark-balanced n p (o ∷ os) e

pub mark_of-none : (n p : ℕ) → mark_of n p [] ≡ Balanced
unfolding mark_of
mark_of-none n p = refl

pub mark_of-written : (n p : ℕ) (os : List ℕ) → os ≢ [] → os ≢ offsets_of n p Balanced → mark_of n p os ≡ Offsets os
unfolding mark_of
mark_of-written n p [] some h = absurd (some refl)
mark_of-written n p (o ∷ os) some h = normal_mark-written n p (o ∷ os) h

-- ---- written numbers

pub map_some : (zs : List ℤ) → zs ≢ [] → map natural zs ≢ []
map_some [] h e = h refl
map_some (z ∷ zs) h e = cc

offsets_low : (n p : ℕ) (os : List ℤ) (k : ℕ) → AreOffsets n p os → k ≤ p → pos 0 ≤ℤ get_or os k (pos 0)
offsets_low n p os zero h le = let e = h.begins in rw e (omega (arith, ints))
offsets_low n p os (suc k) h le =
    let rec : pos 0 ≤ℤ get_or os k (pos 0) = offsets_low n p os k h (omega arith) in
    let rise : get_or os k (pos 0) ≤ℤ get_or os (k + 1) (pos 0) = h.rises k (omega arith) in
    let same : k + 1 ≡ suc k = omega arith in
    let rise' : get_or os k (pos 0) ≤ℤ get_or os (suc k) (pos 0) = subst (λ m. get_or os k (pos 0) ≤ℤ get_or os m (pos 0)) same rise in
    omega (arith, ints)

offsets_high : (n p : ℕ) (os : List ℤ) (j k : ℕ) → AreOffsets n p os → k + j ≡ p → get_or os k (pos 0) ≤ℤ pos n
offsets_high n p os zero k h e =
    let same : p ≡ k = omega arith in
    let end : get_or os k (pos 0) ≡ pos n = subst (λ m. get_or os m (pos 0) ≡ pos n) same h.ends in
    rw end (omega (arith, ints))
offsets_high n p os (suc j) k h e =
    let rec : get_or os (k + 1) (pos 0) ≤ℤ pos n = offsets_high n p os j (k + 1) h (omega arith) in
    let rise : get_or os k (pos 0) ≤ℤ get_or os (k + 1) (pos 0) = h.rises k (omega arith) in
    omega (arith, ints)

pub offsets_between : (n p : ℕ) (os : List ℤ) (k : ℕ) → AreOffsets n p os → k ≤ p → IsBetween n (get_or os k (pos 0))
offsets_between n p os k h le = record { low = offsets_low n p os k h le; high = offsets_high n p os (p - k) k h (omega arith) }

below_between : (n top : ℕ) (z : ℤ) → IsBetween n z → n < top → IsBelow top z
below_between n top z h l =
    let low = h.low in
    let high = h.high in
    (low, omega (arith, ints))

pub offsets_fit : (n p top : ℕ) (os : List ℤ) → AreOffsets n p os → n < top → All (IsBelow top) os
offsets_fit n p top os h l k d lt =
    let counted = h.counted in
    subst (IsBelow top) (get_or_default os k (pos 0) d lt) (below_between n top (get_or os k (pos 0)) (offsets_between n p os k h (omega arith)) l)

-- ---- marks

-- the balanced offsets divide any extent
pub balanced_divided : (n p : ℕ) → 0 < p → IsDivided n p Balanced
unfolding offset_of
balanced_divided n p some = record {
  begins = omega arith;
  rises = λ i l. let rise : i * div_ceil n p ≤ (i + 1) * div_ceil n p = mul-le-mul_right (div_ceil n p) (omega arith) in omega arith;
  ends =
      let most : n ≤ div_ceil n p * p = (div_ceil_times n p some).0 in
      let turned : div_ceil n p * p ≡ p * div_ceil n p = omega arith in
      omega arith;
}

natural_rises : (a b : ℤ) → pos 0 ≤ℤ a → a ≤ℤ b → natural a ≤ natural b
natural_rises (pos x) (pos y) h l = omega (arith, ints)
natural_rises (pos x) (negsuc y) h l = absurd (omega (arith, ints))
natural_rises (negsuc x) b h l = absurd (omega (arith, ints))

pub get_or-naturals : (os : List ℤ) (k : ℕ) → get_or (map natural os) k 0 ≡ natural (get_or os k (pos 0))
get_or-naturals [] k = refl
get_or-naturals (o ∷ os) zero = refl
get_or-naturals (o ∷ os) (suc k) = get_or-naturals os k

pub length-naturals : (os : List ℤ) → length (map natural os) ≡ length os
length-naturals [] = refl
length-naturals (o ∷ os) = ap suc (length-naturals os)

written_divided : (n p : ℕ) (os : List ℤ) → AreOffsets n p os → IsDivided n p (Offsets (map natural os))
unfolding offset_of
written_divided n p os h = record {
  begins = get_or-naturals os 0 ∙ ap natural h.begins;
  rises = λ i l.
      let at = offsets_between n p os i h (omega arith) in
      let rise = natural_rises (get_or os i (pos 0)) (get_or os (i + 1) (pos 0)) at.low (h.rises i l) in
      rw (get_or-naturals os i, get_or-naturals os (i + 1)) rise;
  ends = get_or-naturals os p ∙ ap natural h.ends;
}

-- what holds of a dimension's mark
pub record IsMarkOf (n p : ℕ) (m : Mark) : Type 0 where
  pub divided : IsDivided n p m
  pub normal : IsNormalMark n p m

pub list_cases : (xs ys : List ℕ) → (xs ≡ ys) ⊎ (xs ≢ ys)
list_cases [] [] = inl refl
list_cases [] (y ∷ ys) = inr (λ e. cc)
list_cases (x ∷ xs) [] = inr (λ e. cc)
list_cases (x ∷ xs) (y ∷ ys) = elim (same_or_not x y) [
  | inl same ↦ elim (list_cases xs ys) [
    | inl rest ↦ inl (ap₂ ◌∷◌ same rest)
    | inr other ↦ inr (λ e. other (cc))
  ]
  | inr other ↦ inr (λ e. other (cc))
]

pub listed_mark : (n p : ℕ) (os : List ℤ) → 0 < p → AreOffsets n p os → IsMarkOf n p (normal_mark n p (map natural os))
listed_mark n p os positive h =
    let divided = written_divided n p os h in
    let counted : length (map natural os) ≡ p + 1 = length-naturals os ∙ h.counted in
    elim (list_cases (map natural os) (offsets_of n p Balanced)) [
      | inl same ↦ subst (IsMarkOf n p) (sym (normal_mark-balanced n p (map natural os) same)) (record { divided = balanced_divided n p positive; normal = tt })
      | inr other ↦
          subst (IsMarkOf n p) (sym (normal_mark-written n p (map natural os) other)) (record { divided = divided; normal = (counted, other) })
    ]

pub written_mark : (n p : ℕ) (os : List ℤ) → 0 < p → AreOffsets n p os → IsMarkOf n p (mark_of n p (map natural os))
unfolding mark_of
written_mark n p [] some h = let counted : 0 ≡ p + 1 = h.counted in absurd (omega arith)
written_mark n p (o ∷ os) some h = listed_mark n p (o ∷ os) some h

pub balanced_mark : (n p : ℕ) → 0 < p → IsMarkOf n p (mark_of n p [])
balanced_mark n p some = subst (IsMarkOf n p) (sym (mark_of-none n p)) (record { divided = balanced_divided n p some; normal = tt })

pub normal_mark-other : (n p : ℕ) (os : List ℕ) → normal_mark n p os ≢ Balanced → normal_mark n p os ≡ Offsets os
normal_mark-other n p os h = elim (list_cases os (offsets_of n p Balanced)) [
  | inl same ↦ absurd (h (normal_mark-balanced n p os same))
  | inr other ↦ normal_mark-written n p os other
]

pub offset_of-written : (n p : ℕ) (os : List ℕ) (k : ℕ) → offset_of n p (Offsets os) k ≡ get_or os k 0
unfolding offset_of
offset_of-written n p os k = refl

-- the offsets of the normal mark are the listed ones
pub normal_mark-offset : (n p : ℕ) (os : List ℕ) (i : ℕ) → length os ≡ p + 1 → i ≤ p → offset_of n p (normal_mark n p os) i ≡ get_or os i 0
normal_mark-offset n p os i counted le = elim (list_cases os (offsets_of n p Balanced)) [
  | inl same ↦ ap (λ m. offset_of n p m i) (normal_mark-balanced n p os same) ∙ sym (get_or-offsets_of n p Balanced i (omega arith)) ∙ ap (λ z. get_or z i 0) (sym same)
  | inr other ↦ ap (λ m. offset_of n p m i) (normal_mark-written n p os other) ∙ offset_of-written n p os i
]

-- ---- marks written and read again

pub natural-pos : (xs : List ℕ) → map natural (map pos xs) ≡ xs
natural-pos [] = refl
natural-pos (x ∷ xs) = ap (λ ys. x ∷ ys) (natural-pos xs)

pub offsets_of-written : (n p : ℕ) (os : List ℕ) → length os ≡ p + 1 → offsets_of n p (Offsets os) ≡ os
unfolding offset_of offsets_of
offsets_of-written n p os counted = sym (fill_by_all (λ k. get_or os k 0) os (p + 1) 0 counted (λ k l. refl))

pub length-offsets_of : (n p : ℕ) (m : Mark) → length (map pos (offsets_of n p m)) ≡ p + 1
unfolding offsets_of
length-offsets_of n p m = length-map (offsets_of n p m) pos ∙ length-map-range_with_len (offset_of n p m) 0 (p + 1)

offset_written : (n p : ℕ) (m : Mark) (k : ℕ) → k < p + 1 → get_or (map pos (offsets_of n p m)) k (pos 0) ≡ pos (offset_of n p m k)
offset_written n p m k l =
    let within : k < length (offsets_of n p m) = omega (arith, length-offsets_of n p m, length-map (offsets_of n p m) pos) in
    get_or-map pos (offsets_of n p m) k 0 (pos 0) within ∙ ap pos (get_or-offsets_of n p m k l)

pub are_offsets : (n p : ℕ) (m : Mark) → IsDivided n p m → AreOffsets n p (map pos (offsets_of n p m))
are_offsets n p m h = record {
  counted = length-offsets_of n p m;
  begins = offset_written n p m 0 (omega arith) ∙ ap pos h.begins;
  rises = λ i l.
      let rise : offset_of n p m i ≤ offset_of n p m (i + 1) = h.rises i l in
      let both : pos (offset_of n p m i) ≤ℤ pos (offset_of n p m (i + 1)) = omega (arith, ints) in
      rw (offset_written n p m i (omega arith), offset_written n p m (i + 1) (omega arith)) both;
  ends = offset_written n p m p (omega arith) ∙ ap pos h.ends;
}

-- the offsets tell the mark
pub mark_of-offsets_of : (n p : ℕ) (m : Mark) → IsNormalMark n p m → mark_of n p (offsets_of n p m) ≡ m
mark_of-offsets_of n p Balanced h = mark_of-balanced n p (offsets_of n p Balanced) refl
mark_of-offsets_of n p (Offsets os) h =
    let some : os ≢ [] = λ e. let none : length os ≡ 0 = ap length e in let counted : length os ≡ p + 1 = h.0 in absurd (omega arith) in
    ap (mark_of n p) (offsets_of-written n p os h.0) ∙ mark_of-written n p os some h.1
