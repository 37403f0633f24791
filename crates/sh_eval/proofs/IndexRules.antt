-- Indices of joined tensors, and of tensors whose operands are read.
use Rattle.std.proofs.Common.{◌≡◌, ℕ, zero, suc, ◌+◌, ◌-◌, ◌<◌, ◌≤◌, true, false, List, [], ◌∷◌, length, get_or, drop, set, min, refl, ap, sym, ◌∙◌, arith, add-one}
use Rattle.std.specs.Prelude.{nat_lt, zip, ℤ, if◌then◌else◌}
use Rattle.std.proofs.lemmas.Bool.Decides.{nat_tests}
use Rattle.std.proofs.lemmas.List.{set-set}
use Rattle.std.specs.List.{AllByRecursion}
use Rattle.sh_base.specs.declared.numbers.Width.{Width}
use Rattle.sh_ir.specs.Numbers.{as_naturals}
use Rattle.sh_ir.specs.declared.types.Dim.{Dim}
use Rattle.sh_tensor.specs.Tensor.{TensorValue, at, extent, joined_at}
use Rattle.sh_eval.specs.declared.slices.SliceRange.{SliceRange}
use Rattle.sh_eval.specs.Slices.{ranges_in}
use Rattle.sh_sem.specs.Pieces.{is_own, padded_shape, without_padding}
use Rattle.sh_sem.specs.Slices.{Range, ranges_by}

-- the coordinate that is less stands there too
pub kept_place : (i : List ℕ) (axis p q : ℕ) → get_or (set i axis p) axis 0 ≡ p → q ≤ p → get_or (set i axis q) axis 0 ≡ q
kept_place [] axis p q e l = omega (arith, e, l)
kept_place (x ∷ i) zero p q e l = refl
kept_place (x ∷ i) (suc axis) p q e l = kept_place i axis p q e l

joined_first : (axis : ℕ) (ts : List TensorValue) (k : ℕ) (t : TensorValue) (i : List ℕ) → k < length ts → t ≡ get_or ts k t
    → joined_at axis (drop k ts) i ≡ (if nat_lt (get_or i axis 0) (extent t axis) then at t i else joined_at axis (drop (suc k) ts) (set i axis (get_or i axis 0 - extent t axis)))
joined_first axis [] k t i l e = absurd (omega (arith, l))
joined_first axis (u ∷ ts) zero t i l e =
    ap (λ (v : TensorValue). if nat_lt (get_or i axis 0) (extent v axis) then at v i else joined_at axis ts (set i axis (get_or i axis 0 - extent v axis))) (sym e)
joined_first axis (u ∷ ts) (suc k) t i l e = joined_first axis ts k t i (omega (arith, l)) e

pub joined_here : (axis : ℕ) (ts : List TensorValue) (k : ℕ) (t : TensorValue) (i : List ℕ) (p e : ℕ) → k < length ts → t ≡ get_or ts k t → get_or i axis 0 ≡ p → e ≡ extent t axis
    → p < e → joined_at axis (drop k ts) i ≡ at t i
joined_here axis ts k t i p e l is place size below =
    let test : nat_lt (get_or i axis 0) (extent t axis) ≡ true = let h : get_or i axis 0 < extent t axis = rw (place, ← size) below in grind (arith, nat_tests) in
    joined_first axis ts k t i l is ∙ ap (λ b. if b then at t i else joined_at axis (drop (suc k) ts) (set i axis (get_or i axis 0 - extent t axis))) test

pub joined_next : (axis : ℕ) (ts : List TensorValue) (k : ℕ) (t : TensorValue) (i : List ℕ) (p e q : ℕ) → k < length ts → t ≡ get_or ts k t → get_or (set i axis p) axis 0 ≡ p → e ≡ extent t axis
    → e ≤ p → q ≡ p - e → joined_at axis (drop (k + 1) ts) (set i axis q) ≡ joined_at axis (drop k ts) (set i axis p)
joined_next axis ts k t i p e q l is place size above left =
    let test : nat_lt (get_or (set i axis p) axis 0) (extent t axis) ≡ false = let h : extent t axis ≤ get_or (set i axis p) axis 0 = rw (place, ← size) above in grind (arith, nat_tests) in
    let rest : get_or (set i axis p) axis 0 - extent t axis ≡ q = rw (place, ← size) (sym left) in
    sym (joined_first axis ts k t (set i axis p) l is
    ∙ ap (λ b. if b then at t (set i axis p) else joined_at axis (drop (suc k) ts) (set (set i axis p) axis (get_or (set i axis p) axis 0 - extent t axis))) test
    ∙ ap (λ r. joined_at axis (drop (suc k) ts) (set (set i axis p) axis r)) rest
    ∙ ap (joined_at axis (drop (suc k) ts)) (set-set i axis p q)
    ∙ ap (λ n. joined_at axis (drop n ts) (set i axis q)) (sym (add-one k)))

pub joined_end : (axis : ℕ) (ts : List TensorValue) (k : ℕ) (i : List ℕ) → length ts ≤ k → joined_at axis (drop k ts) i ≡ joined_at axis [] i
joined_end axis [] zero i l = refl
joined_end axis [] (suc k) i l = refl
joined_end axis (t ∷ ts) zero i l = absurd (omega (arith, l))
joined_end axis (t ∷ ts) (suc k) i l = joined_end axis ts k i (omega (arith, l))

-- an operand is of the width that all have
pub all_at : (w : Width) (ts : List TensorValue) (k : ℕ) (d : TensorValue) → AllByRecursion (λ (t : TensorValue). t.width ≡ w) ts → k < length ts → (get_or ts k d).width ≡ w
all_at w [] k d all l = absurd (omega (arith, l))
all_at w (t ∷ ts) zero d all l = all.0
all_at w (t ∷ ts) (suc k) d all l = all_at w ts k d all.1 (omega (arith, l))

-- ---- lists that are walked side by side end with the shortest

zip_none : (ranges : List Range) (i : List ℕ) → i ≡ [] → zip ranges i ≡ []
zip_none [] i e = refl
zip_none (r ∷ ranges) i e = ap (zip (r ∷ ranges)) e

pub zip_end : (ranges : List SliceRange) (i : List ℕ) (k : ℕ) → min (length ranges) (length i) ≤ k → zip (ranges_in (drop k ranges)) (drop k i) ≡ []
zip_end [] i zero l = refl
zip_end [] i (suc k) l = refl
zip_end (r ∷ ranges) [] zero l = refl
zip_end (r ∷ ranges) [] (suc k) l = zip_none (ranges_in (drop k ranges)) [] refl
zip_end (r ∷ ranges) (n ∷ i) zero l = absurd (omega (arith, l))
zip_end (r ∷ ranges) (n ∷ i) (suc k) l = zip_end ranges i k (omega (arith, l))

own_none : (low shape i : List ℕ) → shape ≡ [] → is_own low shape i ≡ true
own_none [] shape i e = refl
own_none (l ∷ low) shape i e = ap (λ s. is_own (l ∷ low) s i) e

own_last : (low shape i : List ℕ) → i ≡ [] → is_own low shape i ≡ true
own_last [] shape i e = refl
own_last (l ∷ low) [] i e = refl
own_last (l ∷ low) (n ∷ shape) i e = ap (is_own (l ∷ low) (n ∷ shape)) e

pub own_end : (low : List ℤ) (shape i : List ℕ) (k : ℕ) → min (min (length low) (length shape)) (length i) ≤ k → is_own (as_naturals (drop k low)) (drop k shape) (drop k i) ≡ true
own_end [] shape i zero l = refl
own_end [] shape i (suc k) l = refl
own_end (z ∷ low) [] i zero l = refl
own_end (z ∷ low) [] i (suc k) l = own_none (as_naturals (drop k low)) [] (drop (suc k) i) refl
own_end (z ∷ low) (n ∷ shape) [] zero l = refl
own_end (z ∷ low) (n ∷ shape) [] (suc k) l = own_last (as_naturals (drop k low)) (drop k shape) [] refl
own_end (z ∷ low) (n ∷ shape) (j ∷ i) zero l = absurd (omega (arith, l))
own_end (z ∷ low) (n ∷ shape) (j ∷ i) (suc k) l = own_end low shape i k (omega (arith, l))

unpadded_none : (low i : List ℕ) → i ≡ [] → without_padding low i ≡ []
unpadded_none [] i e = refl
unpadded_none (l ∷ low) i e = ap (without_padding (l ∷ low)) e

pub unpadded_end : (low : List ℤ) (i : List ℕ) (k : ℕ) → min (length low) (length i) ≤ k → without_padding (as_naturals (drop k low)) (drop k i) ≡ []
unpadded_end [] i zero l = refl
unpadded_end [] i (suc k) l = refl
unpadded_end (z ∷ low) [] zero l = refl
unpadded_end (z ∷ low) [] (suc k) l = unpadded_none (as_naturals (drop k low)) [] refl
unpadded_end (z ∷ low) (j ∷ i) zero l = absurd (omega (arith, l))
unpadded_end (z ∷ low) (j ∷ i) (suc k) l = unpadded_end low i k (omega (arith, l))

padded_none : (low high shape : List ℕ) → high ≡ [] → padded_shape low high shape ≡ []
padded_none [] high shape e = refl
padded_none (l ∷ low) high shape e = ap (λ h. padded_shape (l ∷ low) h shape) e

padded_last : (low high shape : List ℕ) → shape ≡ [] → padded_shape low high shape ≡ []
padded_last [] high shape e = refl
padded_last (l ∷ low) [] shape e = refl
padded_last (l ∷ low) (h ∷ high) shape e = ap (padded_shape (l ∷ low) (h ∷ high)) e

pub padded_end : (low high : List ℤ) (shape : List ℕ) (k : ℕ) → min (min (length low) (length high)) (length shape) ≤ k
    → padded_shape (as_naturals (drop k low)) (as_naturals (drop k high)) (drop k shape) ≡ []
padded_end [] high shape zero l = refl
padded_end [] high shape (suc k) l = refl
padded_end (z ∷ low) [] shape zero l = refl
padded_end (z ∷ low) [] shape (suc k) l = padded_none (as_naturals (drop k low)) [] (drop (suc k) shape) refl
padded_end (z ∷ low) (y ∷ high) [] zero l = refl
padded_end (z ∷ low) (y ∷ high) [] (suc k) l = padded_last (as_naturals (drop k low)) (as_naturals (drop k high)) [] refl
padded_end (z ∷ low) (y ∷ high) (n ∷ shape) zero l = absurd (omega (arith, l))
padded_end (z ∷ low) (y ∷ high) (n ∷ shape) (suc k) l = padded_end low high shape k (omega (arith, l))

second_none : (ds : List Dim) (ss os ks ts : List ℕ) → ss ≡ [] → ranges_by ds ss os ks ts ≡ []
second_none [] ss os ks ts e = refl
second_none (d ∷ ds) ss os ks ts e = ap (λ x. ranges_by (d ∷ ds) x os ks ts) e

third_none : (ds : List Dim) (ss os ks ts : List ℕ) → os ≡ [] → ranges_by ds ss os ks ts ≡ []
third_none [] ss os ks ts e = refl
third_none (d ∷ ds) [] os ks ts e = refl
third_none (d ∷ ds) (s ∷ ss) os ks ts e = ap (λ x. ranges_by (d ∷ ds) (s ∷ ss) x ks ts) e

fourth_none : (ds : List Dim) (ss os ks ts : List ℕ) → ks ≡ [] → ranges_by ds ss os ks ts ≡ []
fourth_none [] ss os ks ts e = refl
fourth_none (d ∷ ds) [] os ks ts e = refl
fourth_none (d ∷ ds) (s ∷ ss) [] ks ts e = refl
fourth_none (d ∷ ds) (s ∷ ss) (o ∷ os) ks ts e = ap (λ x. ranges_by (d ∷ ds) (s ∷ ss) (o ∷ os) x ts) e

fifth_none : (ds : List Dim) (ss os ks ts : List ℕ) → ts ≡ [] → ranges_by ds ss os ks ts ≡ []
fifth_none [] ss os ks ts e = refl
fifth_none (d ∷ ds) [] os ks ts e = refl
fifth_none (d ∷ ds) (s ∷ ss) [] ks ts e = refl
fifth_none (d ∷ ds) (s ∷ ss) (o ∷ os) [] ts e = refl
fifth_none (d ∷ ds) (s ∷ ss) (o ∷ os) (k ∷ ks) ts e = ap (ranges_by (d ∷ ds) (s ∷ ss) (o ∷ os) (k ∷ ks)) e

pub ranges_end : (ds : List Dim) (ss : List ℕ) (os ks ts : List ℤ) (k : ℕ) → min (min (length ds) (length ss)) (min (min (length os) (length ks)) (length ts)) ≤ k
    → ranges_by (drop k ds) (drop k ss) (as_naturals (drop k os)) (as_naturals (drop k ks)) (as_naturals (drop k ts)) ≡ []
ranges_end [] ss os ks ts zero l = refl
ranges_end [] ss os ks ts (suc k) l = refl
ranges_end (d ∷ ds) [] os ks ts zero l = refl
ranges_end (d ∷ ds) [] os ks ts (suc k) l = second_none (drop k ds) [] (as_naturals (drop (suc k) os)) (as_naturals (drop (suc k) ks)) (as_naturals (drop (suc k) ts)) refl
ranges_end (d ∷ ds) (s ∷ ss) [] ks ts zero l = refl
ranges_end (d ∷ ds) (s ∷ ss) [] ks ts (suc k) l = third_none (drop k ds) (drop k ss) [] (as_naturals (drop (suc k) ks)) (as_naturals (drop (suc k) ts)) refl
ranges_end (d ∷ ds) (s ∷ ss) (o ∷ os) [] ts zero l = refl
ranges_end (d ∷ ds) (s ∷ ss) (o ∷ os) [] ts (suc k) l = fourth_none (drop k ds) (drop k ss) (as_naturals (drop k os)) [] (as_naturals (drop (suc k) ts)) refl
ranges_end (d ∷ ds) (s ∷ ss) (o ∷ os) (n ∷ ks) [] zero l = refl
ranges_end (d ∷ ds) (s ∷ ss) (o ∷ os) (n ∷ ks) [] (suc k) l = fifth_none (drop k ds) (drop k ss) (as_naturals (drop k os)) (as_naturals (drop k ks)) [] refl
ranges_end (d ∷ ds) (s ∷ ss) (o ∷ os) (n ∷ ks) (t ∷ ts) zero l = absurd (omega (arith, l))
ranges_end (d ∷ ds) (s ∷ ss) (o ∷ os) (n ∷ ks) (t ∷ ts) (suc k) l = ranges_end ds ss os ks ts k (omega (arith, l))
