-- The pieces of a tensor along an axis, one after the other, are the tensor; and slices along two
-- axes may be taken in either order.
use Rattle.std.proofs.Common.{ap₂, ◌≡◌, ◌≢◌, ◌∙◌, ℕ, zero, suc, ◌+◌, ◌-◌, ◌<◌, ◌≤◌, Bool, true, false, List, [], ◌∷◌, map, length, get_or, set, Some, refl, ap, sym, subst, inl, inr, arith}
use Rattle.std.specs.Prelude.{nat_eq, nat_lt}
use Rattle.std.specs.Cmp.Lexicographic.{pointwise}
use Rattle.std.specs.List.{list_all, range_with_len}
use Rattle.std.proofs.lemmas.Bool.{and_from, cases_lt, lt-ltb}
use Rattle.std.proofs.lemmas.Bool.Decides.{nat_tests}
use Rattle.std.proofs.lemmas.List.{get_or-set_other, get_or-set_same, length-set, set-get_or, set-set, set_comm}
use Rattle.std.proofs.lemmas.Slice.Eq.{bytes_eq-Decides}
use Rattle.sh_base.specs.Shape.{IsIndexOf}
use Rattle.sh_base.proofs.IndexLaws.{IsIndexOf-entry, IsIndexOf-long}
use Rattle.sh_tensor.specs.Tensor.{TensorValue, at, build, extent, joined_at, slice_of}
use Rattle.sh_tensor.proofs.JoinLaws.{index_at, index_within}
use Rattle.sh_tensor.proofs.SliceLaws.{at-slice_of, sliced_index}
use Rattle.sh_tensor.proofs.TensorLaws.{build-ext}
use Rattle.sh_sem.specs.Pieces.{is_like, joined_shape, total_extent}

-- ---- lists by number

pub map_map : {X Y Z : Type 0} (f : Y → Z) (g : X → Y) (xs : List X) → map f (map g xs) ≡ map (λ x. f (g x)) xs
map_map f g [] = refl
map_map f g (x ∷ xs) = ap (λ ys. f (g x) ∷ ys) (map_map f g xs)

pub same_range : {X : Type 0} (f g : ℕ → X) (a n : ℕ) → ((q : ℕ) → q < a + n → f q ≡ g q) → map f (range_with_len a n) ≡ map g (range_with_len a n)
same_range f g a zero is = refl
same_range f g a (suc n) is = ap₂ (λ x xs. x ∷ xs) (is a (omega arith)) (same_range f g (a + 1) n (λ q below. is q (omega (arith, below))))

pub all_range : {X : Type 0} (test : X → Bool) (f : ℕ → X) (a n : ℕ) → ((q : ℕ) → q < a + n → test (f q) ≡ true) → list_all test (map f (range_with_len a n)) ≡ true
all_range test f a zero all = refl
all_range test f a (suc n) all = and_from (test (f a)) (list_all test (map f (range_with_len (a + 1) n))) (all a (omega arith)) (all_range test f (a + 1) n (λ q below. all q (omega (arith, below))))

-- ---- pieces

-- piece q of a tensor along an axis: from where it begins to where the next one does
abbrev pub piece : TensorValue → ℕ → (ℕ → ℕ) → ℕ → TensorValue
piece t k off q = slice_of t k (off q) (off (q + 1) - off q)

past : (x n : ℕ) → n ≤ x → nat_lt x n ≡ false
past x n le = grind (arith, nat_tests)

module _ (t : TensorValue) (k : ℕ) (off : ℕ → ℕ) (ranked : k < length t.shape) where
  first_cell : (p : TensorValue) (ps : List TensorValue) (i : List ℕ) → get_or i k 0 < extent p k → joined_at k (p ∷ ps) i ≡ at p i
  first_cell p ps i below = rw (lt-ltb (get_or i k 0) (extent p k) below) refl

  later_cell : (p : TensorValue) (ps : List TensorValue) (i : List ℕ) → extent p k ≤ get_or i k 0 → joined_at k (p ∷ ps) i ≡ joined_at k ps (set i k (get_or i k 0 - extent p k))
  later_cell p ps i above = rw (past (get_or i k 0) (extent p k) above) refl

  long : (q : ℕ) → extent (piece t k off q) k ≡ off (q + 1) - off q
  long q = get_or-set_same t.shape k (off (q + 1) - off q) 0 ranked

  -- the cells of the pieces from number a on
  joined : (a n : ℕ) (i : List ℕ) (m : ℕ) → ((q : ℕ) → q < a + n → off q ≤ off (q + 1)) → IsIndexOf (set t.shape k m) i → off a + get_or i k 0 < off (a + n)
      → joined_at k (map (piece t k off) (range_with_len a n)) i ≡ at t (set i k (off a + get_or i k 0))
  joined a zero i m rises index below = let same : a + 0 ≡ a = omega arith in let none : off a + get_or i k 0 < off a = subst (λ n. off a + get_or i k 0 < off n) same below in absurd (omega (arith, none))
  joined a (suc n) i m rises index below =
      let x : ℕ = get_or i k 0 in
      let size : ℕ = off (a + 1) - off a in
      let up : off a ≤ off (a + 1) = rises a (omega arith) in
      let own : k < length i = IsIndexOf-long (set t.shape k m) i k index (rw (length-set t.shape k m) ranked) in
      elim (cases_lt x size) [
        | inl less ↦
            first_cell (piece t k off a) (map (piece t k off) (range_with_len (a + 1) n)) i (rw (long a) less)
            ∙ at-slice_of t k (off a) size i (index_within t.shape i k m size index less)
        | inr more ↦
            let y : ℕ = x - size in
            let entry : get_or (set i k y) k 0 ≡ y = get_or-set_same i k y 0 own in
            let number : a + 1 + n ≡ a + suc n = omega arith in
            let there : off (a + 1) + get_or (set i k y) k 0 < off (a + 1 + n) =
            rw entry (subst (λ e. off (a + 1) + y < off e) (sym number) (omega (arith, below, up, more))) in
            let moved : off (a + 1) + y ≡ off a + x = omega (arith, up, more) in
            later_cell (piece t k off a) (map (piece t k off) (range_with_len (a + 1) n)) i (rw (long a) more)
            ∙ ap (λ e. joined_at k (map (piece t k off) (range_with_len (a + 1) n)) (set i k (x - e))) (long a)
            ∙ joined (a + 1) n (set i k y) (y + 1) (λ q before. rises q (omega (arith, before))) (index_at t.shape i k m (y + 1) y index (omega arith)) there
            ∙ ap (λ e. at t (set (set i k y) k (off (a + 1) + e))) entry
            ∙ ap (λ j. at t j) (set-set i k y (off (a + 1) + y))
            ∙ ap (λ e. at t (set i k e)) moved
      ]

  -- the cells of all pieces are the tensor's
  pub joined_whole : (n : ℕ) (i : List ℕ) → ((q : ℕ) → q < n → off q ≤ off (q + 1)) → off 0 ≡ 0 → off n ≡ get_or t.shape k 0 → IsIndexOf t.shape i
      → joined_at k (map (piece t k off) (range_with_len 0 n)) i ≡ at t i
  joined_whole n i rises begins ends index =
      let zero_first : 0 + n ≡ n = omega arith in
      let below : get_or i k 0 < get_or t.shape k 0 = IsIndexOf-entry t.shape i k index ranked in
      let there : off 0 + get_or i k 0 < off (0 + n) = subst (λ e. off 0 + get_or i k 0 < off e) (sym zero_first) (omega (arith, below, begins, ends)) in
      let own : off 0 + get_or i k 0 ≡ get_or i k 0 = omega (arith, begins) in
      joined 0 n i (get_or t.shape k 0) (λ q before. rises q (omega (arith, before))) (subst (λ s. IsIndexOf s i) (sym (set-get_or t.shape k 0)) index) there
      ∙ ap (λ e. at t (set i k e)) own
      ∙ ap (λ j. at t j) (set-get_or i k 0)

  -- ---- their shapes

  total : (a n : ℕ) → ((q : ℕ) → q < a + n → off q ≤ off (q + 1)) → total_extent k (map (λ q. (piece t k off q).shape) (range_with_len a n)) + off a ≡ off (a + n)
  total a zero rises = let same : a ≡ a + 0 = omega arith in let e = ap off same in omega (arith, e)
  total a (suc n) rises =
      let rest = total (a + 1) n (λ q before. rises q (omega (arith, before))) in
      let up : off a ≤ off (a + 1) = rises a (omega arith) in
      let number : a + 1 + n ≡ a + suc n = omega arith in
      let size = long a in
      subst (λ e. get_or (set t.shape k (off (a + 1) - off a)) k 0 + total_extent k (map (λ q. (piece t k off q).shape) (range_with_len (a + 1) n)) + off a ≡ off e) number (omega (arith, rest, up, size))

  like : (q r : ℕ) → is_like k (piece t k off q).shape (piece t k off r).shape ≡ true
  like q r =
      ap₂ (λ s u. pointwise nat_eq s u) (set-set t.shape k (off (q + 1) - off q) 0) (set-set t.shape k (off (r + 1) - off r) 0)
      ∙ (bytes_eq-Decides (set t.shape k 0) (set t.shape k 0)).1 refl

  pub joined_shape_whole : (n : ℕ) → 0 < n → ((q : ℕ) → q < n → off q ≤ off (q + 1)) → off 0 ≡ 0 → off n ≡ get_or t.shape k 0
      → joined_shape k (map (λ q. (piece t k off q).shape) (range_with_len 0 n)) ≡ Some t.shape
  joined_shape_whole zero some rises begins ends = absurd (omega arith)
  joined_shape_whole (suc n) some rises begins ends =
      let all : list_all (is_like k (piece t k off 0).shape) (map (λ q. (piece t k off q).shape) (range_with_len 1 n)) ≡ true =
      all_range (is_like k (piece t k off 0).shape) (λ q. (piece t k off q).shape) 1 n (λ q below. like 0 q) in
      let zero_first : 0 + suc n ≡ suc n = omega arith in
      let sum = total 0 (suc n) (λ q before. rises q (omega (arith, before))) in
      let same : total_extent k (map (λ q. (piece t k off q).shape) (range_with_len 0 (suc n))) ≡ get_or t.shape k 0 =
      let last : off (0 + suc n) ≡ get_or t.shape k 0 = ap off zero_first ∙ ends in omega (arith, sum, last, begins) in
      rw all (ap Some (ap (set (piece t k off 0).shape k) same ∙ set-set t.shape k (off (0 + 1) - off 0) (get_or t.shape k 0) ∙ set-get_or t.shape k 0))

-- ---- slices along two axes

module _ (t : TensorValue) (d e : ℕ) (apart : d ≢ e) (from size start count : ℕ) (ranked : d < length t.shape) (ranked_too : e < length t.shape)
    (within : from + size ≤ get_or t.shape d 0) (within_too : start + count ≤ get_or t.shape e 0) where
  apart_too : e ≢ d
  apart_too same = apart (sym same)

  both_cells : (i : List ℕ) → IsIndexOf (set (set t.shape d size) e count) i
      → at (slice_of t d from size) (set i e (start + get_or i e 0)) ≡ at t (set (set i e (start + get_or i e 0)) d (from + get_or i d 0))
  both_cells i index =
      let has : e < length (set t.shape d size) = rw (length-set t.shape d size) ranked_too in
      let room : start + count ≤ get_or (set t.shape d size) e 0 = rw (get_or-set_other t.shape d e size 0 apart_too) within_too in
      let other : get_or (set i e (start + get_or i e 0)) d 0 ≡ get_or i d 0 = get_or-set_other i e d (start + get_or i e 0) 0 apart in
      at-slice_of t d from size (set i e (start + get_or i e 0)) (sliced_index (set t.shape d size) i e start count has room index)
      ∙ ap (λ x. at t (set (set i e (start + get_or i e 0)) d (from + x))) other

pub slices_commute : (t : TensorValue) (d e : ℕ) → d ≢ e → (from size start count : ℕ) → d < length t.shape → e < length t.shape → from + size ≤ get_or t.shape d 0 → start + count ≤ get_or t.shape e 0
    → slice_of (slice_of t d from size) e start count ≡ slice_of (slice_of t e start count) d from size
slices_commute t d e apart from size start count ranked ranked_too within within_too =
    let shapes : set (set t.shape d size) e count ≡ set (set t.shape e count) d size = set_comm t.shape d e size count apart in
    build-ext (set (set t.shape d size) e count) t.width
    (λ i. at (slice_of t d from size) (set i e (start + get_or i e 0)))
    (λ i. at (slice_of t e start count) (set i d (from + get_or i d 0)))
    (λ i index.
    both_cells t d e apart from size start count ranked ranked_too within within_too i index
    ∙ ap (λ j. at t j) (set_comm i e d (start + get_or i e 0) (from + get_or i d 0) (λ same. apart (sym same)))
    ∙ sym (both_cells t e d (λ same. apart (sym same)) start count from size ranked_too ranked within_too within i (subst (λ s. IsIndexOf s i) shapes index)))
    ∙ ap (λ s. build s t.width (λ i. at (slice_of t e start count) (set i d (from + get_or i d 0)))) shapes
