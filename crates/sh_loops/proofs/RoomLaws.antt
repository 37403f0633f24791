-- Room for loops, dimension by dimension: what a walk over the operands knows, and that it decides
-- whether their sizes agree.
use Rattle.std.proofs.Common.{◌≡◌, ℕ, zero, suc, ◌+◌, ◌<◌, ◌≤◌, Bool, true, false, List, [], ◌∷◌, ◌++◌, map, length, get_or, drop, Some, None, refl, ap, ap₂, sym, ◌∙◌, arith, subst, inl, inr, add-one}
use Rattle.std.specs.Prelude.{◌==◌, ◌&&◌, ◌||◌, not, nat_lt, sum, if◌then◌else◌, Option}
use Rattle.std.specs.List.{list_all}
use Rattle.std.proofs.lemmas.Bool.{cases_Bool}
use Rattle.std.proofs.lemmas.Bool.Decides.{nat_tests}
use Rattle.std.proofs.lemmas.List.{drop_all}
use Rattle.std.proofs.lemmas.List.FromFn.{get_or-map-range_with_len}
use Rattle.sh_ir.specs.Loops.{LoopMap}
use Rattle.sh_tensor.specs.Tensor.{TensorValue}
use Rattle.sh_sem.specs.Nest.{Followed, all_followed, extent_of_loop, followed, has_room, have_ranks}
use Rattle.sh_loops.specs.Nests.{all_follow_loops, follows_loops}
use Rattle.sh_loops.specs.Sizes.{AreRanked, agreed_extents, all_with_room, entry_of, extent_by, extents_with, has_room_for, with_room}
use Rattle.sh_loops.proofs.InsideLaws.{both_left, both_right, below_by, equal_by}

-- ---- one operand

and_true : (a b : Bool) → a ≡ true → (a && b) ≡ b
and_true a b e = rw e refl

and_false : (a b : Bool) → a ≡ false → (a && b) ≡ false
and_false a b e = rw e refl

dim_step : (E : List ℕ) (dims : LoopMap) (shape : List ℕ) (i e : ℕ) (d : List ℕ) → i < length dims → length dims ≡ length shape
    → with_room E (followed (drop i dims) (drop i shape)) ≡ (has_room_for E (get_or dims i d) (get_or shape i e) && with_room E (followed (drop (suc i) dims) (drop (suc i) shape)))
unfolding with_room
dim_step E [] shape i e d lt long = absurd (omega (arith, lt))
dim_step E (loops ∷ dims) [] i e d lt long = absurd (omega (arith, long))
dim_step E (loops ∷ dims) (n ∷ shape) zero e d lt long = refl
dim_step E (loops ∷ dims) (n ∷ shape) (suc i) e d lt long = dim_step E dims shape i e d (omega (arith, lt)) (omega (arith, long))

pub dim_passes : (E : List ℕ) (dims : LoopMap) (shape : List ℕ) (i e : ℕ) (d : List ℕ) → i < length dims → length dims ≡ length shape
    → has_room_for E (get_or dims i d) (get_or shape i e) ≡ true
    → with_room E (followed (drop (i + 1) dims) (drop (i + 1) shape)) ≡ with_room E (followed (drop i dims) (drop i shape))
dim_passes E dims shape i e d lt long passes =
    ap (λ n. with_room E (followed (drop n dims) (drop n shape))) (add-one i)
    ∙ sym (dim_step E dims shape i e d lt long ∙ and_true _ _ passes)

pub dim_fails : (E : List ℕ) (dims : LoopMap) (shape : List ℕ) (i e : ℕ) (d : List ℕ) → i < length dims → length dims ≡ length shape
    → has_room_for E (get_or dims i d) (get_or shape i e) ≡ false → with_room E (followed (drop i dims) (drop i shape)) ≡ false
dim_fails E dims shape i e d lt long fails = dim_step E dims shape i e d lt long ∙ and_false _ _ fails

pub dims_end : (E : List ℕ) (dims : LoopMap) (shape : List ℕ) (i : ℕ) → length dims ≤ i → with_room E (followed (drop i dims) shape) ≡ true
unfolding with_room
dims_end E dims shape i past = ap (λ ds. with_room E (followed ds shape)) (drop_all i dims past)

-- ---- all operands

with_room_both : (E : List ℕ) (xs ys : List Followed) → with_room E (xs ++ ys) ≡ (with_room E xs && with_room E ys)
unfolding with_room
with_room_both E [] ys = refl
with_room_both E (x ∷ xs) ys = ap (λ b. has_room_for E x.loops x.extent && b) (with_room_both E xs ys) ∙ apart (has_room_for E x.loops x.extent) (with_room E xs) (with_room E ys)
  where
    apart : (a b c : Bool) → (a && (b && c)) ≡ ((a && b) && c)
    apart true b c = refl
    apart false b c = refl

operand_step : (E : List ℕ) (maps : List LoopMap) (ts : List TensorValue) (i : ℕ) (d : LoopMap) (u : TensorValue) → i < length maps → AreRanked maps ts
    → all_with_room E (drop i maps) (drop i ts) ≡ (with_room E (followed (get_or maps i d) (get_or ts i u).shape) && all_with_room E (drop (suc i) maps) (drop (suc i) ts))
unfolding all_with_room
operand_step E [] ts i d u lt ranked = absurd (omega (arith, lt))
operand_step E (dims ∷ maps) [] i d u lt ranked = absurd ranked
operand_step E (dims ∷ maps) (t ∷ ts) zero d u lt ranked = with_room_both E (followed dims t.shape) (all_followed maps (map (λ t. t.shape) ts))
operand_step E (dims ∷ maps) (t ∷ ts) (suc i) d u lt ranked = operand_step E maps ts i d u (omega (arith, lt)) ranked.1

pub operand_passes : (E : List ℕ) (maps : List LoopMap) (ts : List TensorValue) (i : ℕ) (d : LoopMap) (u : TensorValue) → i < length maps → AreRanked maps ts
    → with_room E (followed (get_or maps i d) (get_or ts i u).shape) ≡ true
    → all_with_room E (drop (i + 1) maps) (drop (i + 1) ts) ≡ all_with_room E (drop i maps) (drop i ts)
operand_passes E maps ts i d u lt ranked passes =
    ap (λ n. all_with_room E (drop n maps) (drop n ts)) (add-one i)
    ∙ sym (operand_step E maps ts i d u lt ranked ∙ and_true _ _ passes)

pub operand_fails : (E : List ℕ) (maps : List LoopMap) (ts : List TensorValue) (i : ℕ) (d : LoopMap) (u : TensorValue) → i < length maps → AreRanked maps ts
    → with_room E (followed (get_or maps i d) (get_or ts i u).shape) ≡ false → all_with_room E (drop i maps) (drop i ts) ≡ false
operand_fails E maps ts i d u lt ranked fails = operand_step E maps ts i d u lt ranked ∙ and_false _ _ fails

pub operands_end : (E : List ℕ) (maps : List LoopMap) (ts : List TensorValue) (i : ℕ) → length maps ≤ i → all_with_room E (drop i maps) ts ≡ true
unfolding all_with_room with_room
operands_end E maps ts i past = ap (λ ms. all_with_room E ms ts) (drop_all i maps past)

-- ---- the extents that were found stand for those of the loops

same_extents : (n : ℕ) (f g : ℕ → ℕ) (loops : List ℕ) → ((l : ℕ) → l < n → f l ≡ g l) → list_all (λ l. nat_lt l n) loops ≡ true → map f loops ≡ map g loops
same_extents n f g [] h all = refl
same_extents n f g (l ∷ loops) h all =
    ap₂ (λ x xs. x ∷ xs) (h l (below_by l n (both_left (nat_lt l n) (list_all (λ k. nat_lt k n) loops) all)))
    (same_extents n f g loops h (both_right (nat_lt l n) (list_all (λ k. nat_lt k n) loops) all))

same_room : (n : ℕ) (f g : ℕ → ℕ) (loops : List ℕ) (e : ℕ) → ((l : ℕ) → l < n → f l ≡ g l) → list_all (λ l. nat_lt l n) loops ≡ true
    → has_room f (record { loops = loops; extent = e }) ≡ has_room g (record { loops = loops; extent = e })
same_room n f g [] e h all = refl
same_room n f g (l ∷ others) e h all =
    ap₂ (λ x xs. (not (length others == 0) && (x == 0)) || (e + length others == sum xs))
    (h l (below_by l n (both_left (nat_lt l n) (list_all (λ k. nat_lt k n) others) all)))
    (same_extents n f g (l ∷ others) h all)

same_dims : (n : ℕ) (E : List ℕ) (g : ℕ → ℕ) (dims : LoopMap) (shape : List ℕ) → ((l : ℕ) → l < n → entry_of E l ≡ g l) → follows_loops n dims ≡ true
    → with_room E (followed dims shape) ≡ list_all (has_room g) (followed dims shape)
unfolding with_room has_room_for
same_dims n E g [] shape h follow = refl
same_dims n E g (loops ∷ dims) [] h follow = refl
same_dims n E g (loops ∷ dims) (e ∷ shape) h follow =
    let first = both_left (nat_lt 0 (length loops) && list_all (λ l. nat_lt l n) loops) (follows_loops n dims) follow in
    ap₂ (λ a b. a && b)
    (same_room n (entry_of E) g loops e h (both_right (nat_lt 0 (length loops)) (list_all (λ l. nat_lt l n) loops) first))
    (same_dims n E g dims shape h (both_right (nat_lt 0 (length loops) && list_all (λ l. nat_lt l n) loops) (follows_loops n dims) follow))

all_both : (t : Followed → Bool) (xs ys : List Followed) → list_all t (xs ++ ys) ≡ (list_all t xs && list_all t ys)
all_both t [] ys = refl
all_both t (x ∷ xs) ys = ap (λ b. t x && b) (all_both t xs ys) ∙ apart (t x) (list_all t xs) (list_all t ys)
  where
    apart : (a b c : Bool) → (a && (b && c)) ≡ ((a && b) && c)
    apart true b c = refl
    apart false b c = refl

same_all : (n : ℕ) (E : List ℕ) (g : ℕ → ℕ) (maps : List LoopMap) (ts : List TensorValue) → ((l : ℕ) → l < n → entry_of E l ≡ g l) → all_follow_loops n maps ≡ true
    → all_with_room E maps ts ≡ list_all (has_room g) (all_followed maps (map (λ t. t.shape) ts))
unfolding all_with_room with_room
same_all n E g [] ts h follow = refl
same_all n E g (dims ∷ maps) [] h follow = refl
same_all n E g (dims ∷ maps) (t ∷ ts) h follow =
    with_room_both E (followed dims t.shape) (all_followed maps (map (λ t. t.shape) ts))
    ∙ ap₂ (λ a b. a && b)
    (same_dims n E g dims t.shape h (both_left (follows_loops n dims) (all_follow_loops n maps) follow))
    (same_all n E g maps ts h (both_right (follows_loops n dims) (all_follow_loops n maps) follow))
    ∙ sym (all_both (has_room g) (followed dims t.shape) (all_followed maps (map (λ t. t.shape) ts)))

found_extents : (maps : List LoopMap) (ts : List TensorValue) (n : ℕ) → all_follow_loops n maps ≡ true
    → all_with_room (extents_with maps ts n) maps ts ≡ list_all (has_room (extent_of_loop (all_followed maps (map (λ t. t.shape) ts)))) (all_followed maps (map (λ t. t.shape) ts))
unfolding extents_with extent_by
found_extents maps ts n follow =
    same_all n (extents_with maps ts n) (extent_by maps ts) maps ts (λ l lt. get_or-map-range_with_len (extent_by maps ts) 0 n l l 0 lt (omega arith)) follow

-- ---- the sizes agree

ranks_tested : (maps : List LoopMap) (ts : List TensorValue) → AreRanked maps ts → have_ranks maps (map (λ t. t.shape) ts) ≡ true
ranks_tested [] [] ranked = refl
ranks_tested [] (t ∷ ts) ranked = absurd ranked
ranks_tested (dims ∷ maps) [] ranked = absurd ranked
ranks_tested (dims ∷ maps) (t ∷ ts) ranked =
    let one : (length dims == length t.shape) ≡ true = grind (arith, nat_tests, ranked.0) in
    rw one (ranks_tested maps ts ranked.1)

tested_ranks : (maps : List LoopMap) (ts : List TensorValue) → have_ranks maps (map (λ t. t.shape) ts) ≡ true → AreRanked maps ts
tested_ranks [] [] h = tt
tested_ranks [] (t ∷ ts) h = absurd (cc)
tested_ranks (dims ∷ maps) [] h = absurd (cc)
tested_ranks (dims ∷ maps) (t ∷ ts) h = (
  equal_by (length dims) (length t.shape) (both_left (length dims == length t.shape) (have_ranks maps (map (λ t. t.shape) ts)) h),
  tested_ranks maps ts (both_right (length dims == length t.shape) (have_ranks maps (map (λ t. t.shape) ts)) h),
)

pub not_ranked : (maps : List LoopMap) (ts : List TensorValue) (n : ℕ) → (AreRanked maps ts → ⊥) → None ≡ agreed_extents maps ts n
unfolding agreed_extents
not_ranked maps ts n h =
    elim (cases_Bool (have_ranks maps (map (λ t. t.shape) ts))) [
      | inl b ↦ absurd (h (tested_ranks maps ts b))
      | inr b ↦ rw b refl
    ]

decided : (ranks room : Bool) (r : Bool) (found : List ℕ) → ranks ≡ true → r ≡ room → (if ranks && room then Some found else None) ≡ (if r then Some found else None)
decided ranks room r found a b = rw (a, b) refl

agreed_by : (maps : List LoopMap) (ts : List TensorValue) (n : ℕ) (r : Bool) → AreRanked maps ts → all_follow_loops n maps ≡ true → r ≡ all_with_room (extents_with maps ts n) maps ts
    → agreed_extents maps ts n ≡ (if r then Some (extents_with maps ts n) else None)
unfolding agreed_extents
agreed_by maps ts n r ranked follow e =
    decided (have_ranks maps (map (λ t. t.shape) ts)) (list_all (has_room (extent_of_loop (all_followed maps (map (λ t. t.shape) ts)))) (all_followed maps (map (λ t. t.shape) ts))) r (extents_with maps ts n)
    (ranks_tested maps ts ranked) (e ∙ found_extents maps ts n follow)

pub no_room : (maps : List LoopMap) (ts : List TensorValue) (n : ℕ) (found : List ℕ) (r : Bool) → AreRanked maps ts → all_follow_loops n maps ≡ true → found ≡ extents_with maps ts n
    → r ≡ all_with_room found maps ts → r ≡ false → None ≡ agreed_extents maps ts n
no_room maps ts n found r ranked follow is e fails =
    sym (agreed_by maps ts n r ranked follow (e ∙ ap (λ E. all_with_room E maps ts) is) ∙ ap (λ b. if b then Some (extents_with maps ts n) else None) fails)

pub with_all_room : (maps : List LoopMap) (ts : List TensorValue) (n : ℕ) (found : List ℕ) (r : Bool) → AreRanked maps ts → all_follow_loops n maps ≡ true → found ≡ extents_with maps ts n
    → r ≡ all_with_room found maps ts → r ≡ true → Some found ≡ agreed_extents maps ts n
with_all_room maps ts n found r ranked follow is e passes =
    ap (λ E. Some E) is
    ∙ sym (agreed_by maps ts n r ranked follow (e ∙ ap (λ E. all_with_room E maps ts) is) ∙ ap (λ b. if b then Some (extents_with maps ts n) else None) passes)
