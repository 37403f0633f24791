-- What views of dimensions describe.
use Rattle.std.proofs.Common.{◌≡◌, ◌≢◌, ℕ, zero, suc, min, inl, inr, max, ◌+◌, ◌-◌, ◌*◌, ◌<◌, ◌≤◌, List, [], ◌∷◌, ◌++◌, length, get_or, map, take, set, refl, ap, ap₂, sym, ◌∙◌, arith, subst, ℤ, pos, negsuc}
use Rattle.std.specs.Prelude.{unsigned_abs, ◌≤ℤ◌, Option, Some, None, MatchOption, IsSome}
use Rattle.std.specs.List.{All}
use Rattle.std.proofs.lemmas.List.Elements.{All-weaker, All-head, All-tail}
use Rattle.std.proofs.lemmas.Int.{ints}
use Rattle.std.proofs.lemmas.List.{take-take, take_all, take_more, take_more_set, length-set}
use Rattle.sh_base.specs.Limits.{max_devices}
use Rattle.sh_base.specs.Shape.{max_rank}
use Rattle.sh_sharding.specs.declared.shardings.Dimension.{Dimension}
use Rattle.sh_sharding.specs.declared.views.AxisList.{AxisList}
use Rattle.sh_sharding.specs.declared.views.DimensionView.{DimensionView}
use Rattle.sh_sharding.specs.declared.shardings.Mark.{Mark}
use Rattle.sh_sharding.specs.declared.shardings.Mark.TheVariants.{Balanced, Offsets}
use Rattle.sh_sharding.specs.Sharding.{offset_of, offsets_of, size_of_part, largest_to, IsDivided, IsNormalMark}
use Rattle.sh_sharding.specs.AxisLists.{natural, IsBelow, IsNatural}
use Rattle.sh_sharding.specs.OffsetLists.{AreOffsets, normal_mark, mark_of}
use Rattle.sh_sharding.specs.Views.{axes_in, scaled, IsRising, IsViewOf, AreViewsOf, offsets_in, mark_in, IsBetween, IsDividing, IsMarkView, HasOrder, HasNaturals}
use Rattle.sh_sharding.proofs.MarkLaws.{IsMarkOf, list_cases, offsets_fit, normal_mark-balanced, natural-pos, offsets_of-written, are_offsets, normal_mark-written, offsets_between, get_or-naturals, length-naturals, normal_mark-offset, offset_of-written, are_offsets_of, balanced_divided, listed_mark}
use Rattle.sh_sharding.proofs.Cases.{lt_or_le}
use Rattle.sh_sharding.specs.declared.views.MarkView.{MarkView}
use Rattle.sh_sharding.specs.declared.views.MarkView.TheVariants.{Balanced as BalancedView, Listed}
use Rattle.sh_sharding.specs.declared.views.Listing.TheVariants.{Offsets as OwnOffsets, Scaled}

-- ---- listed numbers

pub scaled_product : (factor product : ℕ) (number : ℤ) → pos 0 ≤ℤ number → product ≡ unsigned_abs number * factor → scaled factor number ≡ pos product
scaled_product factor product (pos n) low e = ap pos (let turned : factor * n ≡ n * factor = omega arith in turned ∙ sym e)
scaled_product factor product (negsuc n) low e = absurd (omega (arith, ints))

pub found_some : (r : Option ℕ) (n : ℕ) (z : ℤ) (P : ℕ → Type 0) → MatchOption r (¬ IsBetween n z) P → IsBetween n z → IsSome r
found_some None n z P h within = absurd (h within)
found_some (Some x) n z P h within = refl

pub balanced-within : (n p i : ℕ) → offset_of n p Balanced i ≤ n
unfolding offset_of
balanced-within n p i = omega arith

-- the offset that the code reads
pub listed_value : (n p i found : ℕ) (zs : List ℤ) → AreOffsets n p zs → i ≤ p → get_or zs i (pos 0) ≡ pos found → found ≡ offset_of n p (normal_mark n p (map natural zs)) i
listed_value n p i found zs h le e =
    let counted : length (map natural zs) ≡ p + 1 = length-naturals zs ∙ h.counted in
    sym (ap natural e) ∙ sym (get_or-naturals zs i) ∙ sym (normal_mark-offset n p (map natural zs) i counted le)

-- a factor of 1
pub scaled-one : (zs : List ℤ) → map (scaled 1) zs ≡ zs
scaled-one [] = refl
scaled-one (pos n ∷ zs) = ap₂ ◌∷◌ (ap pos (let one : 1 * n ≡ n = omega arith in one)) (scaled-one zs)
scaled-one (negsuc n ∷ zs) = ap (λ xs. negsuc n ∷ xs) (scaled-one zs)

-- written offsets have the mark of their listing
pub mark_of-listed : (n p : ℕ) (zs : List ℤ) → zs ≢ [] → normal_mark n p (map natural (map (scaled 1) zs)) ≡ mark_of n p (map natural zs)
unfolding mark_of
mark_of-listed n p [] some = absurd (some refl)
mark_of-listed n p (z ∷ zs) some = ap (λ xs. normal_mark n p (map natural xs)) (scaled-one (z ∷ zs))

-- ---- parts

pub is_dividing : (n p : ℕ) (view : MarkView) → IsDividing n p view → IsMarkOf n p (mark_in n p view)
is_dividing n p BalancedView h = record { divided = balanced_divided n p h.some; normal = tt }
is_dividing n p (Listed listing) h = listed_mark n p (offsets_in listing) h.some h.order

-- a part ends no earlier than it begins
pub part_rises : (n p : ℕ) (view : MarkView) (i : ℕ) → IsDividing n p view → i < p → offset_of n p (mark_in n p view) i ≤ offset_of n p (mark_in n p view) (i + 1)
part_rises n p view i h l = (is_dividing n p view h).divided.rises i l

pub size_is : (n p i from to : ℕ) (m : Mark) → from ≡ offset_of n p m i → to ≡ offset_of n p m (i + 1) → to - from ≡ size_of_part n p m i
unfolding size_of_part
size_is n p i from to m ef et = omega arith

-- a mark of the normal form with the balanced offsets
pub balanced_only : (n p : ℕ) (m : Mark) → IsNormalMark n p m → ((i : ℕ) → i < p + 1 → offset_of n p m i ≡ offset_of n p Balanced i) → m ≡ Balanced
balanced_only n p Balanced h same = refl
balanced_only n p (Offsets os) h same = absurd (h.1 (are_offsets_of n p Balanced os h.0 (λ k l. sym (offset_of-written n p os k) ∙ same k l)))

-- the largest size so far is one more
pub largest_grows : (sizes : ℕ → ℕ) (k most size next : ℕ) → most ≡ largest_to sizes k → size ≡ sizes k → next ≡ max most size → next ≡ largest_to sizes (k + 1)
largest_grows sizes k most size next em es en = en ∙ ap₂ max em es ∙ sym (ap (largest_to sizes) (let one : k + 1 ≡ suc k = omega arith in one))

pub least_more : (sizes : ℕ → ℕ) (k least size : ℕ) → ((i : ℕ) → i < k → least ≤ sizes i) → size ≡ sizes k → least ≤ size → (i : ℕ) → i < k + 1 → least ≤ sizes i
least_more sizes k least size h e le i l = elim (lt_or_le i k) [
  | inl less ↦ h i less
  | inr more ↦ let same : i ≡ k = omega arith in let here : least ≤ sizes k = omega arith in subst (λ z. least ≤ sizes z) (sym same) here
]

-- the largest of the parts so far
pub record IsLargest (n p : ℕ) (view : MarkView) (k most : ℕ) : Type 0 where
  pub value : most ≡ largest_to (size_of_part n p (mark_in n p view)) k
  pub within : most ≤ n

-- ---- lists that are kept by value

-- the first so many axes are copied
pub record IsCopied (axes : List ℕ) (k : ℕ) (copy : List ℕ) (count : ℕ) : Type 0 where
  pub long : length copy ≡ max_rank
  pub counted : count ≡ length axes
  pub same : take k copy ≡ take k axes

pub copied_more : (axes : List ℕ) (k : ℕ) (copy : List ℕ) (count axis : ℕ) → IsCopied axes k copy count → length axes ≤ max_rank → k < length axes → axis ≡ get_or axes k 0
    → IsCopied axes (k + 1) (set copy k axis) count
copied_more axes k copy count axis h short l e =
    let long = h.long in
    record {
      long = length-set copy k axis ∙ long;
      counted = h.counted;
      same = take_more_set copy k axis (omega arith) ∙ ap₂ (λ xs x. xs ++ x ∷ []) h.same e ∙ sym (take_more axes k 0 l);
    }

pub all_copied : (list : AxisList) (axes : List ℕ) (k : ℕ) → IsCopied axes k list.axes list.count → length axes ≤ k → length axes ≤ max_rank → axes_in list ≡ axes
unfolding axes_in
all_copied list axes k h le short =
    let counted = h.counted in
    let least : min list.count max_rank ≡ length axes = omega arith in
    ap (λ n. take n list.axes) least
    ∙ sym (take-take (length axes) k list.axes le)
    ∙ ap (take (length axes)) h.same
    ∙ take-take (length axes) k axes le
    ∙ take_all (length axes) axes (omega arith)

-- the views of the first so many dimensions
pub record IsViewing (ds : List Dimension) (k : ℕ) (views : List DimensionView) : Type 0 where
  pub long : length views ≡ max_rank
  pub same : AreViewsOf (take k views) (take k ds)

view_more : (k : ℕ) (views : List DimensionView) (ds : List Dimension) (v : DimensionView) (d : Dimension) → AreViewsOf (take k views) (take k ds) → k < length views → k < length ds → d ≡ get_or ds k d → IsViewOf v d
    → AreViewsOf (take (suc k) (set views k v)) (take (suc k) ds)
view_more k [] ds v d h l m read is = absurd (omega arith)
view_more k (x ∷ views) [] v d h l m read is = absurd (omega arith)
view_more zero (x ∷ views) (y ∷ ds) v d h l m read is = (subst (IsViewOf v) read is, tt)
view_more (suc k) (x ∷ views) (y ∷ ds) v d h l m read is = (h.0, view_more k views ds v d h.1 (omega arith) (omega arith) read is)

pub viewing_more : (ds : List Dimension) (k : ℕ) (views : List DimensionView) (v : DimensionView) (d : Dimension) → IsViewing ds k views → length ds ≤ max_rank → k < length ds → d ≡ get_or ds k d → IsViewOf v d
    → IsViewing ds (k + 1) (set views k v)
viewing_more ds k views v d h short l read is =
    let long = h.long in
    let next : suc k ≡ k + 1 = omega arith in
    record {
      long = length-set views k v ∙ long;
      same = subst (λ n. AreViewsOf (take n (set views k v)) (take n ds)) next (view_more k views ds v d h.same (omega arith) l read is);
    }

pub viewing_end : (ds : List Dimension) (k : ℕ) (views : List DimensionView) → IsViewing ds k views → length ds ≤ k → k ≤ length ds → AreViewsOf (take (length ds) views) ds
viewing_end ds k views h le ge =
    let same : k ≡ length ds = omega arith in
    subst (AreViewsOf (take (length ds) views)) (take_all (length ds) ds (omega arith)) (subst (λ n. AreViewsOf (take n views) (take n ds)) same h.same)

-- ---- offsets that rise

pub offsets_rise : (n p : ℕ) (zs : List ℤ) (i : ℕ) → AreOffsets n p zs → i < p → IsRising n zs i
offsets_rise n p zs i h l = record { from = offsets_between n p zs i h (omega arith); to = offsets_between n p zs (i + 1) h (omega arith); rises = h.rises i l }

-- ---- marks in memory

-- what the view of a mark says of the mark
pub record IsShown (n p : ℕ) (view : MarkView) (m : Mark) : Type 0 where
  pub dividing : IsDividing n p view
  pub mark : mark_in n p view ≡ m

listed_order : (n p : ℕ) (os : List ℕ) → IsDivided n p (Offsets os) → IsNormalMark n p (Offsets os) → AreOffsets n p (map pos os)
listed_order n p os divided normal = subst (λ z. AreOffsets n p (map pos z)) (offsets_of-written n p os normal.0) (are_offsets n p (Offsets os) divided)

pub is_shown : (n p : ℕ) (view : MarkView) (m : Mark) → 0 < p → p ≤ max_devices → IsDivided n p m → IsNormalMark n p m → IsMarkView view m → IsShown n p view m
is_shown n p BalancedView m some few divided normal e = record { dividing = record { some = some; few = few; order = tt }; mark = sym e }
is_shown n p (Listed (OwnOffsets os)) m some few divided normal e =
    let divided' = subst (IsDivided n p) e divided in
    let normal' = subst (IsNormalMark n p) e normal in
    record {
      dividing = record { some = some; few = few; order = listed_order n p os.now divided' normal' };
      mark = ap (normal_mark n p) (natural-pos os.now) ∙ normal_mark-written n p os.now normal'.1 ∙ sym e;
    }
is_shown n p (Listed (Scaled zs f)) m some few divided normal e = absurd e

-- ---- offsets in order

-- a dimension of one part is balanced
pub one_part : (n : ℕ) (view : MarkView) → IsDividing n 1 view → mark_in n 1 view ≡ Balanced
one_part n view h =
    let is = is_dividing n 1 view h in
    let divided = is.divided in
    let balanced = balanced_divided n 1 h.some in
    balanced_only n 1 (mark_in n 1 view) is.normal (λ i l. elim (lt_or_le i 1) [
      | inl less ↦ let first : 0 ≡ i = omega arith in subst (λ k. offset_of n 1 (mark_in n 1 view) k ≡ offset_of n 1 Balanced k) first (divided.begins ∙ sym balanced.begins)
      | inr more ↦ let last : 1 ≡ i = omega arith in subst (λ k. offset_of n 1 (mark_in n 1 view) k ≡ offset_of n 1 Balanced k) last (divided.ends ∙ sym balanced.ends)
    ])

pub order_naturals : (n p : ℕ) (view : MarkView) → HasOrder n p view → HasNaturals view
order_naturals n p BalancedView h = tt
order_naturals n p (Listed listing) h = All-weaker (IsBelow (n + 1)) IsNatural (λ z below. below.0) (offsets_in listing) (offsets_fit n p (n + 1) (offsets_in listing) h (omega arith))

pos-natural : (zs : List ℤ) → All IsNatural zs → map pos (map natural zs) ≡ zs
pos-natural [] h = refl
pos-natural (z ∷ zs) h = ap₂ ◌∷◌ (pos_of z (All-head IsNatural z zs h)) (pos-natural zs (All-tail IsNatural z zs h))
  where
    pos_of : (z : ℤ) → IsNatural z → pos (natural z) ≡ z
    pos_of (pos n) h = refl
    pos_of (negsuc n) h = absurd (omega (arith, ints))

-- listed offsets whose mark divides are in order
pub order_from : (n p : ℕ) (view : MarkView) → HasNaturals view → IsDivided n p (mark_in n p view) → IsNormalMark n p (mark_in n p view) → HasOrder n p view
order_from n p BalancedView naturals divided normal = tt
order_from n p (Listed listing) naturals divided normal =
    let zs = offsets_in listing in
    let os = map natural zs in
    subst (AreOffsets n p) (pos-natural zs naturals) (elim (list_cases os (offsets_of n p Balanced)) [
      | inl same ↦
          let mark = normal_mark-balanced n p os same in
          subst (λ z. AreOffsets n p (map pos z)) (sym same) (are_offsets n p Balanced (subst (IsDivided n p) mark divided))
      | inr other ↦
          let mark = normal_mark-written n p os other in
          listed_order n p os (subst (IsDivided n p) mark divided) (subst (IsNormalMark n p) mark normal)
    ])
