-- The order of halo-free shardings.
use Rattle.std.proofs.Common.{◌≡◌, ◌≢◌, ℕ, inl, inr, Bool, cond, ◌+◌, ◌-◌, ◌<◌, ◌≤◌, List, [], ◌∷◌, length, get_or, map, drop, min, refl, ap, ap₂, sym, ◌∙◌, arith, subst, take}
use Rattle.std.specs.declared.cmp.Ordering.{Ordering}
use Rattle.std.specs.declared.cmp.Ordering.TheVariants.{Less, Equal, Greater}
use Rattle.std.specs.Ordering.{ordering_then, nat_cmp}
use Rattle.std.specs.Cmp.{IsTotalOrder}
use Rattle.std.specs.Cmp.Lexicographic.{slice_cmp, lists_total, nat_list_cmp_total}
use Rattle.std.proofs.lemmas.List.{at_drop_more, at_drop_all}
use Rattle.std.specs.Prelude.{◌==◌, nat_lt}
use Rattle.std.specs.List.{AllByRecursion}
use Rattle.std.proofs.lemmas.Bool.{cases_Bool}
use Rattle.std.proofs.lemmas.Bool.Decides.{nat_tests}
use Rattle.std.proofs.lemmas.List.{length-drop}
use Rattle.std.proofs.lemmas.List.FromFn.{length-map-range_with_len}
use Rattle.sh_grid.specs.Grid.{group_size_of}
use Rattle.sh_sharding.specs.declared.views.DimensionView.{DimensionView}
use Rattle.sh_sharding.specs.OffsetLists.{mark_of}
use Rattle.sh_sharding.specs.Made.{IsState}
use Rattle.sh_sharding.specs.Sharding.{ShardingValue, offset_of, offsets_of, parts_of, whole_of, HasNoHalos, IsDimension}
use Rattle.sh_sharding.specs.Views.{axes_in, described, mark_in, AreOwnViews}
use Rattle.sh_sharding.proofs.Cases.{lt_or_le}
use Rattle.sh_sharding.proofs.MarkLaws.{get_or-offsets_of, mark_of-offsets_of}
use Rattle.std.proofs.lemmas.Cmp.{then_total, on_total}
use Rattle.sh_sharding.specs.declared.shardings.Dimension.{Dimension}
use Rattle.sh_sharding.specs.Order.{offsets_along, dimension_order, order_of, viewed_offsets, dimension_view_order}

-- ---- lists compared from the front

-- the first k are equal
pub record IsCompared {X : Type 0} (R : X → X → Ordering) (xs ys : List X) (k : ℕ) : Type 0 where
  pub value : slice_cmp R xs ys ≡ slice_cmp R (drop k xs) (drop k ys)

pub compared_start : {X : Type 0} (R : X → X → Ordering) (xs ys : List X) → IsCompared R xs ys 0
compared_start R xs ys = record { value = refl }

cmp_at : {X : Type 0} (R : X → X → Ordering) (xs ys : List X) (k : ℕ) (d e : X) → k < length xs → k < length ys → IsCompared R xs ys k
    → slice_cmp R xs ys ≡ ordering_then (R (get_or xs k d) (get_or ys k e)) (slice_cmp R (drop (k + 1) xs) (drop (k + 1) ys))
cmp_at R xs ys k d e l m h = h.value ∙ ap₂ (slice_cmp R) (at_drop_more (λ zs. zs) xs k d l) (at_drop_more (λ zs. zs) ys k e m)

pub compared_more : {X : Type 0} (R : X → X → Ordering) (xs ys : List X) (k : ℕ) (d e : X) → k < length xs → k < length ys → IsCompared R xs ys k → R (get_or xs k d) (get_or ys k e) ≡ Equal → IsCompared R xs ys (k + 1)
compared_more R xs ys k d e l m h same = record { value = cmp_at R xs ys k d e l m h ∙ ap (λ o. ordering_then o (slice_cmp R (drop (k + 1) xs) (drop (k + 1) ys))) same }

then_apart : (o p : Ordering) → o ≢ Equal → ordering_then o p ≡ o
then_apart Less p h = refl
then_apart Equal p h = absurd (h refl)
then_apart Greater p h = refl

pub compared_apart : {X : Type 0} (R : X → X → Ordering) (xs ys : List X) (k : ℕ) (d e : X) → k < length xs → k < length ys → IsCompared R xs ys k → R (get_or xs k d) (get_or ys k e) ≢ Equal → R (get_or xs k d) (get_or ys k e) ≡ slice_cmp R xs ys
compared_apart R xs ys k d e l m h apart = sym (cmp_at R xs ys k d e l m h ∙ then_apart (R (get_or xs k d) (get_or ys k e)) (slice_cmp R (drop (k + 1) xs) (drop (k + 1) ys)) apart)

drop-none : {X : Type 0} (xs : List X) (k : ℕ) → length xs ≤ k → drop k xs ≡ []
drop-none xs k le = at_drop_all (λ zs. zs) xs k le

pub compared_end : {X : Type 0} (R : X → X → Ordering) (xs ys : List X) (k : ℕ) → IsCompared R xs ys k → length xs ≤ k → length ys ≤ k → Equal ≡ slice_cmp R xs ys
compared_end R xs ys k h l m = sym (h.value ∙ ap₂ (slice_cmp R) (drop-none xs k l) (drop-none ys k m))

-- where one of the lists ends, the longer is greater
no_first : {X : Type 0} (R : X → X → Ordering) (ys : List X) → slice_cmp R [] ys ≡ nat_cmp 0 (length ys)
no_first R [] = refl
no_first R (y ∷ ys) = grind (arith, nat_tests)

no_second : {X : Type 0} (R : X → X → Ordering) (xs : List X) → slice_cmp R xs [] ≡ nat_cmp (length xs) 0
no_second R [] = refl
no_second R (x ∷ xs) = grind (arith, nat_tests)

shifted : (a b k : ℕ) → k ≤ a → k ≤ b → nat_cmp (a - k) (b - k) ≡ nat_cmp a b
shifted a b k l m =
    let less : nat_lt (a - k) (b - k) ≡ nat_lt a b = grind (arith, nat_tests) in
    let same : (a - k == b - k) ≡ (a == b) = grind (arith, nat_tests) in
    ap₂ (λ (c d : Bool). cond c Less (cond d Equal Greater)) less same

pub compared_lengths : {X : Type 0} (R : X → X → Ordering) (xs ys : List X) (k : ℕ) → IsCompared R xs ys k → k ≡ min (length xs) (length ys) → nat_cmp (length xs) (length ys) ≡ slice_cmp R xs ys
compared_lengths R xs ys k h e = elim (lt_or_le (length ys) (length xs)) [
  | inl less ↦
      let none = drop-none ys k (omega arith) in
      let left : length (drop k xs) ≡ length xs - k = length-drop k xs in
      let right : length ys - k ≡ 0 = omega arith in
      sym (h.value ∙ ap (slice_cmp R (drop k xs)) none ∙ no_second R (drop k xs) ∙ ap₂ nat_cmp left (sym right) ∙ shifted (length xs) (length ys) k (omega arith) (omega arith))
  | inr more ↦
      let none = drop-none xs k (omega arith) in
      let right : length (drop k ys) ≡ length ys - k = length-drop k ys in
      let left : length xs - k ≡ 0 = omega arith in
      sym (h.value ∙ ap (λ zs. slice_cmp R zs (drop k ys)) none ∙ no_first R (drop k ys) ∙ ap₂ nat_cmp (sym left) right ∙ shifted (length xs) (length ys) k (omega arith) (omega arith))
]

nat_equal : (a b : ℕ) → nat_cmp a b ≡ Equal → a ≡ b
nat_equal a b h = elim (cases_Bool (nat_lt a b)) [
  | inl less ↦ absurd (let e = ap (λ (t : Bool). cond t Less (cond (a == b) Equal Greater)) less in cc)
  | inr more ↦ elim (cases_Bool (a == b)) [
    | inl same ↦ grind (arith, nat_tests)
    | inr other ↦ absurd (let e = ap₂ (λ (t u : Bool). cond t Less (cond u Equal Greater)) more other in cc)
  ]
]

both_equal : (o p : Ordering) → ordering_then o p ≡ Equal → (o ≡ Equal) × (p ≡ Equal)
both_equal Less p h = absurd (cc)
both_equal Equal p h = (refl, h)
both_equal Greater p h = absurd (cc)

pub lists_equal : (xs ys : List ℕ) → slice_cmp nat_cmp xs ys ≡ Equal → xs ≡ ys
lists_equal [] [] h = refl
lists_equal [] (y ∷ ys) h = absurd (cc)
lists_equal (x ∷ xs) [] h = absurd (cc)
lists_equal (x ∷ xs) (y ∷ ys) h = let both = both_equal (nat_cmp x y) (slice_cmp nat_cmp xs ys) h in ap₂ ◌∷◌ (nat_equal x y both.0) (lists_equal xs ys both.1)

-- ---- what the code reads

pub read_offset : (p part : ℕ) (v : DimensionView) → part < p + 1 → offset_of v.extent p (mark_in v.extent p v.mark) part ≡ get_or (viewed_offsets p v) part 0
read_offset p part v l = sym (get_or-offsets_of v.extent p (mark_in v.extent p v.mark) part l)

pub offsets_long : (p : ℕ) (v : DimensionView) → length (viewed_offsets p v) ≡ p + 1
unfolding offsets_of
offsets_long p v = length-map-range_with_len (offset_of v.extent p (mark_in v.extent p v.mark)) 0 (p + 1)

pub order_by_axes : (g : List ℕ) (v w : DimensionView) (o : Ordering) → o ≡ slice_cmp nat_cmp (axes_in v.axes) (axes_in w.axes) → o ≢ Equal → o ≡ dimension_view_order g v w
unfolding dimension_order described
order_by_axes g v w o e apart =
    let rest = slice_cmp nat_cmp (offsets_along g (described g v)) (offsets_along g (described g w)) in
    sym (then_apart o rest apart) ∙ ap (λ p. ordering_then p rest) e

pub order_by_offsets : (g : List ℕ) (v w : DimensionView) (p : ℕ) (o : Ordering) → slice_cmp nat_cmp (axes_in v.axes) (axes_in w.axes) ≡ Equal → p ≡ group_size_of g (axes_in v.axes)
    → o ≡ slice_cmp nat_cmp (viewed_offsets p v) (viewed_offsets p w) → o ≡ dimension_view_order g v w
unfolding dimension_order described parts_of
order_by_offsets g v w p o same parts e =
    let other : p ≡ group_size_of g (axes_in w.axes) = parts ∙ ap (group_size_of g) (lists_equal (axes_in v.axes) (axes_in w.axes) same) in
    let rest = slice_cmp nat_cmp (viewed_offsets (group_size_of g (axes_in v.axes)) v) (viewed_offsets (group_size_of g (axes_in w.axes)) w) in
    e ∙ ap₂ (λ n m. slice_cmp nat_cmp (viewed_offsets n v) (viewed_offsets m w)) parts other ∙ sym (ap (λ q. ordering_then q rest) same)

pub order_of-views : (g : List ℕ) (views others : List DimensionView) → slice_cmp (dimension_view_order g) views others ≡ order_of g (map (described g) views) (map (described g) others)
order_of-views g [] [] = refl
order_of-views g [] (w ∷ others) = refl
order_of-views g (v ∷ views) [] = refl
order_of-views g (v ∷ views) (w ∷ others) = ap (ordering_then (dimension_view_order g v w)) (order_of-views g views others)

-- the views of two shardings stand in the order of the shardings
pub own_order : (g h : List ℕ) (views others : List DimensionView) (n m : ℕ) (ds es : List Dimension) → h ≡ g → n ≡ length ds → m ≡ length es
    → AreOwnViews g (take (length ds) views) ds → AreOwnViews g (take (length es) others) es → order_of h (map (described h) (take n views)) (map (described h) (take m others)) ≡ order_of g ds es
own_order g h views others n m ds es eh en em left right =
    ap (λ k. order_of k (map (described k) (take n views)) (map (described k) (take m others))) eh
    ∙ ap₂ (λ k l. order_of g (map (described g) (take k views)) (map (described g) (take l others))) en em
    ∙ ap₂ (order_of g) left.value right.value

-- ---- laws

pub total_order : (g : List ℕ) → IsTotalOrder (order_of g)
unfolding dimension_order
total_order g = lists_total (then_total (on_total (λ d. d.axes) nat_list_cmp_total) (on_total (offsets_along g) nat_list_cmp_total))

parts_by : (g : List ℕ) (d e : Dimension) → d.axes ≡ e.axes → parts_of g d ≡ parts_of g e
unfolding parts_of
parts_by g d e h = ap (group_size_of g) h

-- dimensions that stand at one place
one_place : (g : List ℕ) (d e : Dimension) → IsDimension g d → IsDimension g e → (d.low ≡ 0) × (d.high ≡ 0) → (e.low ≡ 0) × (e.high ≡ 0) → d.extent ≡ e.extent → dimension_order g d e ≡ Equal → d ≡ e
unfolding dimension_order
one_place g d e hd he zd ze extent h =
    let both = both_equal (slice_cmp nat_cmp d.axes e.axes) (slice_cmp nat_cmp (offsets_along g d) (offsets_along g e)) h in
    let axes = lists_equal d.axes e.axes both.0 in
    let offsets = lists_equal (offsets_along g d) (offsets_along g e) both.1 in
    let parts : parts_of g d ≡ parts_of g e = parts_by g d e axes in
    let mark : d.mark ≡ e.mark = sym (mark_of-offsets_of d.extent (parts_of g d) d.mark hd.normal) ∙ ap₂ (λ n (t : ℕ × List ℕ). mark_of n t.0 t.1) extent (λ j. (parts j, offsets j)) ∙ mark_of-offsets_of e.extent (parts_of g e) e.mark he.normal in
    let low = zd.0 ∙ sym ze.0 in
    let high = zd.1 ∙ sym ze.1 in
    λ j. record { extent = extent j; axes = axes j; mark = mark j; low = low j; high = high j }

one_places : (g : List ℕ) (ds es : List Dimension) → AllByRecursion (IsDimension g) ds → AllByRecursion (IsDimension g) es → HasNoHalos ds → HasNoHalos es → map (λ d. d.extent) ds ≡ map (λ d. d.extent) es → order_of g ds es ≡ Equal → ds ≡ es
one_places g [] [] hd he zd ze extents h = refl
one_places g [] (e ∷ es) hd he zd ze extents h = absurd (cc)
one_places g (d ∷ ds) [] hd he zd ze extents h = absurd (cc)
one_places g (d ∷ ds) (e ∷ es) hd he zd ze extents h =
    let both = both_equal (dimension_order g d e) (order_of g ds es) h in
    let first : d.extent ≡ e.extent = ap (λ ns. get_or ns 0 0) extents in
    let rest : map (λ x. x.extent) ds ≡ map (λ x. x.extent) es = ap (drop 1) extents in
    ap₂ ◌∷◌ (one_place g d e hd.0 he.0 zd.0 ze.0 first both.0) (one_places g ds es hd.1 he.1 zd.1 ze.1 rest both.1)

-- states that stand at one place are equal
pub same_place : (s t : ShardingValue) → IsState s → IsState t → s.grid ≡ t.grid → whole_of s ≡ whole_of t → order_of s.grid.extents s.dimensions t.dimensions ≡ Equal → s ≡ t
same_place s t hs ht grid whole h =
    let own : AllByRecursion (IsDimension s.grid.extents) t.dimensions = subst (λ g. AllByRecursion (IsDimension g.extents) t.dimensions) (sym grid) ht.sharding.dimensions in
    let dimensions = one_places s.grid.extents s.dimensions t.dimensions hs.sharding.dimensions own hs.plain ht.plain whole h in
    λ j. record { grid = grid j; dimensions = dimensions j }
