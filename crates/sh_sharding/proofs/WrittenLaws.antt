-- What is written and keeps the rules is a sharding in normal form.
use Rattle.std.proofs.Common.{◌≡◌, ℕ, zero, suc, ◌<◌, ◌≤◌, inl, inr, List, [], ◌∷◌, ◌++◌, length, get_or, map, take, drop, false, refl, ap, ap₂, sym, ◌∙◌, arith, subst, ℤ, pos, negsuc}
use Rattle.std.specs.Prelude.{◌≤ℤ◌, ◌<ℤ◌}
use Rattle.std.specs.List.{All, AllByRecursion}
use Rattle.std.proofs.lemmas.Int.{ints}
use Rattle.std.proofs.lemmas.List.Elements.{All-append, All-map, All-weaker, All-head, All-tail, All-cons}
use Rattle.sh_base.proofs.IndexLaws.{cell_count-some}
use Rattle.sh_grid.specs.Grid.{IsGrid, AreAxesOf}
use Rattle.sh_sharding.specs.declared.shardings.Mark.TheVariants.{Balanced}
use Rattle.sh_sharding.specs.declared.shardings.Dimension.{Dimension}
use Rattle.sh_sharding.specs.Sharding.{parts_of, unsplit, axes_of, HasNoHalos, AreBalanced, IsMarked, IsDimension, is_split, is_split_by}
use Rattle.sh_sharding.specs.Admission.{KeepsLists}
use Rattle.sh_sharding.specs.AxisLists.{natural, IsBelow, listed_axes, listed}
use Rattle.sh_sharding.specs.HaloSizes.{halo_count, haloed, with_halos, HalosFit}
use Rattle.sh_sharding.specs.OffsetLists.{offset_count, with_mark, mark_of, marked, AreAllOffsets}
use Rattle.sh_grid.specs.Grid.{GridValue}
use Rattle.sh_ir.specs.declared.types.RawSharding.{RawSharding}
use Rattle.std.proofs.lemmas.List.{length-append}
use Rattle.sh_sharding.proofs.PartLaws.{part_of-below, axes_of-each}
use Rattle.sh_sharding.proofs.AxisListLaws.{distinct_axes, few_axes}
use Rattle.sh_sharding.proofs.MarkLaws.{length-naturals, balanced_mark, IsMarkOf, mark_of-none, written_mark}
use Rattle.sh_sharding.proofs.OffsetListLaws.{count_unsplit}
use Rattle.sh_sharding.proofs.HaloSizeLaws.{halo_count-unsplit}
use Rattle.std.proofs.lemmas.Bool.{cases_Bool}

-- ---- axes and extents stay

pub axes-with_halos : (ds : List Dimension) (hs : List ℤ) → axes_of (with_halos ds hs) ≡ axes_of ds
axes-with_halos [] hs = refl
axes-with_halos (d ∷ ds) hs = ap (λ z. d.axes ++ z) (axes-with_halos ds (drop (halo_count d) hs))

pub axes-marked : (g : List ℕ) (ds : List Dimension) (os : List ℤ) → axes_of (marked g ds os) ≡ axes_of ds
axes-marked g [] os = refl
axes-marked g (d ∷ ds) os = ap (λ z. d.axes ++ z) (axes-marked g ds (drop (offset_count g d) os))

axes-listed : (lists : List (List ℤ)) (s : List ℕ) → length lists ≤ length s → axes_of (listed lists s) ≡ listed_axes lists
axes-listed [] [] h = refl
axes-listed (x ∷ lists) [] h = absurd (omega arith)
axes-listed [] (n ∷ s) h = axes-listed [] s (omega arith)
axes-listed (x ∷ lists) (n ∷ s) h = ap (λ z. map natural x ++ z) (axes-listed lists s (omega arith))

pub extents-with_halos : (ds : List Dimension) (hs : List ℤ) → map (λ d. d.extent) (with_halos ds hs) ≡ map (λ d. d.extent) ds
extents-with_halos [] hs = refl
extents-with_halos (d ∷ ds) hs = ap (λ z. d.extent ∷ z) (extents-with_halos ds (drop (halo_count d) hs))

pub extents-marked : (g : List ℕ) (ds : List Dimension) (os : List ℤ) → map (λ d. d.extent) (marked g ds os) ≡ map (λ d. d.extent) ds
extents-marked g [] os = refl
extents-marked g (d ∷ ds) os = ap (λ z. d.extent ∷ z) (extents-marked g ds (drop (offset_count g d) os))

pub extents-listed : (lists : List (List ℤ)) (s : List ℕ) → map (λ d. d.extent) (listed lists s) ≡ s
extents-listed lists [] = refl
extents-listed lists (n ∷ s) = ap (λ z. n ∷ z) (extents-listed (drop 1 lists) s)

-- ---- axes

natural_below : (n : ℕ) (z : ℤ) → IsBelow n z → natural z < n
natural_below n (pos x) h = let below : pos x <ℤ pos n = h.1 in omega (arith, ints)
natural_below n (negsuc x) h = let low : pos 0 ≤ℤ negsuc x = h.0 in absurd (omega (arith, ints))

pub listed_below : (n : ℕ) (lists : List (List ℤ)) → All (All (IsBelow n)) lists → All (λ a. a < n) (listed_axes lists)
listed_below n [] h = λ k d l. absurd (omega arith)
listed_below n (x ∷ lists) h =
    All-append (λ a. a < n) (map natural x) (listed_axes lists)
    (All-map (λ a. a < n) natural x (All-weaker (IsBelow n) (λ z. natural z < n) (λ z b. natural_below n z b) x (All-head (All (IsBelow n)) x lists h)))
    (listed_below n lists (All-tail (All (IsBelow n)) x lists h))

-- ---- marks of all dimensions

abbrev pub none_of : (X : Type 0) → List X
none_of X = []

pub take-nil : {X : Type 0} (n : ℕ) → take n (none_of X) ≡ none_of X
take-nil zero = refl
take-nil (suc n) = refl

pub drop-nil : {X : Type 0} (n : ℕ) → drop n (none_of X) ≡ none_of X
drop-nil zero = refl
drop-nil (suc n) = refl

marked_one : (g : List ℕ) (d : Dimension) (os : List ℤ) → AreAxesOf (length g) d.axes → IsMarkOf d.extent (parts_of g d) (mark_of d.extent (parts_of g d) (map natural os)) → IsMarked g (with_mark g d os)
unfolding parts_of
marked_one g d os m h = record { axes = m; divided = h.divided; normal = h.normal }

some_parts : (g : List ℕ) (d : Dimension) → IsGrid g → AreAxesOf (length g) d.axes → 0 < parts_of g d
some_parts g d ok m = let below = part_of-below g d 0 (cell_count-some g ok.positive) m in omega arith

-- no offsets are written
pub marked_balanced : (g : List ℕ) (ds : List Dimension) → IsGrid g → AllByRecursion (λ d. AreAxesOf (length g) d.axes) ds → AllByRecursion (IsMarked g) (marked g ds [])
marked_balanced g [] ok m = tt
marked_balanced g (d ∷ ds) ok m =
    let none = take-nil {X = ℤ} (offset_count g d) in
    let rest = drop-nil {X = ℤ} (offset_count g d) in (
      subst (λ os. IsMarked g (with_mark g d os)) (sym none) (marked_one g d [] m.0 (balanced_mark d.extent (parts_of g d) (some_parts g d ok m.0))),
      subst (λ os. AllByRecursion (IsMarked g) (marked g ds os)) (sym rest) (marked_balanced g ds ok m.1),
    )

pub no_axes : (d : Dimension) → is_split d ≡ false → d.axes ≡ []
no_axes d h = axes_none d.axes h
  where
    axes_none : (axes : List ℕ) → is_split_by axes ≡ false → axes ≡ []
    axes_none [] h = refl
    axes_none (a ∷ axes) h = absurd (cc)

-- all offsets are written
pub marked_written : (g : List ℕ) (ds : List Dimension) (os : List ℤ) → IsGrid g → AllByRecursion (λ d. AreAxesOf (length g) d.axes) ds → AreAllOffsets g ds os → AllByRecursion (IsMarked g) (marked g ds os)
marked_written g [] os ok m h = tt
marked_written g (d ∷ ds) os ok m h =
    let some = some_parts g d ok m.0 in (
      elim (cases_Bool (is_split d)) [
        | inl split ↦ marked_one g d (take (offset_count g d) os) m.0 (written_mark d.extent (parts_of g d) (take (offset_count g d) os) some (h.0 split))
        | inr whole ↦
            let none : take (offset_count g d) os ≡ [] = ap (λ n. take n os) (sym (count_unsplit g d whole)) in
            subst (λ x. IsMarked g (with_mark g d x)) (sym none) (marked_one g d [] m.0 (balanced_mark d.extent (parts_of g d) some))
      ],
      marked_written g ds (drop (offset_count g d) os) ok m.1 h.1,
    )

-- ---- dimensions that aren't split

-- a dimension without axes is balanced
abbrev pub IsWholeBalanced : Dimension → Type 0
IsWholeBalanced d = d.axes ≡ [] → d.mark ≡ Balanced

split_by_axes : (d : Dimension) → d.axes ≡ [] → is_split d ≡ false
split_by_axes d e = ap is_split_by e

pub marked_whole : (g : List ℕ) (ds : List Dimension) (os : List ℤ) → AllByRecursion IsWholeBalanced (marked g ds os)
marked_whole g [] os = tt
marked_whole g (d ∷ ds) os = (
  λ e.
      let none : take (offset_count g d) os ≡ [] = ap (λ n. take n os) (sym (count_unsplit g d (split_by_axes d e))) in
      ap (λ x. mark_of d.extent (parts_of g d) (map natural x)) none ∙ mark_of-none d.extent (parts_of g d),
  marked_whole g ds (drop (offset_count g d) os),
)

-- ---- the dimensions of an admitted sharding

haloed_one : (g : List ℕ) (d : Dimension) (hs : List ℤ) → IsMarked g d → IsWholeBalanced d → HalosFit g (haloed d hs) → (d.axes ≡ [] → hs ≡ []) → IsDimension g (haloed d hs)
unfolding parts_of
haloed_one g d hs m even fit none = record {
  divided = m.divided;
  normal = m.normal;
  low = λ i l. (fit i l).0;
  high = λ i l. (fit i l).1;
  unsplit = λ e.
      let low : natural (get_or hs 0 (pos 0)) ≡ 0 = ap (λ z. natural (get_or z 0 (pos 0))) (none e) in
      let high : natural (get_or hs 1 (pos 0)) ≡ 0 = ap (λ z. natural (get_or z 1 (pos 0))) (none e) in
      λ j. record { extent = d.extent; axes = e j; mark = even e j; low = low j; high = high j };
}

pub haloed_all : (g : List ℕ) (ds : List Dimension) (hs : List ℤ) → AllByRecursion (IsMarked g) ds → AllByRecursion IsWholeBalanced ds → AllByRecursion (HalosFit g) (with_halos ds hs) → AllByRecursion (IsDimension g) (with_halos ds hs)
haloed_all g [] hs m e fit = tt
haloed_all g (d ∷ ds) hs m e fit = (
  haloed_one g d (take (halo_count d) hs) m.0 e.0 fit.0 (λ none. ap (λ n. take n hs) (sym (halo_count-unsplit d (split_by_axes d none)))),
  haloed_all g ds (drop (halo_count d) hs) m.1 e.1 fit.1,
)

-- ---- halos and offsets

pub halos_none : (ds : List Dimension) → HasNoHalos (with_halos ds [])
halos_none [] = tt
halos_none (d ∷ ds) =
    let none = take-nil {X = ℤ} (halo_count d) in
    let rest = drop-nil {X = ℤ} (halo_count d) in (
      (ap (λ z. natural (get_or z 0 (pos 0))) none, ap (λ z. natural (get_or z 1 (pos 0))) none),
      subst (λ z. HasNoHalos (with_halos ds z)) (sym rest) (halos_none ds),
    )

pub offsets_none : (g : List ℕ) (ds : List Dimension) (hs : List ℤ) → AreBalanced (with_halos (marked g ds []) hs)
offsets_none g [] hs = tt
offsets_none g (d ∷ ds) hs =
    let none = take-nil {X = ℤ} (offset_count g d) in
    let rest = drop-nil {X = ℤ} (offset_count g d) in
    let d' = with_mark g d (take (offset_count g d) []) in (
      ap (λ z. mark_of d.extent (parts_of g d) (map natural z)) none ∙ mark_of-none d.extent (parts_of g d),
      subst (λ z. AreBalanced (with_halos (marked g ds z) (drop (halo_count d') hs))) (sym rest) (offsets_none g ds (drop (halo_count d') hs)),
    )

-- ---- what the code asks of the written lists

pub below_more : (m n : ℕ) → m ≤ n → (z : ℤ) → IsBelow m z → IsBelow n z
below_more m n le z h = let high = h.1 in (h.0, omega (arith, ints))

pub all_below_more : (m n : ℕ) (lists : List (List ℤ)) → m ≤ n → All (All (IsBelow m)) lists → All (All (IsBelow n)) lists
all_below_more m n lists le h = All-weaker (All (IsBelow m)) (All (IsBelow n)) (λ xs k. All-weaker (IsBelow m) (IsBelow n) (below_more m n le) xs k) lists h

-- a list is no longer than all lists together
list_short : (lists : List (List ℤ)) (n : ℕ) → length (listed_axes lists) ≤ n → All (λ xs. length xs ≤ n) lists
list_short [] n h = λ k d l. absurd (omega arith)
list_short (x ∷ lists) n h =
    let rest : length (listed_axes lists) ≤ n = omega (arith, length-append (map natural x) (listed_axes lists)) in
    All-cons (λ xs. length xs ≤ n) x lists (omega (arith, length-append (map natural x) (listed_axes lists), length-naturals x)) (list_short lists n rest)

-- the axes of the written lists
pub record HasAxes (g : List ℕ) (lists : List (List ℤ)) (s : List ℕ) : Type 0 where
  pub fit : All (All (IsBelow 18446744073709551616)) lists
  pub short : All (λ xs. length xs ≤ 6) lists
  pub all : AreAxesOf (length g) (axes_of (listed lists s))
  pub each : AllByRecursion (λ d. AreAxesOf (length g) d.axes) (listed lists s)

pub has_axes : (g : GridValue) (raw : RawSharding) (s : List ℕ) → length g.extents ≤ 4 → KeepsLists g raw s → HasAxes g.extents raw.split s
has_axes g raw s few h =
    let rank = length g.extents in
    let axes = distinct_axes rank (listed_axes raw.split) (listed_below rank raw.split h.axes) h.once in
    let count = few_axes rank (listed_axes raw.split) axes in
    let all : AreAxesOf rank (axes_of (listed raw.split s)) = subst (AreAxesOf rank) (sym (axes-listed raw.split s h.few)) axes in
    record {
      fit = all_below_more rank 18446744073709551616 raw.split (omega arith) h.axes;
      short = list_short raw.split 6 (omega arith);
      all = all;
      each = axes_of-each rank (listed raw.split s) all;
    }

-- without offsets the listed dimensions stay
pub marked_listed : (g : List ℕ) (lists : List (List ℤ)) (s : List ℕ) → listed lists s ≡ marked g (listed lists s) []
marked_listed g lists [] = refl
marked_listed g lists (n ∷ s) =
    let d = record (unsplit n) { axes = map natural (get_or lists 0 []) } in
    let none = take-nil {X = ℤ} (offset_count g d) in
    let rest = drop-nil {X = ℤ} (offset_count g d) in
    let mark : Balanced ≡ mark_of d.extent (parts_of g d) (map natural (take (offset_count g d) [])) =
    sym (ap (λ z. mark_of d.extent (parts_of g d) (map natural z)) none ∙ mark_of-none d.extent (parts_of g d)) in
    let head : d ≡ with_mark g d (take (offset_count g d) []) = λ j. record d { mark = mark j } in
    ap₂ ◌∷◌ head (marked_listed g (drop 1 lists) s ∙ ap (marked g (listed (drop 1 lists) s)) (sym rest))
