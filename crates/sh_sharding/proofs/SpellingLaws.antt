-- What is written of a sharding is admitted, and stands for the sharding.
use Rattle.sh_base.specs.Shape.{max_cells}
use Rattle.std.proofs.Common.{not, ◌≡◌, ℕ, ◌+◌, ◌*◌, ◌≤◌, inl, inr, List, [], ◌∷◌, ◌++◌, length, map, take, drop, Bool, true, false, cond, refl, ap, ap₂, sym, ◌∙◌, arith, subst, ℤ, pos}
use Rattle.std.specs.Prelude.{◌||◌, nat_lt, count_by, if◌then◌else◌}
use Rattle.std.specs.List.{All, AllByRecursion, flat_map, list_any}
use Rattle.std.proofs.lemmas.Int.{ints}
use Rattle.std.proofs.lemmas.Bool.Decides.{nat_tests}
use Rattle.std.proofs.lemmas.List.{length-append, length-map, take_at, drop_at}
use Rattle.std.proofs.lemmas.List.Elements.{All-append, All-cons}
use Rattle.std.proofs.lemmas.List.Recursion.{is_count_by}
use Rattle.sh_base.specs.declared.rules.Rule.{Rule}
use Rattle.sh_base.specs.declared.rules.Rule.TheVariants.{A1, A2, A3, A5, A6, A7, A8}
use Rattle.sh_grid.specs.Grid.{AreAxesOf, group_size_of}
use Rattle.sh_sharding.specs.declared.shardings.Mark.{Mark}
use Rattle.sh_sharding.specs.declared.shardings.Mark.TheVariants.{Balanced, Offsets}
use Rattle.sh_sharding.specs.declared.shardings.Dimension.{Dimension}
use Rattle.sh_sharding.specs.Sharding.{ShardingValue, offsets_of, parts_of, unsplit, is_balanced_mark, axes_of, whole_of, local_shape, counted_cells, HasNoHalos, AreBalanced, IsDimension, IsSharding, is_split}
use Rattle.sh_sharding.specs.Admission.{sharding_of, Keeps, IsAdmitted}
use Rattle.sh_sharding.specs.AxisLists.{natural, IsBelow, IsNatural, listed_axes, listed}
use Rattle.sh_sharding.specs.HaloSizes.{halo_count, haloed, with_halos, HalosFit}
use Rattle.sh_sharding.specs.OffsetLists.{offset_count, with_mark, mark_of, marked, AreOffsets, AreAllOffsets}
use Rattle.sh_sharding.specs.Normal.{up_to_last_split}
use Rattle.sh_sharding.specs.Spelling.{split_of, has_halo, halo_sizes, halos_of, is_unbalanced, part_offsets, all_offsets_of, raw_of}
use Rattle.sh_sharding.proofs.AxisListLaws.{listed_once}
use Rattle.sh_sharding.proofs.PartLaws.{axes_of-each}
use Rattle.sh_sharding.proofs.MarkLaws.{mark_of-offsets_of, natural-pos, length-offsets_of, are_offsets, mark_of-none}
use Rattle.sh_sharding.proofs.LeastRuleLaws.{halos_stay}
use Rattle.sh_sharding.proofs.WrittenLaws.{no_axes, marked_listed}
use Rattle.sh_sharding.proofs.NormalLaws.{or_parts, some_split, none_split, length-up_to}
use Rattle.std.proofs.lemmas.Bool.{cases_Bool}
use Rattle.sh_sharding.proofs.Cases.{not_both}

-- ---- numbers written and read again

abbrev written_axes : Dimension → List ℤ
written_axes d = map pos d.axes

-- a dimension with its axes alone
abbrev bare : Dimension → Dimension
bare d = record (unsplit d.extent) { axes = d.axes }

-- a dimension without its halos
abbrev plain : Dimension → Dimension
plain d = record d { low = 0; high = 0 }

abbrev extents : List Dimension → List ℕ
extents ds = map (λ d. d.extent) ds

whole_dimension : (g : List ℕ) (d : Dimension) → IsDimension g d → is_split d ≡ false → d ≡ unsplit d.extent
whole_dimension g d ok h = ok.unsplit (no_axes d h)

-- ---- lists of axes

axes_again : (d : Dimension) → record (unsplit d.extent) { axes = map natural (map pos d.axes) } ≡ bare d
axes_again d = let e = natural-pos d.axes in λ j. record (unsplit d.extent) { axes = e j }

none_listed : (ds : List Dimension) → list_any is_split ds ≡ false → listed [] (extents ds) ≡ map bare ds
none_listed [] h = refl
none_listed (d ∷ ds) h =
    let parts = or_parts (is_split d) (list_any is_split ds) h in
    let none = sym (no_axes d parts.0) in
    let head : unsplit d.extent ≡ bare d = λ j. record (unsplit d.extent) { axes = none j } in
    ap₂ ◌∷◌ head (none_listed ds parts.1)

listed-up_to : (ds : List Dimension) → listed (map written_axes (up_to_last_split ds)) (extents ds) ≡ map bare ds
listed-up_to [] = refl
listed-up_to (d ∷ ds) = elim (cases_Bool (list_any is_split (d ∷ ds))) [
  | inl some ↦ ap (λ xs. listed (map written_axes xs) (extents (d ∷ ds))) (some_split d ds some) ∙ ap₂ ◌∷◌ (axes_again d) (listed-up_to ds)
  | inr none ↦ ap (λ xs. listed (map written_axes xs) (extents (d ∷ ds))) (none_split (d ∷ ds) none) ∙ none_listed (d ∷ ds) none
]

listed-split_of : (ds : List Dimension) → listed (split_of ds) (extents ds) ≡ map bare ds
listed-split_of [] = refl
listed-split_of (d ∷ ds) = ap₂ ◌∷◌ (axes_again d) (listed-up_to ds)

-- ---- marks

part_offsets-split : (g : List ℕ) (d : Dimension) → is_split d ≡ true → part_offsets g d ≡ map pos (offsets_of d.extent (parts_of g d) d.mark)
part_offsets-split g d h = ap (λ (b : Bool). if b then map pos (offsets_of d.extent (parts_of g d) d.mark) else []) h

part_offsets-whole : (g : List ℕ) (d : Dimension) → is_split d ≡ false → part_offsets g d ≡ []
part_offsets-whole g d h = ap (λ (b : Bool). if b then map pos (offsets_of d.extent (parts_of g d) d.mark) else []) h

length-part_offsets : (g : List ℕ) (d : Dimension) → length (part_offsets g d) ≡ offset_count g (bare d)
unfolding offset_count parts_of
length-part_offsets g d = elim (cases_Bool (is_split d)) [
  | inl split ↦
      ap length (part_offsets-split g d split)
      ∙ length-offsets_of d.extent (group_size_of g d.axes) d.mark
      ∙ sym (ap (λ (b : Bool). if b then group_size_of g d.axes + 1 else 0) split)
  | inr whole ↦ ap length (part_offsets-whole g d whole) ∙ sym (ap (λ (b : Bool). if b then group_size_of g d.axes + 1 else 0) whole)
]

mark_again : (g : List ℕ) (d : Dimension) → IsDimension g d → mark_of d.extent (parts_of g d) (map natural (part_offsets g d)) ≡ d.mark
mark_again g d ok = elim (cases_Bool (is_split d)) [
  | inl split ↦
      ap (λ os. mark_of d.extent (parts_of g d) (map natural os)) (part_offsets-split g d split)
      ∙ ap (mark_of d.extent (parts_of g d)) (natural-pos (offsets_of d.extent (parts_of g d) d.mark))
      ∙ mark_of-offsets_of d.extent (parts_of g d) d.mark ok.normal
  | inr whole ↦
      ap (λ os. mark_of d.extent (parts_of g d) (map natural os)) (part_offsets-whole g d whole)
      ∙ mark_of-none d.extent (parts_of g d)
      ∙ sym (ap (λ x. x.mark) (whole_dimension g d ok whole))
]

with_mark-again : (g : List ℕ) (d : Dimension) → IsDimension g d → with_mark g (bare d) (part_offsets g d) ≡ plain d
unfolding parts_of
with_mark-again g d ok = let e = mark_again g d ok in λ j. record (plain d) { mark = e j }

-- a part of a list of offsets is a dimension's
record IsCut (g : List ℕ) (d : Dimension) (rest : List ℤ) : Type 0 where
  mine : take (offset_count g (bare d)) (part_offsets g d ++ rest) ≡ part_offsets g d
  others : drop (offset_count g (bare d)) (part_offsets g d ++ rest) ≡ rest

is_cut : (g : List ℕ) (d : Dimension) (rest : List ℤ) → IsCut g d rest
is_cut g d rest = record {
  mine = take_at (part_offsets g d) rest (offset_count g (bare d)) (length-part_offsets g d);
  others = drop_at (part_offsets g d) rest (offset_count g (bare d)) (length-part_offsets g d);
}

marked-again : (g : List ℕ) (ds : List Dimension) → AllByRecursion (IsDimension g) ds → marked g (map bare ds) (flat_map (part_offsets g) ds) ≡ map plain ds
marked-again g [] ok = refl
marked-again g (d ∷ ds) ok =
    let cut = is_cut g d (flat_map (part_offsets g) ds) in
    ap₂ ◌∷◌ (ap (with_mark g (bare d)) cut.mine ∙ with_mark-again g d ok.0) (ap (marked g (map bare ds)) cut.others ∙ marked-again g ds ok.1)

balanced_plain : (ds : List Dimension) → AreBalanced ds → map bare ds ≡ map plain ds
balanced_plain [] h = refl
balanced_plain (d ∷ ds) h =
    let e = sym h.0 in
    let head : bare d ≡ plain d = λ j. record (bare d) { mark = e j } in
    ap₂ ◌∷◌ head (balanced_plain ds h.1)

balanced_mark : (m : Mark) → not (is_balanced_mark m) ≡ false → m ≡ Balanced
balanced_mark Balanced h = refl
balanced_mark (Offsets os) h = absurd (cc)

all_balanced : (ds : List Dimension) → list_any is_unbalanced ds ≡ false → AreBalanced ds
all_balanced [] h = tt
all_balanced (d ∷ ds) h = let parts = or_parts (is_unbalanced d) (list_any is_unbalanced ds) h in (balanced_mark d.mark parts.0, all_balanced ds parts.1)

none_unbalanced : (ds : List Dimension) → AreBalanced ds → list_any is_unbalanced ds ≡ false
none_unbalanced [] h = refl
none_unbalanced (d ∷ ds) h = ap₂ (λ m (b : Bool). not (is_balanced_mark m) || b) h.0 (none_unbalanced ds h.1)

offsets-some : (g : List ℕ) (ds : List Dimension) → list_any is_unbalanced ds ≡ true → all_offsets_of g ds ≡ flat_map (part_offsets g) ds
offsets-some g ds h = ap (λ (b : Bool). if b then flat_map (part_offsets g) ds else []) h

offsets-none : (g : List ℕ) (ds : List Dimension) → list_any is_unbalanced ds ≡ false → all_offsets_of g ds ≡ []
offsets-none g ds h = ap (λ (b : Bool). if b then flat_map (part_offsets g) ds else []) h

marked-written : (g : List ℕ) (ds : List Dimension) → AllByRecursion (IsDimension g) ds → marked g (map bare ds) (all_offsets_of g ds) ≡ map plain ds
marked-written g ds ok = elim (cases_Bool (list_any is_unbalanced ds)) [
  | inl some ↦ ap (marked g (map bare ds)) (offsets-some g ds some) ∙ marked-again g ds ok
  | inr none ↦
      let stay : map bare ds ≡ marked g (map bare ds) [] = subst (λ xs. xs ≡ marked g xs []) (listed-split_of ds) (marked_listed g (split_of ds) (extents ds)) in
      ap (marked g (map bare ds)) (offsets-none g ds none) ∙ sym stay ∙ balanced_plain ds (all_balanced ds none)
]

-- ---- halos

halo_sizes-split : (d : Dimension) → is_split d ≡ true → halo_sizes d ≡ pos d.low ∷ pos d.high ∷ []
halo_sizes-split d h = ap (λ (b : Bool). if b then pos d.low ∷ pos d.high ∷ [] else []) h

halo_sizes-whole : (d : Dimension) → is_split d ≡ false → halo_sizes d ≡ []
halo_sizes-whole d h = ap (λ (b : Bool). if b then pos d.low ∷ pos d.high ∷ [] else []) h

length-halo_sizes : (d : Dimension) → length (halo_sizes d) ≡ halo_count (plain d)
unfolding halo_count
length-halo_sizes d = elim (cases_Bool (is_split d)) [
  | inl split ↦ ap length (halo_sizes-split d split) ∙ sym (ap (λ (b : Bool). if b then 2 else 0) split)
  | inr whole ↦ ap length (halo_sizes-whole d whole) ∙ sym (ap (λ (b : Bool). if b then 2 else 0) whole)
]

haloed-again : (g : List ℕ) (d : Dimension) → IsDimension g d → haloed (plain d) (halo_sizes d) ≡ d
haloed-again g d ok = elim (cases_Bool (is_split d)) [
  | inl split ↦ ap (haloed (plain d)) (halo_sizes-split d split)
  | inr whole ↦
      let e = whole_dimension g d ok whole in
      let low : 0 ≡ d.low = sym (ap (λ x. x.low) e) in
      let high : 0 ≡ d.high = sym (ap (λ x. x.high) e) in
      ap (haloed (plain d)) (halo_sizes-whole d whole) ∙ (λ j. record d { low = low j; high = high j })
]

halos-again : (g : List ℕ) (ds : List Dimension) → AllByRecursion (IsDimension g) ds → with_halos (map plain ds) (flat_map halo_sizes ds) ≡ ds
halos-again g [] ok = refl
halos-again g (d ∷ ds) ok =
    let rest = flat_map halo_sizes ds in
    let mine = take_at (halo_sizes d) rest (halo_count (plain d)) (length-halo_sizes d) in
    let others = drop_at (halo_sizes d) rest (halo_count (plain d)) (length-halo_sizes d) in
    ap₂ ◌∷◌ (ap (haloed (plain d)) mine ∙ haloed-again g d ok.0) (ap (with_halos (map plain ds)) others ∙ halos-again g ds ok.1)

not_below : (n : ℕ) → nat_lt 0 n ≡ false → n ≡ 0
not_below n h = grind (arith, nat_tests)

no_halos : (ds : List Dimension) → list_any has_halo ds ≡ false → HasNoHalos ds
no_halos [] h = tt
no_halos (d ∷ ds) h =
    let parts = or_parts (has_halo d) (list_any has_halo ds) h in
    let both = or_parts (nat_lt 0 d.low) (nat_lt 0 d.high) parts.0 in
    ((not_below d.low both.0, not_below d.high both.1), no_halos ds parts.1)

none_haloed : (ds : List Dimension) → HasNoHalos ds → list_any has_halo ds ≡ false
none_haloed [] h = refl
none_haloed (d ∷ ds) h =
    ap₂ (λ (a b : Bool). a || b) (ap₂ (λ low high. nat_lt 0 low || nat_lt 0 high) h.0.0 h.0.1) (none_haloed ds h.1)

plain_again : (ds : List Dimension) → HasNoHalos ds → map plain ds ≡ ds
plain_again [] h = refl
plain_again (d ∷ ds) h =
    let low = sym h.0.0 in
    let high = sym h.0.1 in
    let head : plain d ≡ d = λ j. record d { low = low j; high = high j } in
    ap₂ ◌∷◌ head (plain_again ds h.1)

halos-some : (ds : List Dimension) → list_any has_halo ds ≡ true → halos_of ds ≡ flat_map halo_sizes ds
halos-some ds h = ap (λ (b : Bool). if b then flat_map halo_sizes ds else []) h

halos-none : (ds : List Dimension) → list_any has_halo ds ≡ false → halos_of ds ≡ []
halos-none ds h = ap (λ (b : Bool). if b then flat_map halo_sizes ds else []) h

-- ---- the sharding that is written

again : (s : ShardingValue) → IsSharding s → (sharding_of s.grid (raw_of s) (whole_of s)).dimensions ≡ s.dimensions
again s ok =
    let g = s.grid.extents in
    let ds = s.dimensions in
    let marks : marked g (listed (split_of ds) (extents ds)) (all_offsets_of g ds) ≡ map plain ds =
    ap (λ xs. marked g xs (all_offsets_of g ds)) (listed-split_of ds) ∙ marked-written g ds ok.dimensions in
    elim (cases_Bool (list_any has_halo ds)) [
      | inl some ↦ ap₂ with_halos marks (halos-some ds some) ∙ halos-again g ds ok.dimensions
      | inr none ↦ sym (halos_stay s.grid (raw_of s) (whole_of s) (halos-none ds none)) ∙ marks ∙ plain_again ds (no_halos ds none)
    ]

pub spelling_again : (s : ShardingValue) → IsSharding s → sharding_of s.grid (raw_of s) (whole_of s) ≡ s
spelling_again s ok = let e = again s ok in λ j. record { grid = s.grid; dimensions = e j }

-- ---- rules on lists of axes

up_to_each : (P : Dimension → Type 0) (ds : List Dimension) → AllByRecursion P ds → AllByRecursion P (up_to_last_split ds)
up_to_each P [] h = tt
up_to_each P (d ∷ ds) h = elim (cases_Bool (list_any is_split (d ∷ ds))) [
  | inl some ↦ subst (AllByRecursion P) (sym (some_split d ds some)) (h.0, up_to_each P ds h.1)
  | inr none ↦ subst (AllByRecursion P) (sym (none_split (d ∷ ds) none)) tt
]

axes_below : (rank : ℕ) (axes : List ℕ) → AreAxesOf rank axes → All (IsBelow rank) (map pos axes)
axes_below rank [] m = λ k d l. absurd (omega arith)
axes_below rank (a ∷ axes) m =
    let low = m.0 in
    All-cons (IsBelow rank) (pos a) (map pos axes) (omega (arith, ints), omega (arith, ints)) (axes_below rank axes m.2)

all_below : (rank : ℕ) (ds : List Dimension) → AllByRecursion (λ d. AreAxesOf rank d.axes) ds → All (All (IsBelow rank)) (map written_axes ds)
all_below rank [] m = λ k d l. absurd (omega arith)
all_below rank (d ∷ ds) m = All-cons (All (IsBelow rank)) (written_axes d) (map written_axes ds) (axes_below rank d.axes m.0) (all_below rank ds m.1)

split_below : (rank : ℕ) (ds : List Dimension) → AllByRecursion (λ d. AreAxesOf rank d.axes) ds → All (All (IsBelow rank)) (split_of ds)
split_below rank [] m = λ k d l. absurd (omega arith)
split_below rank (d ∷ ds) m = all_below rank (d ∷ up_to_last_split ds) (m.0, up_to_each (λ d. AreAxesOf rank d.axes) ds m.1)

none_listed_axes : (ds : List Dimension) → list_any is_split ds ≡ false → axes_of ds ≡ []
none_listed_axes [] h = refl
none_listed_axes (d ∷ ds) h =
    let parts = or_parts (is_split d) (list_any is_split ds) h in
    ap₂ ◌++◌ (no_axes d parts.0) (none_listed_axes ds parts.1)

axes_of-up_to : (ds : List Dimension) → axes_of (up_to_last_split ds) ≡ axes_of ds
axes_of-up_to [] = refl
axes_of-up_to (d ∷ ds) = elim (cases_Bool (list_any is_split (d ∷ ds))) [
  | inl some ↦ ap axes_of (some_split d ds some) ∙ ap (λ xs. d.axes ++ xs) (axes_of-up_to ds)
  | inr none ↦ ap axes_of (none_split (d ∷ ds) none) ∙ sym (none_listed_axes (d ∷ ds) none)
]

listed_axes-written : (ds : List Dimension) → listed_axes (map written_axes ds) ≡ axes_of ds
listed_axes-written [] = refl
listed_axes-written (d ∷ ds) = ap₂ ◌++◌ (natural-pos d.axes) (listed_axes-written ds)

listed_axes-split_of : (ds : List Dimension) → listed_axes (split_of ds) ≡ axes_of ds
listed_axes-split_of [] = refl
listed_axes-split_of (d ∷ ds) = ap₂ ◌++◌ (natural-pos d.axes) (listed_axes-written (up_to_last_split ds) ∙ axes_of-up_to ds)

length-split_of : (ds : List Dimension) → length (split_of ds) ≤ length (extents ds)
length-split_of [] = omega arith
length-split_of (d ∷ ds) =
    let few = length-up_to ds in
    omega (arith, length-map (up_to_last_split ds) written_axes, length-map ds (λ d. d.extent))

-- ---- rules on offsets

all_offsets : (g : List ℕ) (ds : List Dimension) → AllByRecursion (IsDimension g) ds → AreAllOffsets g (map bare ds) (flat_map (part_offsets g) ds)
unfolding parts_of
all_offsets g [] ok = refl
all_offsets g (d ∷ ds) ok =
    let cut = is_cut g d (flat_map (part_offsets g) ds) in (
      λ split.
          subst (AreOffsets d.extent (group_size_of g d.axes)) (sym (cut.mine ∙ part_offsets-split g d split)) (are_offsets d.extent (group_size_of g d.axes) d.mark ok.0.divided),
      subst (AreAllOffsets g (map bare ds)) (sym cut.others) (all_offsets g ds ok.1),
    )

-- ---- rules on halos

splits : List Dimension → ℕ
splits [] = 0
splits (d ∷ ds) = cond (is_split d) (1 + splits ds) (splits ds)

splits-bare : (ds : List Dimension) → splits (map bare ds) ≡ splits ds
unfolding splits
splits-bare [] = refl
splits-bare (d ∷ ds) = ap (λ n. cond (is_split d) (1 + n) n) (splits-bare ds)

length-halos : (ds : List Dimension) → length (flat_map halo_sizes ds) ≡ 2 * splits ds
unfolding splits
length-halos [] = refl
length-halos (d ∷ ds) = elim (cases_Bool (is_split d)) [
  | inl split ↦
      let rec = length-halos ds in
      let two = ap length (halo_sizes-split d split) in
      let count = ap (λ (b : Bool). cond b (1 + splits ds) (splits ds)) split in
      omega (arith, length-append (halo_sizes d) (flat_map halo_sizes ds))
  | inr whole ↦
      let rec = length-halos ds in
      let none = ap length (halo_sizes-whole d whole) in
      let count = ap (λ (b : Bool). cond b (1 + splits ds) (splits ds)) whole in
      omega (arith, length-append (halo_sizes d) (flat_map halo_sizes ds))
]

count-halos : (ds : List Dimension) → length (flat_map halo_sizes ds) ≡ 2 * count_by is_split (map bare ds)
unfolding splits
count-halos ds = length-halos ds ∙ ap (λ n. 2 * n) (sym (splits-bare ds) ∙ is_count_by splits is_split refl (λ x ys. refl) (map bare ds))

sizes_natural : (d : Dimension) → All IsNatural (halo_sizes d)
sizes_natural d = elim (cases_Bool (is_split d)) [
  | inl split ↦
      subst (All IsNatural) (sym (halo_sizes-split d split))
      (All-cons IsNatural (pos d.low) (pos d.high ∷ []) (omega (arith, ints)) (All-cons IsNatural (pos d.high) [] (omega (arith, ints)) (λ k x l. absurd (omega arith))))
  | inr whole ↦ subst (All IsNatural) (sym (halo_sizes-whole d whole)) (λ k x l. absurd (omega arith))
]

all_natural : (ds : List Dimension) → All IsNatural (flat_map halo_sizes ds)
all_natural [] = λ k d l. absurd (omega arith)
all_natural (d ∷ ds) = All-append IsNatural (halo_sizes d) (flat_map halo_sizes ds) (sizes_natural d) (all_natural ds)

each_fits : (g : List ℕ) (ds : List Dimension) → AllByRecursion (IsDimension g) ds → AllByRecursion (HalosFit g) ds
each_fits g [] ok = tt
each_fits g (d ∷ ds) ok = ((λ i l. (ok.0.low i l, ok.0.high i l)), each_fits g ds ok.1)

-- ---- all rules

keeps : (s : ShardingValue) → IsSharding s → (rule : Rule) → Keeps rule s.grid (raw_of s) (whole_of s)
keeps s ok A1 = split_below (length s.grid.extents) s.dimensions (axes_of-each (length s.grid.extents) s.dimensions ok.axes)
keeps s ok A2 = λ a. rw (listed_axes-split_of s.dimensions) (listed_once (length s.grid.extents) a (axes_of s.dimensions) ok.axes)
keeps s ok A3 = length-split_of s.dimensions
keeps s ok A5 = λ given.
    let g = s.grid.extents in
    elim (cases_Bool (list_any is_unbalanced s.dimensions)) [
      | inl some ↦
          subst (λ ds. AreAllOffsets g ds (all_offsets_of g s.dimensions)) (sym (listed-split_of s.dimensions))
          (subst (AreAllOffsets g (map bare s.dimensions)) (sym (offsets-some g s.dimensions some)) (all_offsets g s.dimensions ok.dimensions))
      | inr none ↦ absurd (given (offsets-none g s.dimensions none))
    ]
keeps s ok A6 = λ given.
    let g = s.grid.extents in
    elim (cases_Bool (list_any is_unbalanced s.dimensions)) [
      | inl some ↦
          let none = none_haloed s.dimensions (ok.one_mark (λ all. not_both (list_any is_unbalanced s.dimensions) some (none_unbalanced s.dimensions all))) in
          absurd (given (halos-none s.dimensions none))
      | inr none ↦ offsets-none g s.dimensions none
    ]
keeps s ok A7 = λ given. elim (cases_Bool (list_any has_halo s.dimensions)) [
  | inl some ↦
      let all = sym (halos-some s.dimensions some) in (
        subst (λ halos. length halos ≡ 2 * count_by is_split (listed (split_of s.dimensions) (extents s.dimensions))) all
            (subst (λ ds. length (flat_map halo_sizes s.dimensions) ≡ 2 * count_by is_split ds) (sym (listed-split_of s.dimensions)) (count-halos s.dimensions)),
        subst (All IsNatural) all (all_natural s.dimensions),
      )
  | inr none ↦ absurd (given (halos-none s.dimensions none))
]
keeps s ok A8 = (
  subst (AllByRecursion (HalosFit s.grid.extents)) (sym (again s ok)) (each_fits s.grid.extents s.dimensions ok.dimensions),
  λ device l. subst (λ z. counted_cells (local_shape z device) ≤ max_cells) (sym (spelling_again s ok)) (ok.fits device l),
)
keeps s ok _ = tt

pub spelling_admitted : (s : ShardingValue) → IsSharding s → IsAdmitted s.grid (raw_of s) (whole_of s)
spelling_admitted s ok = record { keeps = keeps s ok }
