-- The answers of admission, rule by rule.
use Rattle.sh_base.specs.Shape.{max_cells}
use Rattle.std.proofs.Common.{◌≡◌, ◌≢◌, ℕ, ◌+◌, ◌*◌, ◌<◌, ◌≤◌, inl, inr, List, [], ◌∷◌, length, get_or, map, take, drop, Bool, true, false, cond, refl, ap, ap₂, sym, ◌∙◌, arith, subst, ℤ, pos}
use Rattle.std.specs.Prelude.{◌==◌, count_by}
use Rattle.std.specs.List.{All, AllByRecursion}
use Rattle.std.proofs.lemmas.List.Elements.{All-from_recursion}
use Rattle.sh_base.specs.declared.rules.Rule.TheVariants.{A1, A2, A3, A5, A7, A8}
use Rattle.sh_grid.specs.Grid.{GridValue, IsGrid, AreAxesOf}
use Rattle.sh_ir.specs.declared.types.RawSharding.{RawSharding}
use Rattle.sh_sharding.specs.declared.shardings.Dimension.{Dimension}
use Rattle.sh_sharding.specs.Sharding.{unsplit, counted_cells, IsMarked, is_split}
use Rattle.sh_sharding.specs.Admission.{sharding_of, Keeps, KeepsLists, KeepsHalos, IsLeastBroken}
use Rattle.sh_sharding.specs.AxisLists.{natural, IsBelow, listed_axes, listed, IsNatural}
use Rattle.sh_sharding.specs.HaloSizes.{halo_count, haloed, with_halos, HalosFit}
use Rattle.sh_sharding.specs.OffsetLists.{offset_count, with_mark, marked}
use Rattle.sh_sharding.proofs.WrittenLaws.{listed_below, has_axes, take-nil, drop-nil, marked_balanced, marked_written, extents-marked, extents-listed}
use Rattle.sh_sharding.proofs.PartLaws.{extents_few}
use Rattle.std.proofs.lemmas.List.Recursion.{is_count_by}
use Rattle.sh_sharding.proofs.Cases.{none_or_some, not_both}

pub listed_fit : (g : List ℕ) (lists : List (List ℤ)) (axes : List ℕ) → axes ≡ listed_axes lists → All (All (IsBelow (length g))) lists → All (λ a. a < length g) axes
listed_fit g lists axes e h = subst (All (λ a. a < length g)) (sym e) (listed_below (length g) lists h)

kept_A1 : (g : GridValue) (raw : RawSharding) (s : List ℕ) (extents : List ℕ) (lists : List (List ℤ)) → extents ≡ g.extents → lists ≡ raw.split → All (All (IsBelow (length extents))) lists → Keeps A1 g raw s
kept_A1 g raw s extents lists eg el h =
    let h' : All (All (IsBelow (length g.extents))) lists = subst (λ z. All (All (IsBelow (length z))) lists) eg h in
    subst (All (All (IsBelow (length g.extents)))) el h'

kept_A2 : (g : GridValue) (raw : RawSharding) (s : List ℕ) (lists : List (List ℤ)) (axes : List ℕ) → lists ≡ raw.split → axes ≡ listed_axes lists → ((a : ℕ) → count_by (λ b. b == a) axes ≤ 1) → Keeps A2 g raw s
kept_A2 g raw s lists axes el ea h = λ a. subst (λ z. count_by (λ b. b == a) z ≤ 1) (ea ∙ ap listed_axes el) (h a)

pub least_A2 : (g : GridValue) (raw : RawSharding) (s : List ℕ) (extents : List ℕ) (lists : List (List ℤ)) (axes : List ℕ) (r : Bool) → extents ≡ g.extents → lists ≡ raw.split → axes ≡ listed_axes lists
    → All (All (IsBelow (length extents))) lists → r ≡ false → (((a : ℕ) → count_by (λ b. b == a) axes ≤ 1) → r ≡ true) → IsLeastBroken A2 g raw s
least_A2 g raw s extents lists axes r eg el ea h failed passes = record {
  broken = λ kept. not_both r (passes (λ a. subst (λ z. count_by (λ b. b == a) z ≤ 1) (sym (ea ∙ ap listed_axes el)) (kept a))) failed;
  earlier = (kept_A1 g raw s extents lists eg el h, tt);
}

pub least_A3 : (g : GridValue) (raw : RawSharding) (s : List ℕ) (extents : List ℕ) (lists : List (List ℤ)) (axes : List ℕ) → extents ≡ g.extents → lists ≡ raw.split → axes ≡ listed_axes lists
    → All (All (IsBelow (length extents))) lists → ((a : ℕ) → count_by (λ b. b == a) axes ≤ 1) → length s < length lists → IsLeastBroken A3 g raw s
least_A3 g raw s extents lists axes eg el ea h few lt = record {
  broken = λ kept. let kept' : length lists ≤ length s = subst (λ z. length z ≤ length s) (sym el) kept in absurd (omega arith);
  earlier = (kept_A1 g raw s extents lists eg el h, (kept_A2 g raw s lists axes el ea few, tt));
}

pub kept_lists : (g : GridValue) (raw : RawSharding) (s : List ℕ) (extents : List ℕ) (lists : List (List ℤ)) (axes : List ℕ) → extents ≡ g.extents → lists ≡ raw.split → axes ≡ listed_axes lists
    → All (All (IsBelow (length extents))) lists → ((a : ℕ) → count_by (λ b. b == a) axes ≤ 1) → length lists ≤ length s → KeepsLists g raw s
kept_lists g raw s extents lists axes eg el ea h few le = record {
  axes = kept_A1 g raw s extents lists eg el h;
  once = kept_A2 g raw s lists axes el ea few;
  few = subst (λ z. length z ≤ length s) el le;
}

pub axes_asked : (g : GridValue) (raw : RawSharding) (s : List ℕ) (ds : List Dimension) → length g.extents ≤ 4 → KeepsLists g raw s → ds ≡ listed raw.split s → All (λ d. AreAxesOf (length g.extents) d.axes) ds
axes_asked g raw s ds few h e =
    subst (All (λ d. AreAxesOf (length g.extents) d.axes)) (sym e) (All-from_recursion (λ d. AreAxesOf (length g.extents) d.axes) (listed raw.split s) (has_axes g raw s few h).each)

-- ---- halos

pub no_halos_left : (g : List ℕ) (lists : List (List ℤ)) (s : List ℕ) (os : List ℤ) → marked g (listed lists s) os ≡ with_halos (marked g (listed lists s) os) []
no_halos_left g lists [] os = refl
no_halos_left g lists (n ∷ s) os =
    let d = with_mark g (record (unsplit n) { axes = map natural (get_or lists 0 []) }) (take (offset_count g (record (unsplit n) { axes = map natural (get_or lists 0 []) })) os) in
    let none = take-nil {X = ℤ} (halo_count d) in
    let rest = drop-nil {X = ℤ} (halo_count d) in
    let low : 0 ≡ natural (get_or (take (halo_count d) []) 0 (pos 0)) = sym (ap (λ z. natural (get_or z 0 (pos 0))) none) in
    let high : 0 ≡ natural (get_or (take (halo_count d) []) 1 (pos 0)) = sym (ap (λ z. natural (get_or z 1 (pos 0))) none) in
    let head : d ≡ haloed d (take (halo_count d) []) = λ j. record d { low = low j; high = high j } in
    let left = drop (offset_count g (record (unsplit n) { axes = map natural (get_or lists 0 []) })) os in
    ap₂ ◌∷◌ head (no_halos_left g (drop 1 lists) s left ∙ ap (with_halos (marked g (listed (drop 1 lists) s) left)) (sym rest))

count_split : (g : List ℕ) (ds : List Dimension) (os : List ℤ) → map is_split (marked g ds os) ≡ map is_split ds
count_split g [] os = refl
count_split g (d ∷ ds) os = ap (λ z. is_split d ∷ z) (count_split g ds (drop (offset_count g d) os))

pub all_marked : (g : GridValue) (raw : RawSharding) (s : List ℕ) → IsGrid g.extents → KeepsLists g raw s → Keeps A5 g raw s → AllByRecursion (IsMarked g.extents) (marked g.extents (listed raw.split s) raw.offsets)
all_marked g raw s ok lists divisions =
    let axes = has_axes g raw s ok.few lists in
    elim (none_or_some raw.offsets) [
      | inl none ↦ subst (λ os. AllByRecursion (IsMarked g.extents) (marked g.extents (listed raw.split s) os)) (sym none) (marked_balanced g.extents (listed raw.split s) ok axes.each)
      | inr given ↦ marked_written g.extents (listed raw.split s) raw.offsets ok axes.each (divisions given)
    ]

fits_none : (g : List ℕ) (ds : List Dimension) → AllByRecursion (HalosFit g) (with_halos ds [])
fits_none g [] = tt
fits_none g (d ∷ ds) =
    let none = take-nil {X = ℤ} (halo_count d) in
    let rest = drop-nil {X = ℤ} (halo_count d) in
    (subst (λ hs. HalosFit g (haloed d hs)) (sym none) (λ i l. (omega arith, omega arith)), subst (λ hs. AllByRecursion (HalosFit g) (with_halos ds hs)) (sym rest) (fits_none g ds))

pub kept_none : (g : GridValue) (raw : RawSharding) (s : List ℕ) → raw.halos ≡ [] → KeepsHalos g raw s
kept_none g raw s none = record {
  alone = λ given. absurd (given none);
  counted = λ given. absurd (given none);
  fit = subst (λ hs. AllByRecursion (HalosFit g.extents) (with_halos (marked g.extents (listed raw.split s) raw.offsets) hs)) (sym none) (fits_none g.extents (marked g.extents (listed raw.split s) raw.offsets));
}

pub halos_stay : (g : GridValue) (raw : RawSharding) (s : List ℕ) → raw.halos ≡ [] → marked g.extents (listed raw.split s) raw.offsets ≡ (sharding_of g raw s).dimensions
halos_stay g raw s none = no_halos_left g.extents raw.split s raw.offsets ∙ ap (with_halos (marked g.extents (listed raw.split s) raw.offsets)) (sym none)

split_marked : (g : List ℕ) (ds : List Dimension) (os : List ℤ) → count_by is_split (marked g ds os) ≡ count_by is_split ds
split_marked g ds os = sym (splits_is (marked g ds os)) ∙ splits_marked g ds os ∙ splits_is ds
  where
    splits : List Dimension → ℕ
    splits [] = 0
    splits (d ∷ ds) = cond (is_split d) (1 + splits ds) (splits ds)

    splits_is : (ds : List Dimension) → splits ds ≡ count_by is_split ds
    splits_is ds = is_count_by splits is_split refl (λ x ys. refl) ds

    splits_marked : (g : List ℕ) (ds : List Dimension) (os : List ℤ) → splits (marked g ds os) ≡ splits ds
    splits_marked g [] os = refl
    splits_marked g (d ∷ ds) os = ap (λ n. cond (is_split d) (1 + n) n) (splits_marked g ds (drop (offset_count g d) os))

pub count_read : (g : GridValue) (raw : RawSharding) (s : List ℕ) (ds : List Dimension) (n : ℕ) → ds ≡ marked g.extents (listed raw.split s) raw.offsets → n ≡ count_by is_split ds → n ≡ count_by is_split (listed raw.split s)
count_read g raw s ds n e en = en ∙ ap (count_by is_split) e ∙ split_marked g.extents (listed raw.split s) raw.offsets

pub least_A7 : (g : GridValue) (raw : RawSharding) (s : List ℕ) (halos : List ℤ) (n : ℕ) (r : Bool) → KeepsLists g raw s → Keeps A5 g raw s → halos ≡ raw.halos → raw.halos ≢ [] → raw.offsets ≡ [] → n ≡ count_by is_split (listed raw.split s)
    → r ≡ false → ((length halos ≡ 2 * n) × All IsNatural halos → r ≡ true) → IsLeastBroken A7 g raw s
least_A7 g raw s halos n r lists divisions eh some none en failed passes = record {
  broken = λ kept.
      let both = kept some in
      let long : length halos ≡ 2 * n = ap length eh ∙ both.0 ∙ sym (ap (λ z. 2 * z) en) in
      not_both r (passes (long, subst (All IsNatural) (sym eh) both.1)) failed;
  earlier = (lists.axes, (lists.once, (lists.few, (divisions, ((λ given. none), tt)))));
}

pub counted_A7 : (g : GridValue) (raw : RawSharding) (s : List ℕ) (halos : List ℤ) (n : ℕ) → halos ≡ raw.halos → n ≡ count_by is_split (listed raw.split s) → (length halos ≡ 2 * n) × All IsNatural halos → Keeps A7 g raw s
counted_A7 g raw s halos n eh en h = λ some. (sym (ap length eh) ∙ h.0 ∙ ap (λ z. 2 * z) en, subst (All IsNatural) eh h.1)

pub least_A8 : (g : GridValue) (raw : RawSharding) (s : List ℕ) → KeepsLists g raw s → Keeps A5 g raw s → raw.offsets ≡ [] → Keeps A7 g raw s → ¬ AllByRecursion (HalosFit g.extents) (sharding_of g raw s).dimensions → IsLeastBroken A8 g raw s
least_A8 g raw s lists divisions none counted misfit = record {
  broken = λ kept. misfit kept.0;
  earlier = (lists.axes, (lists.once, (lists.few, (divisions, ((λ given. none), (counted, tt))))));
}

pub marked_asked : (g : GridValue) (raw : RawSharding) (s : List ℕ) (ds : List Dimension) → IsGrid g.extents → KeepsLists g raw s → Keeps A5 g raw s → ds ≡ marked g.extents (listed raw.split s) raw.offsets → All (IsMarked g.extents) ds
marked_asked g raw s ds ok lists divisions e = subst (All (IsMarked g.extents)) (sym e) (All-from_recursion (IsMarked g.extents) (marked g.extents (listed raw.split s) raw.offsets) (all_marked g raw s ok lists divisions))

pub small_asked : (g : GridValue) (raw : RawSharding) (s : List ℕ) (ds : List Dimension) → counted_cells s ≤ max_cells → ds ≡ marked g.extents (listed raw.split s) raw.offsets → All (λ d. d.extent ≤ max_cells) ds
small_asked g raw s ds small e =
    let same : map (λ d. d.extent) ds ≡ s = ap (map (λ d. d.extent)) e ∙ extents-marked g.extents (listed raw.split s) raw.offsets ∙ extents-listed raw.split s in
    All-from_recursion (λ d. d.extent ≤ max_cells) ds (extents_few ds max_cells (rw same small))

pub kept_halos : (g : GridValue) (raw : RawSharding) (s : List ℕ) (ds : List Dimension) (halos : List ℤ) (out : List Dimension) → raw.offsets ≡ [] → Keeps A7 g raw s → ds ≡ marked g.extents (listed raw.split s) raw.offsets → halos ≡ raw.halos
    → AllByRecursion (HalosFit g.extents) (with_halos ds halos) → out ≡ with_halos ds halos → KeepsHalos g raw s × (out ≡ (sharding_of g raw s).dimensions)
kept_halos g raw s ds halos out none counted ed eh fit eo =
    let same : with_halos ds halos ≡ (sharding_of g raw s).dimensions = ap₂ with_halos ed eh in
    (record { alone = λ given. none; counted = counted; fit = subst (AllByRecursion (HalosFit g.extents)) same fit }, eo ∙ same)

pub misfit_read : (g : GridValue) (raw : RawSharding) (s : List ℕ) (ds : List Dimension) (halos : List ℤ) → ds ≡ marked g.extents (listed raw.split s) raw.offsets → halos ≡ raw.halos
    → ¬ AllByRecursion (HalosFit g.extents) (with_halos ds halos) → ¬ AllByRecursion (HalosFit g.extents) (sharding_of g raw s).dimensions
misfit_read g raw s ds halos ed eh misfit = λ fit. misfit (subst (AllByRecursion (HalosFit g.extents)) (sym (ap₂ with_halos ed eh)) fit)
