-- Rules A6 to A8: the steps by which written halo sizes are given to the dimensions.
use Rattle.std.proofs.Common.{◌≡◌, ℕ, ◌+◌, ◌<◌, ◌≤◌, List, [], ◌∷◌, ◌++◌, length, get_or, take, drop, max, Bool, true, false, refl, ap, ap₂, sym, ◌∙◌, arith, subst, ℤ, pos}
use Rattle.std.specs.Prelude.{if◌then◌else◌}
use Rattle.std.specs.List.{AllByRecursion, All}
use Rattle.std.proofs.lemmas.List.{at_drop_more, at_drop_all, append_assoc, append-nil}
use Rattle.std.proofs.lemmas.List.Elements.{All-drop}
use Rattle.sh_base.proofs.IndexLaws.{cell_count-some}
use Rattle.sh_grid.specs.Grid.{IsGrid, AreAxesOf}
use Rattle.sh_sharding.specs.declared.shardings.Dimension.{Dimension}
use Rattle.sh_sharding.specs.Sharding.{parts_of, part_of, offset_at, part_size, size_of_part, IsDivided, IsMarked, is_split}
use Rattle.sh_sharding.specs.AxisLists.{natural, IsNatural}
use Rattle.sh_sharding.specs.HaloSizes.{halo_count, haloed, with_halos, HalosFit}
use Rattle.sh_sharding.specs.declared.views.MarkView.{MarkView}
use Rattle.sh_sharding.specs.Views.{mark_in, IsSeen}
use Rattle.sh_sharding.proofs.PartLaws.{part-ends, part_of-below}

pub part_size-haloed : (g : List ℕ) (d : Dimension) (hs : List ℤ) (i : ℕ) → part_size g (haloed d hs) i ≡ part_size g d i
unfolding part_size parts_of
part_size-haloed g d hs i = refl

pub parts_of-haloed : (g : List ℕ) (d : Dimension) (hs : List ℤ) → parts_of g (haloed d hs) ≡ parts_of g d
unfolding parts_of
parts_of-haloed g d hs = refl

-- the sizes that the code reads are those of the dimension
pub sizes_seen : (g : List ℕ) (d : Dimension) (p least : ℕ) (view : MarkView) → IsSeen g d p view → ((i : ℕ) → i < p → least ≤ size_of_part d.extent p (mark_in d.extent p view) i)
    → (i : ℕ) → i < parts_of g d → least ≤ part_size g d i
sizes_seen g d p least view seen h i l = subst (λ n. least ≤ n) (seen.size i) (h i (subst (λ n. i < n) (sym seen.parts) l))

pub sizes_read : (g : List ℕ) (d : Dimension) (p least : ℕ) (view : MarkView) → IsSeen g d p view → ((i : ℕ) → i < parts_of g d → least ≤ part_size g d i)
    → (i : ℕ) → i < p → least ≤ size_of_part d.extent p (mark_in d.extent p view) i
sizes_read g d p least view seen h i l = subst (λ n. least ≤ n) (sym (seen.size i)) (h i (subst (λ n. i < n) seen.parts l))

pub halos_fit : (g : List ℕ) (d : Dimension) (hs : List ℤ) (low high : ℕ) → low ≡ natural (get_or hs 0 (pos 0)) → high ≡ natural (get_or hs 1 (pos 0))
    → ((i : ℕ) → i < parts_of g d → max low high ≤ part_size g d i) → HalosFit g (haloed d hs)
halos_fit g d hs low high el eh h = λ i l.
    let le = h i (subst (λ n. i < n) (parts_of-haloed g d hs) l) in
    let same = part_size-haloed g d hs i in
    (omega arith, omega arith)

pub halos_misfit : (g : List ℕ) (d : Dimension) (hs : List ℤ) (low high : ℕ) → low ≡ natural (get_or hs 0 (pos 0)) → high ≡ natural (get_or hs 1 (pos 0))
    → HalosFit g (haloed d hs) → (i : ℕ) → i < parts_of g d → max low high ≤ part_size g d i
halos_misfit g d hs low high el eh h i l =
    let both = h i (subst (λ n. i < n) (sym (parts_of-haloed g d hs)) l) in
    let first = both.0 in
    let second = both.1 in
    let same = part_size-haloed g d hs i in
    omega arith

-- a halo that fits is no longer than its dimension
pub halo_small : (g : List ℕ) (d : Dimension) (halo : ℕ) → IsDivided d.extent (parts_of g d) d.mark → 0 < parts_of g d → ((i : ℕ) → i < parts_of g d → halo ≤ part_size g d i) → halo ≤ d.extent
halo_small g d halo ok some h =
    let first = h 0 some in
    let ends = part-ends g d 0 ok some in
    let sum : offset_at g d 0 + part_size g d 0 ≡ offset_at g d (0 + 1) = ends.0 in
    let within : offset_at g d (0 + 1) ≤ d.extent = ends.1 in
    omega arith

pub some_parts : (g : List ℕ) (d : Dimension) → IsGrid g → AreAxesOf (length g) d.axes → 0 < parts_of g d
some_parts g d ok m = part_of-some g d 0 (part_of-below g d 0 (cell_count-some g ok.positive) m)
  where
    part_of-some : (g : List ℕ) (d : Dimension) (device : ℕ) → part_of g d device < parts_of g d → 0 < parts_of g d
    part_of-some g d device h = omega arith

-- what it says of a dimension that the code finds no part of it shorter than a halo
pub record HasRoom (g : List ℕ) (d : Dimension) (halo : ℕ) : Type 0 where
  pub sizes : (i : ℕ) → i < parts_of g d → halo ≤ part_size g d i
  pub small : halo ≤ d.extent

pub has_room : (g : List ℕ) (d : Dimension) (p halo : ℕ) (view : MarkView) → IsGrid g → IsMarked g d → IsSeen g d p view → ((i : ℕ) → i < p → halo ≤ size_of_part d.extent p (mark_in d.extent p view) i) → HasRoom g d halo
has_room g d p halo view grid marked seen h =
    let sizes = sizes_seen g d p halo view seen h in
    record { sizes = sizes; small = halo_small g d halo marked.divided (some_parts g d grid marked.axes) sizes }

pub made_haloed : (d : Dimension) (hs : List ℤ) (low high : ℕ) → low ≡ natural (get_or hs 0 (pos 0))
    → high ≡ natural (get_or hs 1 (pos 0))
    → record { extent = d.extent; axes = d.axes; mark = d.mark; low = low; high = high } ≡ haloed d hs
made_haloed d hs low high el eh = λ j. record { extent = d.extent; axes = d.axes; mark = d.mark; low = el j; high = eh j }

pub halo_count-split : (d : Dimension) → is_split d ≡ true → 2 ≡ halo_count d
unfolding halo_count
halo_count-split d h = sym (ap (λ (b : Bool). if b then 2 else 0) h)

pub halo_count-unsplit : (d : Dimension) → is_split d ≡ false → 0 ≡ halo_count d
unfolding halo_count
halo_count-unsplit d h = sym (ap (λ (b : Bool). if b then 2 else 0) h)

pub record IsHaloing (g : List ℕ) (ds : List Dimension) (halos : List ℤ) (i : ℕ) (out : List Dimension) (rest : List ℤ) : Type 0 where
  pub done : out ++ with_halos (drop i ds) rest ≡ with_halos ds halos
  pub forth : AllByRecursion (HalosFit g) (with_halos (drop i ds) rest) → AllByRecursion (HalosFit g) (with_halos ds halos)
  pub back : AllByRecursion (HalosFit g) (with_halos ds halos) → AllByRecursion (HalosFit g) (with_halos (drop i ds) rest)
  pub naturals : All IsNatural rest

pub haloing_start : (g : List ℕ) (ds : List Dimension) (halos : List ℤ) → All IsNatural halos → IsHaloing g ds halos 0 [] halos
haloing_start g ds halos h = record { done = refl; forth = λ h. h; back = λ h. h; naturals = h }

pub haloing_more : (g : List ℕ) (ds : List Dimension) (halos : List ℤ) (i : ℕ) (out : List Dimension) (rest mine others : List ℤ) (d e : Dimension) → IsHaloing g ds halos i out rest → i < length ds
    → d ≡ get_or ds i d → mine ≡ take (halo_count d) rest → others ≡ drop (halo_count d) rest → HalosFit g (haloed d mine) → e ≡ haloed d mine
    → IsHaloing g ds halos (i + 1) (out ++ e ∷ []) others
haloing_more g ds halos i out rest mine others d e h l read em eo has ee =
    let next : drop i ds ≡ d ∷ drop (i + 1) ds = at_drop_more (λ xs. xs) ds i d l ∙ ap (λ z. z ∷ drop (i + 1) ds) (sym read) in
    let head : e ≡ haloed d (take (halo_count d) rest) = ee ∙ ap (haloed d) em in
    record {
      done =
          append_assoc out (e ∷ []) (with_halos (drop (i + 1) ds) others)
          ∙ ap (λ z. out ++ z) (ap₂ (λ x ys. x ∷ with_halos (drop (i + 1) ds) ys) head eo ∙ sym (ap (λ xs. with_halos xs rest) next))
          ∙ h.done;
      forth = λ k. h.forth (subst (λ xs. AllByRecursion (HalosFit g) (with_halos xs rest)) (sym next)
          (subst (λ hs. HalosFit g (haloed d hs)) em has, subst (λ hs. AllByRecursion (HalosFit g) (with_halos (drop (i + 1) ds) hs)) eo k));
      back = λ k. subst (λ hs. AllByRecursion (HalosFit g) (with_halos (drop (i + 1) ds) hs)) (sym eo) (subst (λ xs. AllByRecursion (HalosFit g) (with_halos xs rest)) next (h.back k)).1;
      naturals = subst (All IsNatural) (sym eo) (All-drop IsNatural (halo_count d) rest h.naturals);
    }

pub haloing_broken : (g : List ℕ) (ds : List Dimension) (halos : List ℤ) (i : ℕ) (out : List Dimension) (rest mine : List ℤ) (d : Dimension) → IsHaloing g ds halos i out rest → i < length ds
    → d ≡ get_or ds i d → mine ≡ take (halo_count d) rest → ¬ HalosFit g (haloed d mine) → ¬ AllByRecursion (HalosFit g) (with_halos ds halos)
haloing_broken g ds halos i out rest mine d h l read em broken = λ all.
    let next : drop i ds ≡ d ∷ drop (i + 1) ds = at_drop_more (λ xs. xs) ds i d l ∙ ap (λ z. z ∷ drop (i + 1) ds) (sym read) in
    broken (subst (λ hs. HalosFit g (haloed d hs)) (sym em) (subst (λ xs. AllByRecursion (HalosFit g) (with_halos xs rest)) next (h.back all)).0)

pub record AreHaloed (g : List ℕ) (ds : List Dimension) (halos : List ℤ) (out : List Dimension) : Type 0 where
  pub value : out ≡ with_halos ds halos
  pub fits : AllByRecursion (HalosFit g) (with_halos ds halos)

pub haloing_end : (g : List ℕ) (ds : List Dimension) (halos : List ℤ) (i : ℕ) (out : List Dimension) (rest : List ℤ) → IsHaloing g ds halos i out rest → length ds ≤ i → AreHaloed g ds halos out
haloing_end g ds halos i out rest h le =
    let none : drop i ds ≡ [] = at_drop_all (λ xs. xs) ds i le in
    record {
      value = sym (append-nil out) ∙ ap (λ z. out ++ z) (sym (ap (λ xs. with_halos xs rest) none)) ∙ h.done;
      fits = h.forth (subst (λ xs. AllByRecursion (HalosFit g) (with_halos xs rest)) (sym none) tt);
    }
