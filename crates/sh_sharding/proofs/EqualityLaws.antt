-- Admitted shardings as values.
use Rattle.std.proofs.Common.{◌≡◌, ℕ, ◌<◌, ◌≤◌, inl, inr, List, [], ◌∷◌, length, get_or, map, drop, false, refl, ap, ap₂, sym, ◌∙◌, arith, subst}
use Rattle.std.specs.List.{AllByRecursion, AllByRecursion-prop, list_any}
use mathlib.Core.List.{is_set}
use base.Stored.{Coded-set}
use Rattle.sh_sharding.specs.contracts.shardings.Mark as mark
use Rattle.sh_base.specs.declared.shapes.Shape.{Shape}
use Rattle.std.proofs.Math.Bridge.{le_prop}
use Rattle.std.proofs.Math.Nat.{ℕ_set}
use Rattle.std.proofs.lemmas.Bool.{cases_Bool}
use Rattle.sh_base.specs.Shape.{max_cells, max_rank}
use Rattle.sh_grid.specs.Grid.{IsGrid, IsNoneOf, AreAxesOf}
use Rattle.sh_sharding.specs.declared.shardings.Mark.{Mark}
use Rattle.sh_sharding.specs.declared.shardings.Mark.TheVariants.{Balanced, Offsets}
use Rattle.sh_sharding.specs.declared.shardings.Dimension.{Dimension}
use Rattle.sh_sharding.specs.Sharding.{ShardingValue, whole_of, unsplit, counted_cells, is_split, IsNormalMark, IsDimension, IsSharding}
use Rattle.sh_sharding.specs.Normal.{Division, division_of, normal_form, IsSame}
use Rattle.sh_sharding.specs.Spelling.{raw_of}
use Rattle.sh_sharding.specs.Laws.{IsWritten, AdmissionLaws, EqualityLaws}
use Rattle.sh_sharding.proofs.WrittenLaws.{no_axes}
use Rattle.sh_sharding.proofs.AdmissionLaws.{is_sharding}
use Rattle.sh_sharding.proofs.MadeLaws.{made_plain, in_order, states_stay}
use Rattle.sh_sharding.proofs.NormalLaws.{or_parts, some_split, none_split}
use Rattle.sh_sharding.proofs.OrderLaws.{total_order, same_place}
use Rattle.sh_sharding.proofs.SpellingLaws.{spelling_again, spelling_admitted}
use Rattle.std.proofs.lemmas.List.{length-map}

-- ---- same shardings of one shape

whole_dimension : (g : List ℕ) (d e : Dimension) → IsDimension g d → IsDimension g e → is_split d ≡ false → is_split e ≡ false → d.extent ≡ e.extent → d ≡ e
whole_dimension g d e hd he sd se extent = hd.unsplit (no_axes d sd) ∙ ap unsplit extent ∙ sym (he.unsplit (no_axes e se))

same_dimension : (d e : Dimension) → division_of d ≡ division_of e → d.extent ≡ e.extent → d ≡ e
same_dimension d e h extent =
    let axes = ap (λ x. x.axes) h in
    let mark = ap (λ x. x.mark) h in
    let low = ap (λ x. x.low) h in
    let high = ap (λ x. x.high) h in
    λ j. record { extent = extent j; axes = axes j; mark = mark j; low = low j; high = high j }

first_of : (x y : Division) (xs ys : List Division) → (x ∷ xs) ≡ (y ∷ ys) → x ≡ y
first_of x y xs ys h = ap (λ zs. get_or zs 0 x) h

rest_of : (x y : Division) (xs ys : List Division) → (x ∷ xs) ≡ (y ∷ ys) → xs ≡ ys
rest_of x y xs ys h = ap (drop 1) h

same_dimensions : (g : List ℕ) (ds es : List Dimension) → AllByRecursion (IsDimension g) ds → AllByRecursion (IsDimension g) es → map (λ d. d.extent) ds ≡ map (λ d. d.extent) es → normal_form ds ≡ normal_form es → ds ≡ es
same_dimensions g [] [] hd he extents h = refl
same_dimensions g [] (e ∷ es) hd he extents h = absurd (cc)
same_dimensions g (d ∷ ds) [] hd he extents h = absurd (cc)
same_dimensions g (d ∷ ds) (e ∷ es) hd he extents h =
    let first : d.extent ≡ e.extent = ap (λ ns. get_or ns 0 0) extents in
    let rest : map (λ x. x.extent) ds ≡ map (λ x. x.extent) es = ap (drop 1) extents in
    elim (cases_Bool (list_any is_split (d ∷ ds))) [
      | inl some ↦ elim (cases_Bool (list_any is_split (e ∷ es))) [
        | inl other ↦
            let both : division_of d ∷ normal_form ds ≡ division_of e ∷ normal_form es = sym (ap (map division_of) (some_split d ds some)) ∙ h ∙ ap (map division_of) (some_split e es other) in
            ap₂ ◌∷◌ (same_dimension d e (first_of (division_of d) (division_of e) (normal_form ds) (normal_form es) both) first)
            (same_dimensions g ds es hd.1 he.1 rest (rest_of (division_of d) (division_of e) (normal_form ds) (normal_form es) both))
        | inr none ↦
            let both : division_of d ∷ normal_form ds ≡ [] = sym (ap (map division_of) (some_split d ds some)) ∙ h ∙ ap (map division_of) (none_split (e ∷ es) none) in
            absurd (cc)
      ]
      | inr none ↦ elim (cases_Bool (list_any is_split (e ∷ es))) [
        | inl other ↦
            let both : [] ≡ division_of e ∷ normal_form es = sym (ap (map division_of) (none_split (d ∷ ds) none)) ∙ h ∙ ap (map division_of) (some_split e es other) in
            absurd (cc)
        | inr neither ↦
            let left = or_parts (is_split d) (list_any is_split ds) none in
            let right = or_parts (is_split e) (list_any is_split es) neither in
            ap₂ ◌∷◌ (whole_dimension g d e hd.0 he.0 left.0 right.0 first)
            (same_dimensions g ds es hd.1 he.1 rest (ap (map division_of) (none_split ds left.1) ∙ sym (ap (map division_of) (none_split es right.1))))
      ]
    ]

same_value : (a b : ShardingValue) → IsSharding a → IsSharding b → IsSame a b → whole_of a ≡ whole_of b → a ≡ b
same_value a b ha hb same whole =
    let own : AllByRecursion (IsDimension a.grid.extents) b.dimensions = subst (λ g. AllByRecursion (IsDimension g.extents) b.dimensions) (sym same.grid) hb.dimensions in
    let grid = same.grid in
    let dimensions = same_dimensions a.grid.extents a.dimensions b.dimensions ha.dimensions own whole same.form in
    λ j. record { grid = grid j; dimensions = dimensions j }

pub equality_laws : EqualityLaws
equality_laws = record { same = same_value; total = total_order; place = same_place }

-- ---- a proposition

none_of-prop : (a : ℕ) (axes : List ℕ) → IsProp (IsNoneOf a axes)
none_of-prop a [] = hlevel
none_of-prop a (b ∷ axes) = hlevel (none_of-prop a axes)

below-prop : (a b : ℕ) → IsProp (a < b)
below-prop a b = le_prop

axes_of-prop : (rank : ℕ) (axes : List ℕ) → IsProp (AreAxesOf rank axes)
axes_of-prop rank [] = hlevel
axes_of-prop rank (a ∷ axes) = hlevel (below-prop a rank, none_of-prop a axes, axes_of-prop rank axes)

normal-prop : (n p : ℕ) (m : Mark) → IsProp (IsNormalMark n p m)
normal-prop n p Balanced = hlevel
normal-prop n p (Offsets os) = hlevel ℕ_set

shape-set : IsSet Shape
shape-set = is_set ℕ_set

mark-set : IsSet Mark
mark-set = Coded-set mark.the_row.coded

dimension-prop : (g : List ℕ) (d : Dimension) → IsProp (IsDimension g d)
dimension-prop g d = hlevel (ℕ_set, le_prop, shape-set, mark-set, normal-prop)

dimensions-prop : (g : List ℕ) (ds : List Dimension) → IsProp (AllByRecursion (IsDimension g) ds)
dimensions-prop g ds = AllByRecursion-prop (IsDimension g) (dimension-prop g) ds

no_halos-prop : (ds : List Dimension) → IsProp (AllByRecursion (λ d. (d.low ≡ 0) × (d.high ≡ 0)) ds)
no_halos-prop ds = AllByRecursion-prop (λ d. (d.low ≡ 0) × (d.high ≡ 0)) (λ d. hlevel ℕ_set) ds

sharding-prop : (s : ShardingValue) → IsProp (IsSharding s)
sharding-prop s = hlevel (ℕ_set, le_prop, below-prop, axes_of-prop, dimensions-prop, no_halos-prop)

-- ---- admission

is_written : (s : ShardingValue) → IsSharding s → IsWritten s
is_written s h = record { raw = raw_of s; named = refl; admitted = spelling_admitted s h; value = spelling_again s h }

written_is : (s : ShardingValue) → IsGrid s.grid.extents → length s.dimensions ≤ max_rank → counted_cells (whole_of s) ≤ max_cells → IsWritten s → IsSharding s
written_is s ok short small h =
    subst IsSharding h.value (is_sharding s.grid h.raw (whole_of s) ok (omega (arith, length-map s.dimensions (λ d. d.extent))) small h.admitted)

pub admission_laws : AdmissionLaws
admission_laws = record {
  written = λ s ok short small. (is_written s, written_is s ok short small);
  proposition = λ s p q. sharding-prop s p q;
  plain = made_plain;
  in_order = in_order;
  stay = states_stay;
}
