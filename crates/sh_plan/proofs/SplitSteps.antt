-- What lets a dimension be split as the target's: that sharding is an admitted one without halos.
use Rattle.std.proofs.Common.{zero, suc, ◌≡◌, ◌∙◌, ℕ, ◌<◌, true, false, not, ◌&&◌, List, [], ◌∷◌, ◌++◌, length, map, get_or, ap, sym, subst, refl, arith}
use Rattle.std.specs.List.{list_any}
use Rattle.std.proofs.lemmas.Bool.{not-true}
use Rattle.std.proofs.lemmas.List.{length-map}
use Rattle.sh_grid.specs.Grid.{AreApart, AreAxesOf, group_size_of}
use Rattle.sh_grid.proofs.GroupLaws.{axes_join}
use Rattle.sh_sharding.specs.declared.shardings.Dimension.{Dimension}
use Rattle.sh_sharding.specs.Made.{IsState, split_by, with_dimension}
use Rattle.sh_sharding.specs.Sharding.{IsDimension, IsDivided, IsNormalMark, ShardingValue, axes_of, dimension_of, is_split, is_split_by, is_uneven, parts_of, whole_of}
use Rattle.sh_sharding.proofs.Cases.{and_left, and_right}
use Rattle.sh_sharding.proofs.MadeLaws.{states_stay}
use Rattle.sh_sharding.proofs.PartLaws.{axes_of-each}
use Rattle.sh_plan.specs.declared.moves.Move.TheVariants.{M5}
use Rattle.sh_plan.specs.Moves.{are_unused, at, is_listed, may, may_be}
use Rattle.sh_plan.proofs.MovedSteps.{none_of}
use Rattle.sh_plan.proofs.States.{all_at, uneven_is_split}
use Rattle.sh_plan.proofs.Unused.{or_left, or_right}

-- axes of which none is listed are apart from the list
apart_of : (xs ys : List ℕ) → list_any (λ a. is_listed a ys) xs ≡ false → AreApart xs ys
apart_of [] ys h = tt
apart_of (x ∷ xs) ys h = (
  none_of x ys (or_left (is_listed x ys) (list_any (λ a. is_listed a ys) xs) h),
  apart_of xs ys (or_right (is_listed x ys) (list_any (λ a. is_listed a ys) xs) h),
)

pub extent_at : (ds : List Dimension) (i : ℕ) → (at ds i).extent ≡ get_or (map (λ d. d.extent) ds) i 0
extent_at [] i = refl
extent_at (d ∷ ds) zero = refl
extent_at (d ∷ ds) (suc i) = extent_at ds i

split_like : (s : ShardingValue) (dim : ℕ) (axes : List ℕ) (t : Dimension) → IsState s → dim < length s.dimensions → is_split (dimension_of s dim) ≡ false →
    AreAxesOf (length s.grid.extents) (axes ++ axes_of s.dimensions) → axes ≡ t.axes → is_split_by axes ≡ true →
    IsDimension s.grid.extents t → t.extent ≡ (dimension_of s dim).extent → t.low ≡ 0 → t.high ≡ 0 → IsState (with_dimension s dim t)
unfolding parts_of
split_like s dim [] t state within whole own e some ok ext low high = absurd (cc)
split_like s dim (a ∷ axes) t state within whole own e some ok ext low high =
    let none = all_at (λ d. (d.low ≡ 0) × (d.high ≡ 0)) s.dimensions dim state.plain within in
    let divided : IsDivided (dimension_of s dim).extent (group_size_of s.grid.extents (a ∷ axes)) t.mark = rw (e, sym ext) ok.divided in
    let normal : IsNormalMark (dimension_of s dim).extent (group_size_of s.grid.extents (a ∷ axes)) t.mark = rw (e, sym ext) ok.normal in
    let same : split_by (dimension_of s dim) (a ∷ axes) t.mark ≡ t =
    λ j. record { extent = sym ext j; axes = e j; mark = t.mark; low = (none.0 ∙ sym low) j; high = (none.1 ∙ sym high) j } in
    subst (λ (x : Dimension). IsState (with_dimension s dim x)) same ((states_stay s state).split dim a axes t.mark within whole own divided normal)

pub same_rank : (ds es : List Dimension) → map (λ d. d.extent) ds ≡ map (λ d. d.extent) es → length ds ≡ length es
same_rank ds es e = sym (length-map ds (λ d. d.extent)) ∙ ap (λ (ns : List ℕ). length ns) e ∙ length-map es (λ d. d.extent)

pub is_split_as : (s to : ShardingValue) (dim : ℕ) → IsState s → IsState to → s.grid ≡ to.grid → whole_of s ≡ whole_of to →
    dim < length s.dimensions → may_be s to (M5 dim) ≡ true → IsState (with_dimension s dim (dimension_of to dim))
unfolding may
is_split_as s to dim state target grid whole within allowed =
    let there : dim < length to.dimensions = let rank = same_rank s.dimensions to.dimensions whole in omega (arith, rank, within) in
    let rest : (is_uneven s.grid.extents (at to.dimensions dim) && are_unused s.dimensions (at to.dimensions dim).axes) ≡ true =
    and_right (not (is_split (at s.dimensions dim))) (is_uneven s.grid.extents (at to.dimensions dim) && are_unused s.dimensions (at to.dimensions dim).axes) allowed in
    let unsplit : is_split (at s.dimensions dim) ≡ false = not-true (is_split (at s.dimensions dim))
    (and_left (not (is_split (at s.dimensions dim))) (is_uneven s.grid.extents (at to.dimensions dim) && are_unused s.dimensions (at to.dimensions dim).axes) allowed) in
    let uneven : is_uneven s.grid.extents (at to.dimensions dim) ≡ true =
    and_left (is_uneven s.grid.extents (at to.dimensions dim)) (are_unused s.dimensions (at to.dimensions dim).axes) rest in
    let free : list_any (λ a. is_listed a (axes_of s.dimensions)) (at to.dimensions dim).axes ≡ false =
    not-true (list_any (λ a. is_listed a (axes_of s.dimensions)) (at to.dimensions dim).axes)
    (and_right (is_uneven s.grid.extents (at to.dimensions dim)) (are_unused s.dimensions (at to.dimensions dim).axes) rest) in
    let own : AreAxesOf (length to.grid.extents) (at to.dimensions dim).axes =
    all_at (λ d. AreAxesOf (length to.grid.extents) d.axes) to.dimensions dim (axes_of-each (length to.grid.extents) to.dimensions target.sharding.axes) there in
    let ok : IsDimension to.grid.extents (at to.dimensions dim) = all_at (IsDimension to.grid.extents) to.dimensions dim target.sharding.dimensions there in
    let none = all_at (λ d. (d.low ≡ 0) × (d.high ≡ 0)) to.dimensions dim target.plain there in
    let here : AreAxesOf (length s.grid.extents) (at to.dimensions dim).axes = rw grid own in
    let ok_here : IsDimension s.grid.extents (at to.dimensions dim) = rw grid ok in
    let extent : (at to.dimensions dim).extent ≡ (at s.dimensions dim).extent =
    extent_at to.dimensions dim ∙ ap (λ (ns : List ℕ). get_or ns dim 0) (sym whole) ∙ sym (extent_at s.dimensions dim) in
    split_like s dim (at to.dimensions dim).axes (at to.dimensions dim) state within unsplit
    ((axes_join (length s.grid.extents) (at to.dimensions dim).axes (axes_of s.dimensions)).1
    (here, apart_of (at to.dimensions dim).axes (axes_of s.dimensions) free, state.sharding.axes))
    refl (uneven_is_split s.grid.extents (at to.dimensions dim) uneven) ok_here extent none.0 none.1
