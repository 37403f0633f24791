-- Lists of axes and their groups as the rules read them.
use Rattle.std.proofs.Common.{◌≡◌, ◌∙◌, ℕ, ◌<◌, Bool, true, false, ◌&&◌, List, [], ◌∷◌, length, map, get_or, All, None, Some, refl, ap, ap₂, arith}
use Rattle.std.specs.Prelude.{nat_eq, pos, if◌then◌else◌}
use Rattle.std.specs.List.{list_all}
use Rattle.std.proofs.lemmas.Bool.{and_from, lt-ltb}
use Rattle.std.proofs.lemmas.Bool.Decides.{nat_tests}
use Rattle.std.proofs.lemmas.List.{length-map}
use Rattle.std.proofs.lemmas.List.Elements.{All-head, All-tail}
use Rattle.sh_base.specs.Shape.{cell_count}
use Rattle.sh_grid.specs.Grid.{AreAxesOf, IsGrid, IsNoneOf, group_size_of, on_axes}
use Rattle.sh_ir.specs.declared.modules.GridItem.{GridItem}
use Rattle.sh_ir.specs.Formed.{is_not_negative}
use Rattle.sh_ir.specs.Numbers.{are_axes_below, are_distinct, as_naturals, is_below, is_positive}
use Rattle.sh_ir.specs.Regions.{is_among}
use Rattle.sh_ir.specs.Scope.{size_along}
use Rattle.sh_plan.proofs.SplitLaws.{naturals}

pub none_negative : (ns : List ℕ) → list_all is_not_negative (map pos ns) ≡ true
none_negative [] = refl
none_negative (n ∷ ns) = none_negative ns

-- ---- axes

not_among : (a : ℕ) (axes : List ℕ) → IsNoneOf a axes → is_among axes a ≡ false
not_among a [] none = refl
not_among a (b ∷ axes) none =
    let other = none.0 in
    let test : nat_eq a b ≡ false = grind (arith, nat_tests) in
    let rest = not_among a axes none.1 in
    rw (test, rest) refl

all_below : (rank : ℕ) (axes : List ℕ) → AreAxesOf rank axes → list_all (is_below rank) (map pos axes) ≡ true
all_below rank [] are = refl
all_below rank (a ∷ axes) are =
    let test = lt-ltb a rank are.0 in
    let rest = all_below rank axes are.2 in
    rw (test, rest) refl

all_distinct : (rank : ℕ) (axes : List ℕ) → AreAxesOf rank axes → are_distinct axes ≡ true
all_distinct rank [] are = refl
all_distinct rank (a ∷ axes) are =
    let other = not_among a axes are.1 in
    let rest = all_distinct rank axes are.2 in
    rw (other, rest) refl

-- distinct axes of a grid are written as such
pub axes_written : (rank : ℕ) (axes : List ℕ) → AreAxesOf rank axes → are_axes_below rank (map pos axes) ≡ true
axes_written rank axes are =
    and_from (list_all (is_below rank) (map pos axes)) (are_distinct (as_naturals (map pos axes))) (all_below rank axes are)
    (ap are_distinct (naturals axes) ∙ all_distinct rank axes are)

-- ---- extents

all_positive : (ns : List ℕ) → All (λ n. 0 < n) ns → list_all is_positive (map pos ns) ≡ true
all_positive [] all = refl
all_positive (n ∷ ns) all =
    let test = lt-ltb 0 n (All-head (λ n. 0 < n) n ns all) in
    let rest = all_positive ns (All-tail (λ n. 0 < n) n ns all) in
    rw (test, rest) refl

entries_are : (g axes : List ℕ) → map (λ a. get_or g a 0) axes ≡ on_axes axes g
unfolding on_axes
entries_are g axes = refl

-- the size of a group along axes of a grid is known where the grid's extents are written
pub size_known : (g axes : List ℕ) (item : GridItem) → IsGrid g → AreAxesOf (length g) axes → item.extents ≡ map pos g → size_along item (map pos axes) ≡ Some (group_size_of g axes)
unfolding group_size_of
size_known g axes item grid are written =
    let rank : length item.extents ≡ length g = ap length written ∙ length-map g pos in
    let own : are_axes_below (length item.extents) (map pos axes) ≡ true = ap (λ n. are_axes_below n (map pos axes)) rank ∙ axes_written (length g) axes are in
    let some : list_all is_positive item.extents ≡ true = ap (list_all is_positive) written ∙ all_positive g grid.positive in
    let extents : as_naturals item.extents ≡ g = ap as_naturals written ∙ naturals g in
    let count : cell_count (map (λ a. get_or (as_naturals item.extents) a 0) (as_naturals (map pos axes))) ≡ cell_count (on_axes axes g) =
    ap₂ (λ (es ls : List ℕ). cell_count (map (λ a. get_or es a 0) ls)) extents (naturals axes) ∙ ap cell_count (entries_are g axes) in
    ap₂ (λ (b c : Bool). if b && c then Some (cell_count (map (λ a. get_or (as_naturals item.extents) a 0) (as_naturals (map pos axes)))) else None) own some
    ∙ ap Some count
