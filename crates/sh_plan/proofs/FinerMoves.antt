-- The division that a move makes finer, or that it makes coarser: where the pieces of a group
-- begin.
use Rattle.std.proofs.Common.{◌≡◌, ◌∙◌, ℕ, ◌+◌, ◌-◌, ◌*◌, ◌/◌, ◌%◌, ◌<◌, ◌≤◌, true, false, not, ◌&&◌, List, [], ◌∷◌, ◌++◌, length, take, get_or, set, refl, ap, sym, subst, arith}
use Rattle.std.proofs.Math.Nat.{mul-le-mul_right}
use Rattle.std.proofs.lemmas.Bool.{not-true}
use Rattle.std.proofs.lemmas.List.{get_or-set_same, length-set, set-get_or, set-set}
use Rattle.sh_base.specs.Shape.{cell_count}
use Rattle.sh_grid.specs.Grid.{AreAxesOf, IsGrid, group_size_of, member_of, on_axes, place_in}
use Rattle.sh_grid.proofs.GroupLaws.{axes_join, member_of-agrees, member_of-below, place_in-member_of, places_join, places_stay}
use Rattle.sh_sharding.specs.declared.shardings.Dimension.{Dimension}
use Rattle.sh_sharding.specs.Made.{IsState}
use Rattle.sh_sharding.specs.Sharding.{IsDimension, IsDivided, ShardingValue, axes_of, is_even, is_split, is_uneven, offset_at, offset_of, part_of, part_size, parts_of, size_in, size_of_part, start_in, unsplit}
use Rattle.sh_sharding.proofs.Cases.{and_left, and_right}
use Rattle.sh_sharding.proofs.PartLaws.{axes_of-each, offset_of-within}
use Rattle.sh_plan.specs.Moves.{at, are_unused, is_even_or_unsplit, last_axis, with_axis, without_last}
use Rattle.sh_plan.proofs.AxisMore.{IsEvenPart, axis_parts, even_part}
use Rattle.sh_plan.proofs.FinerParts.{ArePieced, IsPieced, are_pieced}
use Rattle.sh_plan.proofs.MoveSteps.{last_apart}
use Rattle.sh_plan.proofs.States.{all_at, even_is, none_split, some_split}

-- ---- one axis more

pub group_of_one : (g : List ℕ) (a : ℕ) → group_size_of g (a ∷ []) ≡ get_or g a 0
unfolding group_size_of on_axes
group_of_one g a = omega arith

place_there : (g axes : List ℕ) (a c q : ℕ) → AreAxesOf (length g) (axes ++ a ∷ []) → c < cell_count g → q < group_size_of g (a ∷ []) →
    place_in g (axes ++ a ∷ []) (member_of g (a ∷ []) c q) ≡ place_in g axes c * get_or g a 0 + q
place_there g axes a c q own here below =
    let parts = (axes_join (length g) axes (a ∷ [])).0 own in
    let join = places_join g axes (a ∷ []) (member_of g (a ∷ []) c q) in
    let stays = places_stay g axes (a ∷ []) c (member_of g (a ∷ []) c q) parts.1 (member_of-agrees g (a ∷ []) c q here below) in
    let last = place_in-member_of g (a ∷ []) c q here below parts.2 in
    join ∙ rw (sym stays, last, group_of_one g a) refl

-- where pieces of one size begin
abbrev pub equal_starts : List ℕ → Dimension → ℕ → ℕ → ℕ
equal_starts g d c q = q * (d.extent / parts_of g d)

part_by : (g : List ℕ) (e : Dimension) (a c q : ℕ) → AreAxesOf (length g) (with_axis e a).axes → c < cell_count g → q < group_size_of g (a ∷ []) →
    part_of g (with_axis e a) (member_of g (a ∷ []) c q) ≡ part_of g e c * get_or g a 0 + q
unfolding part_of
part_by g e a c q axes here below = place_there g e.axes a c q axes here below

pub even_pieces : (g : List ℕ) (e : Dimension) (a : ℕ) → IsGrid g → AreAxesOf (length g) (with_axis e a).axes → is_even g (with_axis e a) ≡ true →
    IsPieced g (a ∷ []) (equal_starts g (with_axis e a)) (with_axis e a) e
even_pieces g e a grid axes even = record {
  begins = λ c q here below.
      let there = member_of-below g (a ∷ []) c q here below in
      let own = axis_parts g e a c grid axes even here in
      let its = axis_parts g e a (member_of g (a ∷ []) c q) grid axes even there in
      rw (its.many.begins, own.few.begins, own.size, part_by g e a c q axes here below) (omega arith);
  size = λ c q here below.
      let there = member_of-below g (a ∷ []) c q here below in
      let its = axis_parts g e a (member_of g (a ∷ []) c q) grid axes even there in
      rw its.many.size (omega arith);
  rises = λ c q here below. omega arith;
  within = λ c q here below.
      let own = axis_parts g e a c grid axes even here in
      let most : (q + 1) * (e.extent / parts_of g (with_axis e a)) ≤ group_size_of g (a ∷ []) * (e.extent / parts_of g (with_axis e a)) =
      mul-le-mul_right (e.extent / parts_of g (with_axis e a)) (omega (arith, below)) in
      let count = group_of_one g a in
      rw (own.few.size, own.size, sym count) (omega (arith, most));
  first = λ c here. omega arith;
  all = λ c here.
      let own = axis_parts g e a c grid axes even here in
      rw (own.few.size, own.size, group_of_one g a) (omega arith);
}

-- the last axis of an even dimension
pub even_pieces_last : (g : List ℕ) (d : Dimension) → IsGrid g → AreAxesOf (length g) d.axes → is_even g d ≡ true →
    IsPieced g (last_axis d ∷ []) (equal_starts g d) d (without_last d)
even_pieces_last g d grid axes even =
    let apart = last_apart d.axes (some_split d.axes (even_is g d even).split) in
    let same : d ≡ with_axis (without_last d) (last_axis d) = ap (λ (xs : List ℕ). record d { axes = xs }) apart in
    subst (λ (x : Dimension). IsPieced g (last_axis d ∷ []) (equal_starts g x) x (without_last d)) (sym same)
    (even_pieces g (without_last d) (last_axis d) grid (subst (λ xs. AreAxesOf (length g) xs) apart axes) (subst (λ (x : Dimension). is_even g x ≡ true) same even))

-- ---- a dimension that isn't split

record IsWholePart (g : List ℕ) (n c : ℕ) : Type 0 where
  begins : start_in g c (unsplit n) ≡ 0
  size : size_in g c (unsplit n) ≡ n

whole_part : (g : List ℕ) (n c : ℕ) → IsGrid g → c < cell_count g → IsWholePart g n c
unfolding part_of parts_of place_in group_size_of on_axes
whole_part g n c grid here =
    let p : IsEvenPart g (unsplit n) c = even_part g (unsplit n) c grid (record { axes = tt; balanced = refl; divided = omega arith }) here in
    let begins = p.begins in
    let size = p.size in
    record { begins = omega (arith, begins); size = omega (arith, size) }

pub whole_pieces : (g : List ℕ) (d : Dimension) → IsGrid g → AreAxesOf (length g) d.axes → IsDivided d.extent (parts_of g d) d.mark →
    IsPieced g d.axes (λ c q. offset_at g d q) d (unsplit d.extent)
unfolding part_of parts_of offset_at start_in size_in part_size size_of_part
whole_pieces g d grid axes divided = record {
  begins = λ c q here below.
      let place = place_in-member_of g d.axes c q here below axes in
      let whole = (whole_part g d.extent c grid here).begins in
      rw place (omega (arith, whole));
  size = λ c q here below.
      let place = place_in-member_of g d.axes c q here below axes in
      rw place refl;
  rises = λ c q here below. divided.rises q below;
  within = λ c q here below.
      let most = offset_of-within d.extent (group_size_of g d.axes) d.mark (q + 1) divided (omega (arith, below)) in
      let whole = (whole_part g d.extent c grid here).size in
      omega (arith, most, whole);
  first = λ c here. divided.begins;
  all = λ c here.
      let whole = (whole_part g d.extent c grid here).size in
      let ends = divided.ends in
      omega (arith, ends, whole);
}

-- ---- states

-- what holds of a dimension of a state
pub record IsOfState (g : List ℕ) (d : Dimension) : Type 0 where
  pub axes : AreAxesOf (length g) d.axes
  pub dimension : IsDimension g d

pub of_state : (s : ShardingValue) (k : ℕ) → IsState s → k < length s.dimensions → IsOfState s.grid.extents (at s.dimensions k)
of_state s k state within = record {
  axes = all_at (λ d. AreAxesOf (length s.grid.extents) d.axes) s.dimensions k (axes_of-each (length s.grid.extents) s.dimensions state.sharding.axes) within;
  dimension = all_at (IsDimension s.grid.extents) s.dimensions k state.sharding.dimensions within;
}

-- a dimension of a state is made coarser
pub coarser : (s : ShardingValue) (k : ℕ) (L : List ℕ) (off : ℕ → ℕ → ℕ) (e : Dimension) (front : List ℕ) → IsState s → k < length s.dimensions →
    (at s.dimensions k).axes ≡ front ++ L → IsPieced s.grid.extents L off (at s.dimensions k) e → ArePieced s.grid.extents L off k s.dimensions (set s.dimensions k e)
coarser s k L off e front state within ends pieced =
    are_pieced s.grid.extents L off (length s.grid.extents) k s.dimensions (set s.dimensions k e) (at s.dimensions k) e state.sharding.axes within (front, ends) refl refl pieced

-- a dimension of a state is finer than another that may stand there
pub finer : (gv : ShardingValue) (ds : List Dimension) (k : ℕ) (L : List ℕ) (off : ℕ → ℕ → ℕ) (d : Dimension) (front : List ℕ) → AreAxesOf (length gv.grid.extents) (axes_of (set ds k d)) →
    k < length ds → d.axes ≡ front ++ L → IsPieced gv.grid.extents L off d (at ds k) → ArePieced gv.grid.extents L off k (set ds k d) ds
finer gv ds k L off d front own within ends pieced =
    are_pieced gv.grid.extents L off (length gv.grid.extents) k (set ds k d) ds d (at ds k) own (rw (length-set ds k d) within) (front, ends) (get_or-set_same ds k d (unsplit 0) within)
    (sym (set-set ds k d (at ds k) ∙ set-get_or ds k (unsplit 0))) pieced
