-- From each state moves lead to the one that isn't split: each of them takes an axis away.
use Rattle.std.proofs.Common.{zero, suc, ◌≡◌, ◌∙◌, ◌⊎◌, ℕ, ◌+◌, ◌-◌, ◌*◌, ◌<◌, ◌≤◌, Bool, true, false, List, [], ◌∷◌, ◌++◌, length, map, ap, sym, refl, arith, inl, inr}
use Rattle.std.specs.Prelude.{Contains}
use Rattle.std.specs.List.{AllByRecursion, range_with_len}
use Rattle.std.proofs.Math.Nat.{mul-le-mul_left}
use Rattle.std.proofs.lemmas.List.{length-set, length-take-le}
use Rattle.sh_base.specs.Shape.{cell_count}
use Rattle.sh_sharding.specs.declared.shardings.Dimension.{Dimension}
use Rattle.sh_sharding.specs.Sharding.{axes_of, is_even, is_split, is_uneven, unsplit}
use Rattle.sh_ways.specs.Graph.{HasWay}
use Rattle.sh_ways.proofs.Passes.{extended}
use Rattle.sh_plan.specs.declared.moves.Move.{Move}
use Rattle.sh_plan.specs.declared.moves.Move.TheVariants.{M1, M2, M3, M4, M5}
use Rattle.sh_plan.specs.Moves.{after, at, candidates, each_m1, each_m2, each_m3, each_m4, each_m5, may, moves_at, without_last}
use Rattle.sh_plan.specs.Costs.{cost_between, reshards}
use Rattle.sh_plan.proofs.Elements.{IsIn, contained, in_filter, in_flat_map, in_left, in_map, in_range, in_right}
use Rattle.sh_plan.proofs.States.{AreInState, IsStateDimension, all_at, all_set, axes_set, cost_within, even_is, even_or_uneven, is_unsplit, map_set, none_split, some_split, state_of_balanced, state_unsplit, uneven_is_split}

-- the extents of the dimensions
abbrev pub extents_of : List Dimension → List ℕ
extents_of ds = map (λ d. d.extent) ds

-- the same dimensions, none of them split
abbrev pub whole_of : List Dimension → List Dimension
whole_of ds = map (λ d. unsplit d.extent) ds

-- what a step costs at most
abbrev pub most : List ℕ → ℕ → ℕ
most g cells = 1 + cell_count g * cells

-- a way of at most so many steps, by cost
pub record HasShortWay (g : List ℕ) (ts : List Dimension) (cells steps : ℕ) (from to : List Dimension) : Type 0 where
  pub cost : ℕ
  pub within : cost ≤ steps * most g cells
  pub way : HasWay (reshards g ts) from to cost

pub no_steps : (g : List ℕ) (ts : List Dimension) (cells steps : ℕ) (from to : List Dimension) → from ≡ to → HasShortWay g ts cells steps from to
no_steps g ts cells steps from to e = record {
  cost = 0;
  within = omega arith;
  way = record { way = []; leads = e; sum = refl };
}

-- a move that may be made is one of the list
pub is_move : (g : List ℕ) (ts ds : List Dimension) (m : Move) → may g ts ds m ≡ true → IsIn m (candidates (length g) (length ds)) → Contains ((reshards g ts).moves ds) m
unfolding reshards moves_at
is_move g ts ds m yes' listed = contained m (moves_at g ts ds) (in_filter (may g ts ds) m (candidates (length g) (length ds)) yes' listed)

one_more : (cost here rest steps m : ℕ) → cost ≡ here + rest → here ≤ m → rest ≤ steps * m → cost ≤ suc steps * m
one_more cost here rest steps m e a b = grind arith

-- one step more
pub step : (g : List ℕ) (ts : List Dimension) (cells steps : ℕ) (from to : List Dimension) (m : Move) → Contains ((reshards g ts).moves from) m →
    AreInState g (after ts from m) → length from ≡ length (after ts from m) → cell_count (extents_of (after ts from m)) ≤ cells →
    HasShortWay g ts cells steps (after ts from m) to → HasShortWay g ts cells (suc steps) from to
unfolding reshards
step g ts cells steps from to m has state same small way =
    let cost : cost_between g from (after ts from m) ≤ 1 + cell_count g * cell_count (extents_of (after ts from m)) = cost_within g from (after ts from m) same state in
    let more : cell_count g * cell_count (extents_of (after ts from m)) ≤ cell_count g * cells = mul-le-mul_left (cell_count g) small in
    record {
      cost = cost_between g from (after ts from m) + way.cost;
      within = one_more (cost_between g from (after ts from m) + way.cost) (cost_between g from (after ts from m)) way.cost steps (most g cells) refl (omega arith) way.within;
      way = extended (reshards g ts) from to m way.cost has way.way;
    }

-- ---- the candidates of each kind

abbrev from_m4 : ℕ → List Move
from_m4 rank = each_m4 rank ++ each_m5 rank

abbrev from_m3 : ℕ → List Move
from_m3 rank = each_m3 rank ++ from_m4 rank

abbrev from_m2 : ℕ → ℕ → List Move
from_m2 axes rank = each_m2 axes rank ++ from_m3 rank

below_rank : (n i : ℕ) → i < n → IsIn i (range_with_len 0 n)
below_rank n i h = in_range 0 n i (omega arith) (omega arith)

pub candidate_1 : (axes rank d : ℕ) → d < rank → IsIn (M1 d) (candidates axes rank)
unfolding candidates
candidate_1 axes rank d h = in_left (M1 d) (each_m1 rank) (from_m2 axes rank) (in_map M1 d (range_with_len 0 rank) (below_rank rank d h))

pub candidate_2 : (axes rank d a : ℕ) → d < rank → a < axes → IsIn (M2 d a) (candidates axes rank)
unfolding candidates
candidate_2 axes rank d a h k =
    in_right (M2 d a) (each_m1 rank) (from_m2 axes rank) (in_left (M2 d a) (each_m2 axes rank) (from_m3 rank)
    (in_flat_map (λ x. map (M2 x) (range_with_len 0 axes)) d (M2 d a) (range_with_len 0 rank) (below_rank rank d h)
    (in_map (M2 d) a (range_with_len 0 axes) (below_rank axes a k))))

pub candidate_3 : (axes rank d e : ℕ) → d < rank → e < rank → IsIn (M3 d e) (candidates axes rank)
unfolding candidates
candidate_3 axes rank d e h k =
    in_right (M3 d e) (each_m1 rank) (from_m2 axes rank) (in_right (M3 d e) (each_m2 axes rank) (from_m3 rank) (in_left (M3 d e) (each_m3 rank) (from_m4 rank)
    (in_flat_map (λ x. map (M3 x) (range_with_len 0 rank)) d (M3 d e) (range_with_len 0 rank) (below_rank rank d h)
    (in_map (M3 d) e (range_with_len 0 rank) (below_rank rank e k)))))

pub candidate_4 : (axes rank d : ℕ) → d < rank → IsIn (M4 d) (candidates axes rank)
unfolding candidates
candidate_4 axes rank d h =
    in_right (M4 d) (each_m1 rank) (from_m2 axes rank) (in_right (M4 d) (each_m2 axes rank) (from_m3 rank)
    (in_right (M4 d) (each_m3 rank) (from_m4 rank) (in_left (M4 d) (each_m4 rank) (each_m5 rank)
    (in_map M4 d (range_with_len 0 rank) (below_rank rank d h)))))

pub candidate_5 : (axes rank d : ℕ) → d < rank → IsIn (M5 d) (candidates axes rank)
unfolding candidates
candidate_5 axes rank d h =
    in_right (M5 d) (each_m1 rank) (from_m2 axes rank) (in_right (M5 d) (each_m2 axes rank) (from_m3 rank)
    (in_right (M5 d) (each_m3 rank) (from_m4 rank) (in_right (M5 d) (each_m4 rank) (each_m5 rank)
    (in_map M5 d (range_with_len 0 rank) (below_rank rank d h)))))

-- ---- gathering

-- some dimension is split, or none
find_split : (ds : List Dimension) → (AllByRecursion (λ d. d.axes ≡ []) ds) ⊎ ((i : ℕ) × (i < length ds) × (is_split (at ds i) ≡ true))
find_split [] = inl tt
find_split (d ∷ ds) = by (is_split d) refl (find_split ds)
  where
    by : (b : Bool) → is_split d ≡ b → (AllByRecursion (λ d'. d'.axes ≡ []) ds) ⊎ ((i : ℕ) × (i < length ds) × (is_split (at ds i) ≡ true)) →
        (AllByRecursion (λ d'. d'.axes ≡ []) (d ∷ ds)) ⊎ ((i : ℕ) × (i < length (d ∷ ds)) × (is_split (at (d ∷ ds) i) ≡ true))
    by true e rest = inr (0, omega arith, e)
    by false e (inl none) = inl (none_split d.axes e, none)
    by false e (inr r) = inr (suc r.0, omega (arith, r.1), r.2)

are_whole : (g : List ℕ) (ds : List Dimension) → AreInState g ds → AllByRecursion (λ d. d.axes ≡ []) ds → ds ≡ whole_of ds
are_whole g [] s none = refl
are_whole g (d ∷ ds) s none =
    let first : d ≡ unsplit d.extent = is_unsplit g d s.0 none.0 in
    let rest : ds ≡ whole_of ds = are_whole g ds s.1 none.1 in
    ap (λ (x : Dimension). x ∷ ds) first ∙ ap (λ (xs : List Dimension). unsplit d.extent ∷ xs) rest

-- a move that takes an axis away
record IsGather (g : List ℕ) (ts ds : List Dimension) (m : Move) : Type 0 where
  pub has : Contains ((reshards g ts).moves ds) m
  pub state : AreInState g (after ts ds m)
  pub same : length ds ≡ length (after ts ds m)
  pub extents : extents_of (after ts ds m) ≡ extents_of ds
  pub whole : whole_of (after ts ds m) ≡ whole_of ds
  pub fewer : length (axes_of (after ts ds m)) < length (axes_of ds)

gather_even : (g : List ℕ) (ts ds : List Dimension) (i : ℕ) → AreInState g ds → i < length ds → is_even g (at ds i) ≡ true → IsGather g ts ds (M1 i)
unfolding after may
gather_even g ts ds i state within even =
    let d : IsStateDimension g (at ds i) = all_at (IsStateDimension g) ds i state within in
    let e = even_is g (at ds i) even in
    let count = axes_set ds i (without_last (at ds i)) within in
    let some : 0 < length (at ds i).axes = some_split (at ds i).axes e.split in
    let taken : length (without_last (at ds i)).axes ≡ length (at ds i).axes - 1 = length-take-le (length (at ds i).axes - 1) (at ds i).axes (omega arith) in
    record {
      has = is_move g ts ds (M1 i) even (candidate_1 (length g) (length ds) i within);
      state = all_set (IsStateDimension g) ds i (without_last (at ds i)) state (state_of_balanced g (without_last (at ds i)) d.low d.high e.balanced);
      same = sym (length-set ds i (without_last (at ds i)));
      extents = map_set (λ x. x.extent) ds i (without_last (at ds i)) refl;
      whole = map_set (λ x. unsplit x.extent) ds i (without_last (at ds i)) refl;
      fewer = omega (arith, count, taken, some);
    }

gather_uneven : (g : List ℕ) (ts ds : List Dimension) (i : ℕ) → AreInState g ds → i < length ds → is_uneven g (at ds i) ≡ true → IsGather g ts ds (M4 i)
unfolding after may
gather_uneven g ts ds i state within uneven =
    let count = axes_set ds i (unsplit (at ds i).extent) within in
    let some : 0 < length (at ds i).axes = some_split (at ds i).axes (uneven_is_split g (at ds i) uneven) in
    record {
      has = is_move g ts ds (M4 i) uneven (candidate_4 (length g) (length ds) i within);
      state = all_set (IsStateDimension g) ds i (unsplit (at ds i).extent) state (state_unsplit g (at ds i).extent);
      same = sym (length-set ds i (unsplit (at ds i).extent));
      extents = map_set (λ x. x.extent) ds i (unsplit (at ds i).extent) refl;
      whole = map_set (λ x. unsplit x.extent) ds i (unsplit (at ds i).extent) refl;
      fewer = omega (arith, count, some);
    }

some_gather : (g : List ℕ) (ts ds : List Dimension) (i : ℕ) → AreInState g ds → i < length ds → is_split (at ds i) ≡ true → (m : Move) × IsGather g ts ds m
some_gather g ts ds i state within split = elim (even_or_uneven g (at ds i) split) [
  | inl even ↦ (M1 i, gather_even g ts ds i state within even)
  | inr uneven ↦ (M4 i, gather_uneven g ts ds i state within uneven)
]

pub gather : (g : List ℕ) (ts : List Dimension) (cells n : ℕ) (ds : List Dimension) → AreInState g ds → cell_count (extents_of ds) ≤ cells →
    length (axes_of ds) ≤ n → HasShortWay g ts cells n ds (whole_of ds)
gather g ts cells zero ds state small few = elim (find_split ds) [
  | inl none ↦ no_steps g ts cells 0 ds (whole_of ds) (are_whole g ds state none)
  | inr found ↦
      let m = some_gather g ts ds found.0 state found.1 found.2 in
      absurd (omega (arith, m.1.fewer))
]
gather g ts cells (suc n) ds state small few = elim (find_split ds) [
  | inl none ↦ no_steps g ts cells (suc n) ds (whole_of ds) (are_whole g ds state none)
  | inr found ↦
      let m = some_gather g ts ds found.0 state found.1 found.2 in
      let smaller : cell_count (extents_of (after ts ds m.0)) ≤ cells = rw m.1.extents small in
      let rest : HasShortWay g ts cells n (after ts ds m.0) (whole_of (after ts ds m.0)) =
      gather g ts cells n (after ts ds m.0) m.1.state smaller (omega (arith, m.1.fewer)) in
      let here : HasShortWay g ts cells n (after ts ds m.0) (whole_of ds) = rw m.1.whole at rest in
      step g ts cells n ds (whole_of ds) m.0 m.1.has m.1.state m.1.same smaller here
]
