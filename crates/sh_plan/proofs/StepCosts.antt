-- What each move costs, by how many cells the parts of all devices hold.
use Rattle.std.proofs.Common.{zero, suc, ◌≡◌, ◌≢◌, ◌∙◌, ℕ, ◌+◌, ◌-◌, ◌*◌, ◌/◌, ◌<◌, ◌≤◌, ◌==◌, true, false, not, ◌&&◌, List, [], ◌∷◌, length, set, get_or, ap, sym, subst, refl, arith}
use Rattle.std.specs.List.{AllByRecursion}
use Rattle.std.proofs.Math.Nat.{mul-div_cancel_left}
use Rattle.std.proofs.lemmas.Bool.{not-true}
use Rattle.std.proofs.lemmas.List.{get_or-set_same, length-set}
use Rattle.sh_base.specs.Shape.{cell_count}
use Rattle.sh_grid.specs.Grid.{AreAxesOf, GridValue}
use Rattle.sh_sharding.specs.declared.shardings.Dimension.{Dimension}
use Rattle.sh_sharding.specs.Made.{IsState}
use Rattle.sh_sharding.specs.Sharding.{IsDimension, ShardingValue, is_even, is_split, is_uneven, size_in, unsplit}
use Rattle.sh_sharding.proofs.Cases.{and_left, and_right}
use Rattle.sh_sharding.proofs.PartLaws.{IsPlaced, axes_of-each, placed}
use Rattle.sh_plan.specs.declared.moves.Move.{Move}
use Rattle.sh_plan.specs.declared.moves.Move.TheVariants.{M1, M2, M3, M4, M5}
use Rattle.sh_plan.specs.Moves.{IsNamed, IsStep, after, are_unused, at, is_even_or_unsplit, last_axis, may, may_append, with_axis, without_last}
use Rattle.sh_plan.specs.Costs.{common_cells, common_length, cost_between, held, part_cells}
use Rattle.sh_plan.proofs.AxisMore.{IsCutBy, cut_by, cut_by_last}
use Rattle.sh_plan.proofs.DeviceSums.{all_is_kept, cost_and_kept, held_set, kept, sums_times}
use Rattle.sh_plan.proofs.Inside.{IsInside, all_common, all_kept, costs_one, inside_set, inside_whole, set_inside}
use Rattle.sh_plan.proofs.MovedViews.{differ, other_at}
use Rattle.sh_plan.proofs.SplitSteps.{extent_at}
use Rattle.sh_plan.proofs.States.{all_at, even_is, none_split}

-- ---- no part grows, or none shrinks

pub record IsLarger (g : List ℕ) (ds es : List Dimension) : Type 0 where
  pub cost : cost_between g ds es + held g ds ≡ 1 + held g es
  pub less : held g ds ≤ held g es

some_cost : (g : List ℕ) (ds es : List Dimension) → 1 ≤ cost_between g ds es
unfolding cost_between
some_cost g ds es = omega arith

grows : (g : List ℕ) (ds : List Dimension) (i : ℕ) (x : Dimension) → IsInside g x (at ds i) → IsLarger g ds (set ds i x)
grows g ds i x inside =
    let kept_is = all_is_kept g ds (set ds i x) (inside_set g ds i x inside) in
    let cost = cost_and_kept g ds (set ds i x) (sym (length-set ds i x)) in
    let some = some_cost g ds (set ds i x) in
    record { cost = omega (arith, kept_is, cost); less = omega (arith, kept_is, cost, some) }

-- a part that is k times as long along one dimension
pub record IsMore (g : List ℕ) (ds es : List Dimension) (k : ℕ) : Type 0 where
  pub some : 0 < k
  pub more : k * held g ds ≡ held g es
  pub cost : cost_between g ds es + held g ds ≡ 1 + k * held g ds

gathers_even : (g : List ℕ) (ds : List Dimension) (i k : ℕ) (x : Dimension) → i < length ds → IsCutBy g k x (at ds i) → IsMore g ds (set ds i x) k
gathers_even g ds i k x within cut =
    let more : k * held g ds ≡ 1 * held g (set ds i x) = held_set k 1 g ds i x within (λ device here. let s = cut.sizes device here in omega (arith, s)) in
    let cost = (grows g ds i x cut.inside).cost in
    record { some = cut.some; more = omega (arith, more); cost = omega (arith, more, cost) }

-- ---- an axis that goes from one dimension to another

-- what is held along one of them before, and along the other afterwards
common_exchange : (g : List ℕ) (device : ℕ) (ds : List Dimension) (d e : ℕ) (x y : Dimension) → device < cell_count g → d ≢ e →
    IsInside g x (at ds d) → IsInside g (at ds e) y → common_cells g device ds (set (set ds d x) e y) ≡ part_cells g device (set ds e y)
common_exchange g device [] d e x y here apart first second = refl
common_exchange g device (a ∷ ds) zero zero x y here apart first second = absurd (apart refl)
common_exchange g device (a ∷ ds) zero (suc e) x y here apart first second =
    let begins = first.begins device here in
    let ends = first.ends device here in
    let long : common_length g device a x ≡ size_in g device a = omega (arith, begins, ends) in
    rw (long, all_common g device ds (set ds e y) here (set_inside g ds e y second)) refl
common_exchange g device (a ∷ ds) (suc d) zero x y here apart first second =
    let begins = second.begins device here in
    let ends = second.ends device here in
    let long : common_length g device a y ≡ size_in g device y = omega (arith, begins, ends) in
    rw (long, all_kept g device ds (set ds d x) here (inside_set g ds d x first)) refl
common_exchange g device (a ∷ ds) (suc d) (suc e) x y here apart first second =
    let long : common_length g device a a ≡ size_in g device a = omega arith in
    rw (long, common_exchange g device ds d e x y here (λ q. apart (ap suc q)) first second) refl

pub record IsExchanged (g : List ℕ) (ds es : List Dimension) (k : ℕ) : Type 0 where
  pub some : 0 < k
  pub same : held g es ≡ held g ds
  pub cost : cost_between g ds es ≡ 1 + (held g ds - held g ds / k)

same_times : (k a b : ℕ) → 0 < k → k * a ≡ k * b → a ≡ b
same_times k a b some e = sym (mul-div_cancel_left a some) ∙ ap (λ n. n / k) e ∙ mul-div_cancel_left b some

exchanges : (g : List ℕ) (ds : List Dimension) (d e k : ℕ) (x y : Dimension) → d < length ds → e < length ds → d ≢ e →
    IsCutBy g k x (at ds d) → IsCutBy g k (at ds e) y → IsExchanged g ds (set (set ds d x) e y) k
unfolding kept held
exchanges g ds d e k x y d_in e_in apart first second =
    let longer : k * held g ds ≡ 1 * held g (set ds d x) = held_set k 1 g ds d x d_in (λ device here. let s = first.sizes device here in omega (arith, s)) in
    let long = length-set ds d x in
    let there = other_at ds d e x apart in
    let shorter : 1 * held g (set ds d x) ≡ k * held g (set (set ds d x) e y) =
    held_set 1 k g (set ds d x) e y (omega (arith, long, e_in)) (λ device here. let s = second.sizes device here in rw there (omega (arith, s))) in
    let same : held g ds ≡ held g (set (set ds d x) e y) = same_times k (held g ds) (held g (set (set ds d x) e y)) first.some (longer ∙ shorter) in
    let apart_cells : 1 * held g ds ≡ k * held g (set ds e y) = held_set 1 k g ds e y e_in (λ device here. let s = second.sizes device here in omega (arith, s)) in
    let common : 1 * kept g ds (set (set ds d x) e y) ≡ 1 * held g (set ds e y) =
    sums_times 1 1 (λ device. common_cells g device ds (set (set ds d x) e y)) (λ device. part_cells g device (set ds e y)) 0 (cell_count g)
    (λ device below. ap (λ n. 1 * n) (common_exchange g device ds d e x y (omega (arith, below)) apart first.inside second.inside)) in
    let divided : held g ds / k ≡ held g (set ds e y) =
    ap (λ n. n / k) (let n : held g ds ≡ k * held g (set ds e y) = omega (arith, apart_cells) in n) ∙ mul-div_cancel_left (held g (set ds e y)) first.some in
    let second_long = length-set (set ds d x) e y in
    let cost = cost_and_kept g ds (set (set ds d x) e y) (omega (arith, long, second_long)) in
    record { some = first.some; same = sym same; cost = omega (arith, same, common, divided, cost) }

-- ---- move by move

module _ (s next : ShardingValue) (m : Move) (state : IsState s) (then : IsState next) (step : IsStep s next m) where
  named_as : (n : Move) → m ≡ n → IsNamed (length s.grid.extents) (length s.dimensions) n
  named_as n e = subst (IsNamed (length s.grid.extents) (length s.dimensions)) e step.named

  allowed_as : (n : Move) → m ≡ n → may s.grid.extents step.to.dimensions s.dimensions n ≡ true
  allowed_as n e = subst (λ x. may s.grid.extents step.to.dimensions s.dimensions x ≡ true) e step.allowed

  made_as : (n : Move) → m ≡ n → next.dimensions ≡ after step.to.dimensions s.dimensions n
  made_as n e = subst (λ x. next.dimensions ≡ after step.to.dimensions s.dimensions x) e step.made

  axes_at : (i : ℕ) → i < length s.dimensions → AreAxesOf (length s.grid.extents) (at s.dimensions i).axes
  axes_at i within =
      all_at (λ d. AreAxesOf (length s.grid.extents) d.axes) s.dimensions i (axes_of-each (length s.grid.extents) s.dimensions state.sharding.axes) within

  -- the axes of a dimension afterwards
  axes_then : (es : List Dimension) (i : ℕ) → next.dimensions ≡ es → i < length es → AreAxesOf (length s.grid.extents) (at es i).axes
  axes_then es i made within =
      let all = axes_of-each (length next.grid.extents) next.dimensions then.sharding.axes in
      let there : AllByRecursion (λ d. AreAxesOf (length s.grid.extents) d.axes) es =
      subst (λ ds. AllByRecursion (λ d. AreAxesOf (length s.grid.extents) d.axes) ds) made
      (subst (λ (g : GridValue). AllByRecursion (λ d. AreAxesOf (length g.extents) d.axes) next.dimensions) step.grid all) in
      all_at (λ d. AreAxesOf (length s.grid.extents) d.axes) es i there within

  pub step_1 : (d : ℕ) → m ≡ M1 d → IsMore s.grid.extents s.dimensions next.dimensions (get_or s.grid.extents (last_axis (at s.dimensions d)) 0)
  unfolding may after
  step_1 d e =
      let within : d < length s.dimensions = named_as (M1 d) e in
      let even : is_even s.grid.extents (at s.dimensions d) ≡ true = allowed_as (M1 d) e in
      let made : next.dimensions ≡ set s.dimensions d (without_last (at s.dimensions d)) = made_as (M1 d) e in
      rw made (gathers_even s.grid.extents s.dimensions d (get_or s.grid.extents (last_axis (at s.dimensions d)) 0) (without_last (at s.dimensions d)) within
      (cut_by_last s.grid.extents (at s.dimensions d) state.sharding.grid (axes_at d within) even))

  pub step_2 : (d a : ℕ) → m ≡ M2 d a → cost_between s.grid.extents s.dimensions next.dimensions ≡ 1
  unfolding may after
  step_2 d a e =
      let names : (d < length s.dimensions) × (a < length s.grid.extents) = named_as (M2 d a) e in
      let ok : (are_unused s.dimensions (a ∷ []) && may_append s.grid.extents s.dimensions d a) ≡ true = allowed_as (M2 d a) e in
      let append = and_right (are_unused s.dimensions (a ∷ [])) (may_append s.grid.extents s.dimensions d a) ok in
      let even = and_right (is_even_or_unsplit s.grid.extents (at s.dimensions d)) (is_even s.grid.extents (with_axis (at s.dimensions d) a)) append in
      let made : next.dimensions ≡ set s.dimensions d (with_axis (at s.dimensions d) a) = made_as (M2 d a) e in
      let there : at (set s.dimensions d (with_axis (at s.dimensions d) a)) d ≡ with_axis (at s.dimensions d) a =
      get_or-set_same s.dimensions d (with_axis (at s.dimensions d) a) (unsplit 0) names.0 in
      let long = length-set s.dimensions d (with_axis (at s.dimensions d) a) in
      let axes : AreAxesOf (length s.grid.extents) (with_axis (at s.dimensions d) a).axes =
      rw there at (axes_then (set s.dimensions d (with_axis (at s.dimensions d) a)) d made (let within = names.0 in omega (arith, long, within))) in
      rw made (costs_one s.grid.extents s.dimensions (set s.dimensions d (with_axis (at s.dimensions d) a))
      (set_inside s.grid.extents s.dimensions d (with_axis (at s.dimensions d) a) (cut_by s.grid.extents (at s.dimensions d) a state.sharding.grid axes even).inside))

  pub step_3 : (d f : ℕ) → m ≡ M3 d f → IsExchanged s.grid.extents s.dimensions next.dimensions (get_or s.grid.extents (last_axis (at s.dimensions d)) 0)
  unfolding may after
  step_3 d f e =
      let names : (d < length s.dimensions) × (f < length s.dimensions) = named_as (M3 d f) e in
      let ok : (not (d == f) && (is_even s.grid.extents (at s.dimensions d) && may_append s.grid.extents s.dimensions f (last_axis (at s.dimensions d)))) ≡ true = allowed_as (M3 d f) e in
      let apart : (d == f) ≡ false =
      not-true (d == f) (and_left (not (d == f)) (is_even s.grid.extents (at s.dimensions d) && may_append s.grid.extents s.dimensions f (last_axis (at s.dimensions d))) ok) in
      let rest = and_right (not (d == f)) (is_even s.grid.extents (at s.dimensions d) && may_append s.grid.extents s.dimensions f (last_axis (at s.dimensions d))) ok in
      let even = and_left (is_even s.grid.extents (at s.dimensions d)) (may_append s.grid.extents s.dimensions f (last_axis (at s.dimensions d))) rest in
      let append = and_right (is_even s.grid.extents (at s.dimensions d)) (may_append s.grid.extents s.dimensions f (last_axis (at s.dimensions d))) rest in
      let even_then = and_right (is_even_or_unsplit s.grid.extents (at s.dimensions f)) (is_even s.grid.extents (with_axis (at s.dimensions f) (last_axis (at s.dimensions d)))) append in
      let made : next.dimensions ≡ set (set s.dimensions d (without_last (at s.dimensions d))) f (with_axis (at s.dimensions f) (last_axis (at s.dimensions d))) = made_as (M3 d f) e in
      let long = length-set s.dimensions d (without_last (at s.dimensions d)) in
      let within : f < length (set s.dimensions d (without_last (at s.dimensions d))) = let f_in = names.1 in omega (arith, long, f_in) in
      let there : at (set (set s.dimensions d (without_last (at s.dimensions d))) f (with_axis (at s.dimensions f) (last_axis (at s.dimensions d)))) f
      ≡ with_axis (at s.dimensions f) (last_axis (at s.dimensions d)) =
      get_or-set_same (set s.dimensions d (without_last (at s.dimensions d))) f (with_axis (at s.dimensions f) (last_axis (at s.dimensions d))) (unsplit 0) within in
      let long_then = length-set (set s.dimensions d (without_last (at s.dimensions d))) f (with_axis (at s.dimensions f) (last_axis (at s.dimensions d))) in
      let axes : AreAxesOf (length s.grid.extents) (with_axis (at s.dimensions f) (last_axis (at s.dimensions d))).axes =
      rw there at (axes_then (set (set s.dimensions d (without_last (at s.dimensions d))) f (with_axis (at s.dimensions f) (last_axis (at s.dimensions d)))) f made (omega (arith, long_then, within))) in
      rw made (exchanges s.grid.extents s.dimensions d f (get_or s.grid.extents (last_axis (at s.dimensions d)) 0) (without_last (at s.dimensions d))
      (with_axis (at s.dimensions f) (last_axis (at s.dimensions d))) names.0 names.1 (differ d f apart)
      (cut_by_last s.grid.extents (at s.dimensions d) state.sharding.grid (axes_at d names.0) even)
      (cut_by s.grid.extents (at s.dimensions f) (last_axis (at s.dimensions d)) state.sharding.grid axes even_then))

  -- the axis that goes away is there
  pub split_1 : (d : ℕ) → m ≡ M1 d → is_split (at s.dimensions d) ≡ true
  unfolding may
  split_1 d e =
      let even : is_even s.grid.extents (at s.dimensions d) ≡ true = allowed_as (M1 d) e in
      (even_is s.grid.extents (at s.dimensions d) even).split

  pub split_3 : (d f : ℕ) → m ≡ M3 d f → is_split (at s.dimensions d) ≡ true
  unfolding may
  split_3 d f e =
      let ok : (not (d == f) && (is_even s.grid.extents (at s.dimensions d) && may_append s.grid.extents s.dimensions f (last_axis (at s.dimensions d)))) ≡ true = allowed_as (M3 d f) e in
      let rest = and_right (not (d == f)) (is_even s.grid.extents (at s.dimensions d) && may_append s.grid.extents s.dimensions f (last_axis (at s.dimensions d))) ok in
      let even = and_left (is_even s.grid.extents (at s.dimensions d)) (may_append s.grid.extents s.dimensions f (last_axis (at s.dimensions d))) rest in
      (even_is s.grid.extents (at s.dimensions d) even).split

  pub step_4 : (d : ℕ) → m ≡ M4 d → IsLarger s.grid.extents s.dimensions next.dimensions
  unfolding after
  step_4 d e =
      let within : d < length s.dimensions = named_as (M4 d) e in
      let made : next.dimensions ≡ set s.dimensions d (unsplit (at s.dimensions d).extent) = made_as (M4 d) e in
      rw made (grows s.grid.extents s.dimensions d (unsplit (at s.dimensions d).extent) (inside_whole s.grid.extents (at s.dimensions d)
      (λ device here. all_at (IsPlaced s.grid.extents device) s.dimensions d (placed s device state.sharding here) within)))

  pub step_5 : (d : ℕ) → m ≡ M5 d → cost_between s.grid.extents s.dimensions next.dimensions ≡ 1
  unfolding may after
  step_5 d e =
      let within : d < length s.dimensions = named_as (M5 d) e in
      let ok : (not (is_split (at s.dimensions d)) && (is_uneven s.grid.extents (at step.to.dimensions d) && are_unused s.dimensions (at step.to.dimensions d).axes)) ≡ true = allowed_as (M5 d) e in
      let none : is_split (at s.dimensions d) ≡ false =
      not-true (is_split (at s.dimensions d)) (and_left (not (is_split (at s.dimensions d))) (is_uneven s.grid.extents (at step.to.dimensions d) && are_unused s.dimensions (at step.to.dimensions d).axes) ok) in
      let made : next.dimensions ≡ set s.dimensions d (at step.to.dimensions d) = made_as (M5 d) e in
      let there : at next.dimensions d ≡ at step.to.dimensions d = ap (λ (ds : List Dimension). at ds d) made ∙ get_or-set_same s.dimensions d (at step.to.dimensions d) (unsplit 0) within in
      let extents : (at next.dimensions d).extent ≡ (at s.dimensions d).extent =
      extent_at next.dimensions d ∙ ap (λ (ns : List ℕ). get_or ns d 0) step.whole ∙ sym (extent_at s.dimensions d) in
      let whole : at s.dimensions d ≡ unsplit (at s.dimensions d).extent =
      (all_at (IsDimension s.grid.extents) s.dimensions d state.sharding.dimensions within).unsplit (none_split (at s.dimensions d).axes none) in
      let begun : at s.dimensions d ≡ unsplit (at step.to.dimensions d).extent =
      whole ∙ ap unsplit (sym extents ∙ ap (λ (x : Dimension). x.extent) there) in
      let long = length-set s.dimensions d (at step.to.dimensions d) in
      let within_then : d < length next.dimensions = rw made (omega (arith, long, within)) in
      let same_grid : next.grid.extents ≡ s.grid.extents = ap (λ (g : GridValue). g.extents) step.grid in
      let is_placed : (device : ℕ) → device < cell_count s.grid.extents → IsPlaced s.grid.extents device (at step.to.dimensions d) =
      λ device here. subst (λ (x : Dimension). IsPlaced s.grid.extents device x) there
      (subst (λ g. IsPlaced g device (at next.dimensions d)) same_grid
      (all_at (IsPlaced next.grid.extents device) next.dimensions d (placed next device then.sharding (subst (λ g. device < cell_count g) (sym same_grid) here)) within_then)) in
      let inside : IsInside s.grid.extents (at s.dimensions d) (at step.to.dimensions d) =
      subst (λ (x : Dimension). IsInside s.grid.extents x (at step.to.dimensions d)) (sym begun) (inside_whole s.grid.extents (at step.to.dimensions d) is_placed) in
      rw made (costs_one s.grid.extents s.dimensions (set s.dimensions d (at step.to.dimensions d)) (set_inside s.grid.extents s.dimensions d (at step.to.dimensions d) inside))
