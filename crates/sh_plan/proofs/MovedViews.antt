-- The views after a move describe the state where it leads.
use Rattle.std.proofs.Common.{zero, suc, ◌≡◌, ◌≢◌, ◌∙◌, ℕ, ◌<◌, ◌==◌, true, false, not, ◌&&◌, ◌||◌, List, [], ◌∷◌, length, map, set, take, ap, ap₂, subst, refl, arith}
use Rattle.std.specs.List.{AllByRecursion}
use Rattle.std.proofs.lemmas.Bool.{not-true}
use Rattle.std.proofs.lemmas.List.{get_or-set_same, length-set}
use Rattle.std.proofs.lemmas.List.Elements.{All-from_recursion, recursion_from_All}
use Rattle.sh_grid.specs.Grid.{AreAxesOf}
use Rattle.sh_sharding.specs.declared.shardings.Dimension.{Dimension}
use Rattle.sh_sharding.specs.declared.shardings.Mark.TheVariants.{Balanced}
use Rattle.sh_sharding.specs.declared.views.DimensionView.{DimensionView}
use Rattle.sh_sharding.specs.Made.{IsState, with_dimension}
use Rattle.sh_sharding.specs.Sharding.{IsDimension, IsMarked, ShardingValue, axes_of, is_even, unsplit, whole_of}
use Rattle.sh_sharding.specs.Views.{AreOwnViews, IsOrdered, IsOwnView, IsUnsplitView, IsViewOf, described}
use Rattle.sh_sharding.proofs.Cases.{and_left, and_right}
use Rattle.sh_sharding.proofs.MadeLaws.{states_stay}
use Rattle.sh_sharding.proofs.OwnViewLaws.{own_view}
use Rattle.sh_sharding.proofs.PartLaws.{axes_of-each}
use Rattle.sh_plan.specs.declared.moves.Move.{Move}
use Rattle.sh_plan.specs.declared.moves.Move.TheVariants.{M1, M2, M3, M4, M5}
use Rattle.sh_plan.specs.Moves.{IsNamedAt, after, are_unused, at, is_listed, last_axis, may, may_append, may_be, with_axis, without_last}
use Rattle.sh_plan.proofs.MoveSteps.{last_within}
use Rattle.sh_plan.proofs.MovedSteps.{free_then, is_appended, is_dropped}
use Rattle.sh_plan.proofs.SplitSteps.{is_split_as}
use Rattle.sh_plan.proofs.States.{all_at, even_is}
use Rattle.sh_plan.proofs.Unused.{or_left, same}

-- ---- one view in place of another

take_set : {X : Type 0} (n : ℕ) (xs : List X) (i : ℕ) (x : X) → i < n → take n (set xs i x) ≡ set (take n xs) i x
take_set zero xs i x h = absurd (omega arith)
take_set (suc n) [] i x h = refl
take_set (suc n) (y ∷ xs) zero x h = refl
take_set (suc n) (y ∷ xs) (suc i) x h = ap (λ l. y ∷ l) (take_set n xs i x (omega arith))

set_all : {X : Type 0} (P : X → Type 0) (xs : List X) (i : ℕ) (x : X) → AllByRecursion P xs → P x → AllByRecursion P (set xs i x)
set_all P [] i x all p = tt
set_all P (y ∷ xs) zero x all p = (p, all.1)
set_all P (y ∷ xs) (suc i) x all p = (all.0, set_all P xs i x all.1 p)

set_map : {X Y : Type 0} (f : X → Y) (xs : List X) (i : ℕ) (x : X) → map f (set xs i x) ≡ set (map f xs) i (f x)
set_map f [] i x = refl
set_map f (y ∷ xs) zero x = refl
set_map f (y ∷ xs) (suc i) x = ap (λ l. f y ∷ l) (set_map f xs i x)

pub other_view : (g : List ℕ) (views now : List DimensionView) (ds : List Dimension) (n i : ℕ) (v : DimensionView) (x : Dimension) → i < n →
    AreOwnViews g (take n views) ds → now ≡ set views i v → IsOwnView g v x → AreOwnViews g (take n now) (set ds i x)
other_view g views now ds n i v x within own now_is is =
    let here : take n now ≡ set (take n views) i v = ap (λ (l : List DimensionView). take n l) now_is ∙ take_set n views i v within in
    rw here (record {
      ordered = All-from_recursion (IsOrdered g) (set (take n views) i v) (set_all (IsOrdered g) (take n views) i v (recursion_from_All (IsOrdered g) (take n views) own.ordered) is.ordered);
      value = set_map (described g) (take n views) i v ∙ ap₂ (λ l y. set l i y) own.value is.value;
    })

-- ---- the new dimension is in order

marked_at : (s : ShardingValue) (i : ℕ) → IsState s → i < length s.dimensions → IsMarked s.grid.extents (at s.dimensions i)
marked_at s i state within =
    let d : IsDimension s.grid.extents (at s.dimensions i) = all_at (IsDimension s.grid.extents) s.dimensions i state.sharding.dimensions within in
    record {
      axes = all_at (λ x. AreAxesOf (length s.grid.extents) x.axes) s.dimensions i (axes_of-each (length s.grid.extents) s.dimensions state.sharding.axes) within;
      divided = d.divided;
      normal = d.normal;
    }

marked_new : (s : ShardingValue) (i : ℕ) (x : Dimension) → i < length s.dimensions → IsState (with_dimension s i x) → IsMarked s.grid.extents x
marked_new s i x within state =
    let there : at (set s.dimensions i x) i ≡ x = get_or-set_same s.dimensions i x (unsplit 0) within in
    subst (IsMarked s.grid.extents) there (marked_at (with_dimension s i x) i state (let long = length-set s.dimensions i x in omega (arith, long, within)))

pub own_new : (s : ShardingValue) (i : ℕ) (v : DimensionView) (x : Dimension) → i < length s.dimensions → IsState (with_dimension s i x) → IsViewOf v x → IsOwnView s.grid.extents v x
own_new s i v x within state is = own_view s.grid.extents v x state.sharding.grid (marked_new s i x within state) is

-- the view of an unsplit dimension
pub unsplit_is : (v : DimensionView) (extent : ℕ) → IsUnsplitView v extent → IsViewOf v (unsplit extent)
unsplit_is v extent is = record { extent = is.whole; axes = is.axes; mark = rw is.mark refl; low = is.low; high = is.high }

-- ---- states after moves

-- what lets the last axis of a dimension go to another
pub record IsExchange (s : ShardingValue) (d e : ℕ) : Type 0 where
  pub even : is_even s.grid.extents (at s.dimensions d) ≡ true
  pub dropped : IsState (with_dimension s d (without_last (at s.dimensions d)))
  pub other : at (set s.dimensions d (without_last (at s.dimensions d))) e ≡ at s.dimensions e
  pub balanced : (at s.dimensions e).mark ≡ Balanced
  pub state : IsState (with_dimension (with_dimension s d (without_last (at s.dimensions d))) e (with_axis (at s.dimensions e) (last_axis (at s.dimensions d))))

pub other_at : (ds : List Dimension) (d e : ℕ) (x : Dimension) → d ≢ e → at (set ds d x) e ≡ at ds e
other_at [] d e x h = refl
other_at (y ∷ ds) zero zero x h = absurd (h refl)
other_at (y ∷ ds) zero (suc e) x h = refl
other_at (y ∷ ds) (suc d) zero x h = refl
other_at (y ∷ ds) (suc d) (suc e) x h = other_at ds d e x (λ q. h (ap suc q))

pub differ : (d e : ℕ) → (d == e) ≡ false → d ≢ e
differ d e h q =
    let own : (d == e) ≡ true = rw q (same e) in
    cc

pub exchange : (s : ShardingValue) (d e : ℕ) → IsState s → d < length s.dimensions → e < length s.dimensions → may s.grid.extents [] s.dimensions (M3 d e) ≡ true → IsExchange s d e
unfolding may
exchange s d e state d_in e_in h =
    let g = s.grid.extents in
    let apart : (d == e) ≡ false = not-true (d == e) (and_left (not (d == e)) (is_even s.grid.extents (at s.dimensions d) && may_append s.grid.extents s.dimensions e (last_axis (at s.dimensions d))) h) in
    let rest = and_right (not (d == e)) (is_even s.grid.extents (at s.dimensions d) && may_append s.grid.extents s.dimensions e (last_axis (at s.dimensions d))) h in
    let even : is_even s.grid.extents (at s.dimensions d) ≡ true = and_left (is_even s.grid.extents (at s.dimensions d)) (may_append s.grid.extents s.dimensions e (last_axis (at s.dimensions d))) rest in
    let append : may_append s.grid.extents s.dimensions e (last_axis (at s.dimensions d)) ≡ true =
    and_right (is_even s.grid.extents (at s.dimensions d)) (may_append s.grid.extents s.dimensions e (last_axis (at s.dimensions d))) rest in
    let split = (even_is s.grid.extents (at s.dimensions d) even).split in
    let axes = state.sharding.axes in
    let own : AreAxesOf (length s.grid.extents) (at s.dimensions d).axes = (marked_at s d state d_in).axes in
    let dropped = is_dropped s d state d_in even in
    let other : at (set s.dimensions d (without_last (at s.dimensions d))) e ≡ at s.dimensions e = other_at s.dimensions d e (without_last (at s.dimensions d)) (differ d e apart) in
    let free = free_then (length s.grid.extents) s.dimensions d axes own d_in split in
    let append_then : may_append s.grid.extents (set s.dimensions d (without_last (at s.dimensions d))) e (last_axis (at s.dimensions d)) ≡ true = rw other append in
    let long = length-set s.dimensions d (without_last (at s.dimensions d)) in
    let a = is_appended (with_dimension s d (without_last (at s.dimensions d))) e (last_axis (at s.dimensions d)) dropped (omega (arith, long, e_in))
    (last_within s.grid.extents (at s.dimensions d) own split) free append_then in
    record {
      even = even;
      dropped = dropped;
      other = other;
      balanced = rw other at a.balanced;
      state = rw other at a.state;
    }

-- the state where the dimensions are so
pub exchanged : (s : ShardingValue) (d e : ℕ) (x y : Dimension) → IsState s → d < length s.dimensions → e < length s.dimensions → may s.grid.extents [] s.dimensions (M3 d e) ≡ true →
    x ≡ without_last (at s.dimensions d) → y ≡ with_axis (at s.dimensions e) (last_axis (at s.dimensions d)) → IsState (with_dimension (with_dimension s d x) e y)
exchanged s d e x y state d_in e_in h x_is y_is = rw (x_is, y_is) (exchange s d e state d_in e_in h).state

-- what lets an axis be appended
pub appended_by : (s : ShardingValue) (ts : List Dimension) (d a : ℕ) → IsState s → d < length s.dimensions → a < length s.grid.extents → may s.grid.extents ts s.dimensions (M2 d a) ≡ true →
    ((at s.dimensions d).mark ≡ Balanced) × IsState (with_dimension s d (with_axis (at s.dimensions d) a))
unfolding may
appended_by s ts d a state d_in a_in h =
    let unused : are_unused s.dimensions (a ∷ []) ≡ true = and_left (are_unused s.dimensions (a ∷ [])) (may_append s.grid.extents s.dimensions d a) h in
    let append : may_append s.grid.extents s.dimensions d a ≡ true = and_right (are_unused s.dimensions (a ∷ [])) (may_append s.grid.extents s.dimensions d a) h in
    let free : is_listed a (axes_of s.dimensions) ≡ false = or_left (is_listed a (axes_of s.dimensions)) false (not-true (is_listed a (axes_of s.dimensions) || false) unused) in
    let r = is_appended s d a state d_in a_in free append in
    (r.balanced, r.state)

-- ---- move by move

module _ (s to : ShardingValue) (m : Move) (state : IsState s) (named : IsNamedAt s m) (allowed : may_be s to m ≡ true) where
  pub even_1 : (d : ℕ) → m ≡ M1 d → is_even s.grid.extents (at s.dimensions d) ≡ true
  unfolding may
  even_1 d e = rw e at allowed

  pub views_1 : (d : ℕ) → m ≡ M1 d → (views now : List DimensionView) (v : DimensionView) → AreOwnViews s.grid.extents (take (length s.dimensions) views) s.dimensions →
      now ≡ set views d v → IsViewOf v (without_last (at s.dimensions d)) → AreOwnViews s.grid.extents (take (length s.dimensions) now) (after to.dimensions s.dimensions m)
  unfolding after
  views_1 d e views now v own now_is is =
      let within : d < length s.dimensions = rw e at named in
      rw e (other_view s.grid.extents views now s.dimensions (length s.dimensions) d v (without_last (at s.dimensions d)) within own now_is
      (own_new s d v (without_last (at s.dimensions d)) within (is_dropped s d state within (even_1 d e)) is))

  pub appended_2 : (d a : ℕ) → m ≡ M2 d a → ((at s.dimensions d).mark ≡ Balanced) × IsState (with_dimension s d (with_axis (at s.dimensions d) a))
  appended_2 d a e =
      let names : (d < length s.dimensions) × (a < length s.grid.extents) = rw e at named in
      let ok : may s.grid.extents to.dimensions s.dimensions (M2 d a) ≡ true = rw e at allowed in
      appended_by s to.dimensions d a state names.0 names.1 ok

  pub views_2 : (d a : ℕ) → m ≡ M2 d a → (views now : List DimensionView) (v : DimensionView) → AreOwnViews s.grid.extents (take (length s.dimensions) views) s.dimensions →
      now ≡ set views d v → IsViewOf v (with_axis (at s.dimensions d) a) → AreOwnViews s.grid.extents (take (length s.dimensions) now) (after to.dimensions s.dimensions m)
  unfolding after
  views_2 d a e views now v own now_is is =
      let names : (d < length s.dimensions) × (a < length s.grid.extents) = rw e at named in
      rw e (other_view s.grid.extents views now s.dimensions (length s.dimensions) d v (with_axis (at s.dimensions d) a) names.0 own now_is
      (own_new s d v (with_axis (at s.dimensions d) a) names.0 (appended_2 d a e).1 is))

  pub exchange_3 : (d f : ℕ) → m ≡ M3 d f → IsExchange s d f
  unfolding may
  exchange_3 d f e =
      let names : (d < length s.dimensions) × (f < length s.dimensions) = rw e at named in
      let ok : may s.grid.extents [] s.dimensions (M3 d f) ≡ true = rw e at allowed in
      exchange s d f state names.0 names.1 ok

  pub views_3 : (d f : ℕ) → m ≡ M3 d f → (views mid now : List DimensionView) (v w : DimensionView) → AreOwnViews s.grid.extents (take (length s.dimensions) views) s.dimensions →
      mid ≡ set views d v → now ≡ set mid f w → IsViewOf v (without_last (at s.dimensions d)) → IsViewOf w (with_axis (at s.dimensions f) (last_axis (at s.dimensions d))) →
      AreOwnViews s.grid.extents (take (length s.dimensions) now) (after to.dimensions s.dimensions m)
  unfolding after
  views_3 d f e views mid now v w own mid_is now_is is_v is_w =
      let names : (d < length s.dimensions) × (f < length s.dimensions) = rw e at named in
      let x = exchange_3 d f e in
      let first = other_view s.grid.extents views mid s.dimensions (length s.dimensions) d v (without_last (at s.dimensions d)) names.0 own mid_is
      (own_new s d v (without_last (at s.dimensions d)) names.0 x.dropped is_v) in
      let long = length-set s.dimensions d (without_last (at s.dimensions d)) in
      rw e (other_view s.grid.extents mid now (set s.dimensions d (without_last (at s.dimensions d))) (length s.dimensions) f w (with_axis (at s.dimensions f) (last_axis (at s.dimensions d)))
      names.1 first now_is
      (own_new (with_dimension s d (without_last (at s.dimensions d))) f w (with_axis (at s.dimensions f) (last_axis (at s.dimensions d))) (let within = names.1 in omega (arith, long, within)) x.state is_w))

  pub views_4 : (d : ℕ) → m ≡ M4 d → (views now : List DimensionView) (v : DimensionView) → AreOwnViews s.grid.extents (take (length s.dimensions) views) s.dimensions →
      now ≡ set views d v → IsUnsplitView v (at s.dimensions d).extent → AreOwnViews s.grid.extents (take (length s.dimensions) now) (after to.dimensions s.dimensions m)
  unfolding after
  views_4 d e views now v own now_is is =
      let within : d < length s.dimensions = rw e at named in
      rw e (other_view s.grid.extents views now s.dimensions (length s.dimensions) d v (unsplit (at s.dimensions d).extent) within own now_is
      (own_new s d v (unsplit (at s.dimensions d).extent) within ((states_stay s state).gathered d within) (unsplit_is v (at s.dimensions d).extent is)))

  pub views_5 : (d : ℕ) → m ≡ M5 d → IsState to → s.grid ≡ to.grid → whole_of s ≡ whole_of to → (views now : List DimensionView) (v : DimensionView) →
      AreOwnViews s.grid.extents (take (length s.dimensions) views) s.dimensions →
      now ≡ set views d v → IsViewOf v (at to.dimensions d) → AreOwnViews s.grid.extents (take (length s.dimensions) now) (after to.dimensions s.dimensions m)
  unfolding after
  views_5 d e target grid whole views now v own now_is is =
      let within : d < length s.dimensions = rw e at named in
      let ok : may_be s to (M5 d) ≡ true = rw e at allowed in
      rw e (other_view s.grid.extents views now s.dimensions (length s.dimensions) d v (at to.dimensions d) within own now_is
      (own_new s d v (at to.dimensions d) within (is_split_as s to d state target grid whole within ok) is))
