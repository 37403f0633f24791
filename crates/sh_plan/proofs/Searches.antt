-- A search over explored states is in order, and what it finds is the plan with its table.
use Rattle.std.proofs.Common.{◌≡◌, ◌∙◌, Bool, ℕ, ◌+◌, ◌<◌, ◌≤◌, List, [], ◌∷◌, length, map, All, Some, ap, sym, refl, arith}
use Rattle.std.specs.Prelude.{slice_get, slice_index}
use Rattle.std.specs.List.{Contains}
use Rattle.std.proofs.lemmas.List.{length-map}
use Rattle.std.proofs.lemmas.Option.{get_or_from_slice_get, slice_get-get_or, slice_get_within}
use Rattle.sh_sharding.specs.declared.shardings.Dimension.{Dimension}
use Rattle.sh_sharding.specs.Sharding.{ShardingValue}
use Rattle.sh_ways.specs.declared.search.Edge.{Edge}
use Rattle.sh_ways.specs.Graph.{IsDist, ThePlan, total}
use Rattle.sh_ways.specs.Rows.{AllReachState, AreDists, HoldsOfStates, IsEdgeOf, edges_at, graph_of}
use Rattle.sh_sharding.specs.Made.{without_halos}
use Rattle.sh_sharding.proofs.MadeLaws.{made_plain}
use Rattle.sh_ways.proofs.Least.{dist_unique, plan_dist, plan_leads}
use Rattle.sh_ways.proofs.Numbering.{holds}
use Rattle.sh_ways.proofs.Transfer.{zip_back}
use Rattle.sh_plan.specs.declared.exploring.Explored.{Explored}
use Rattle.sh_plan.specs.declared.moves.Move.{Move}
use Rattle.sh_plan.specs.declared.plans.Distance.{Distance}
use Rattle.sh_plan.specs.declared.planning.Found.{Found}
use Rattle.sh_plan.specs.Costs.{cost_between, reshards}
use Rattle.sh_plan.specs.Checks.{IsEntryFor}
use Rattle.sh_plan.specs.Found.{IsFound, IsUncut}
use Rattle.sh_plan.specs.Plans.{HasFlags, IsCertificate, IsListed, IsPair, reshards_to, state_of}
use Rattle.sh_plan.specs.States.{IsExplored, IsStateTo, keys_of, towards}
use Rattle.sh_plan.specs.Tables.{AreOn, HasNumber, IsTable}
use Rattle.sh_plan.proofs.Numbers.{all_get, at_image, image}
use Rattle.sh_plan.proofs.Reaches.{plain_whole, state_reaches}

abbrev keys : Explored → List (List Dimension)
keys all = keys_of all.states.items

-- ---- what a search needs

pub positive : (to : ShardingValue) (ds : List Dimension) (m : Move) → 0 < (towards to).cost ds m
unfolding reshards cost_between
positive to ds m = omega arith

pub all_reach : (from to : ShardingValue) (all : Explored) → IsStateTo to to → IsExplored from to all → AllReachState (towards to) (keys all) to.dimensions
all_reach from to all target x ds has =
    let at : slice_get (keys all) has.0 ≡ Some ds = slice_get-get_or (keys all) has.0 ds has.1 ∙ ap Some has.2 in
    let s = image (λ (y : ShardingValue). y.dimensions) all.states.items has.0 ds at in
    let is : IsStateTo to s.this = all_get (IsStateTo to) all.states.items has.0 s.this x.each s.at in
    let r = state_reaches s.this to is.state target.state is.grid is.whole in
    (r.0, r.1, rw s.value at r.2)

pub known : (from to : ShardingValue) (all : Explored) → IsExplored from to all → HoldsOfStates (towards to) (keys all) all.rows.items all.goal to.dimensions
known from to all x = holds (towards to) (keys all) all.rows.items all.goal to.dimensions x.numbering x.once x.target

-- the rows are in order for a search
pub record IsSearchable (all : Explored) : Type 0 where
  pub goal : all.goal < length all.rows.items
  pub start : all.start < length all.rows.items
  pub same : length all.states.items ≡ length all.rows.items

pub searchable : (from to : ShardingValue) (all : Explored) → IsExplored from to all → IsSearchable all
searchable from to all x =
    let long : length (keys all) ≡ length all.states.items = length-map all.states.items (λ (s : ShardingValue). s.dimensions) in
    let at_goal = slice_get_within (keys all) all.goal to.dimensions x.target in
    let at_start = slice_get_within (keys all) all.start from.dimensions x.source in
    record {
      goal = omega (arith, at_goal, x.numbering.same);
      start = omega (arith, at_start, x.numbering.same);
      same = omega (arith, long, x.numbering.same);
    }

-- ---- what it finds

-- a listed state has its number by the search
record IsPlaced (all : Explored) (d : List ℕ) (ds : List Dimension) (n : ℕ) : Type 0 where
  pub place : ℕ
  pub state : slice_get (keys all) place ≡ Some ds
  pub number : n ≡ slice_index d place

listed_at : (g : List ℕ) (all : Explored) (d : List ℕ) (table : List Distance) → IsTable g all.states.items d table →
    (ds : List Dimension) (n : ℕ) → IsListed table ds n → IsPlaced all d ds n
listed_at g all d table t ds n l =
    let has : HasNumber all.states.items d l.entry.sharding l.entry.cost = all_get (λ (e : Distance). HasNumber all.states.items d e.sharding e.cost) table l.place l.entry t.only l.found in
    record {
      place = has.place;
      state = at_key has.place l.entry.sharding has.state ∙ ap Some l.state;
      number = sym l.number ∙ sym (get_or_from_slice_get d has.place l.entry.cost 0 has.number);
    }
  where
    at_key : (i : ℕ) (s : ShardingValue) → slice_get all.states.items i ≡ Some s → slice_get (keys all) i ≡ Some s.dimensions
    at_key i s at = at_image (λ (y : ShardingValue). y.dimensions) all.states.items i s at

at_listed : (g : List ℕ) (all : Explored) (d : List ℕ) (table : List Distance) → IsTable g all.states.items d table → length d ≡ length all.states.items →
    (i : ℕ) (ds : List Dimension) → slice_get (keys all) i ≡ Some ds → IsListed table ds (slice_index d i)
at_listed g all d table t same i ds at =
    let s = image (λ (y : ShardingValue). y.dimensions) all.states.items i ds at in
    let within = slice_get_within all.states.items i s.this s.at in
    let number : slice_get d i ≡ Some (slice_index d i) = slice_get-get_or d i 0 (omega (arith, within, same)) in
    let l : IsListed table s.this.dimensions (slice_index d i) = t.all s.this (slice_index d i) (record { place = i; state = s.at; number = number }) in
    rw s.value at l

-- the number of a state where a move leads
step_at : (from to : ShardingValue) (all : Explored) → IsExplored from to all → (i : ℕ) (ds : List Dimension) (m : Move) → slice_get (keys all) i ≡ Some ds →
    Contains ((towards to).moves ds) m → (j : ℕ) × (slice_get (keys all) j ≡ Some ((towards to).to ds m))
step_at from to all x i ds m at has =
    let e = zip_back (IsEdgeOf (towards to) (keys all) ds) (edges_at all.rows.items i) ((towards to).moves ds) m (x.numbering.fits i ds at) has in
    (e.0.to, e.2.to)

uncut : (from to : ShardingValue) (all : Explored) (d : List ℕ) (table : List Distance) → IsExplored from to all → AreDists all.rows.items all.goal d →
    length d ≡ length all.states.items → IsTable to.grid.extents all.states.items d table → IsUncut (towards to) table
uncut from to all d table x dists same t = record {
  closed = λ ds m has move.
      let here = listed_at to.grid.extents all d table t ds has.number has.listed in
      let next = step_at from to all x here.place ds m here.state move in
      record { number = slice_index d next.0; listed = at_listed to.grid.extents all d table t same next.0 ((towards to).to ds m) next.1 };
  below = λ ds n m next l move l_next.
      let here = listed_at to.grid.extents all d table t ds n l in
      let there = listed_at to.grid.extents all d table t ((towards to).to ds m) next l_next in
      let own : IsDist (towards to) ds to.dimensions (slice_index d here.place) = (known from to all x).dists d dists here.place ds here.state in
      let after : IsDist (towards to) ((towards to).to ds m) to.dimensions (slice_index d there.place) =
      (known from to all x).dists d dists there.place ((towards to).to ds m) there.state in
      let most : slice_index d here.place ≤ (towards to).cost ds m + total (towards to) ((towards to).to ds m) after.has.way =
      own.least (m ∷ after.has.way) (move, after.has.leads) in
      omega (arith, here.number, there.number, after.has.sum, most);
}

pub on_grid : (from to : ShardingValue) (all : Explored) → IsExplored from to all → AreOn to.grid all.states.items
on_grid from to all x = record { target = to; grid = refl; each = x.each; apart = x.apart }

pub found : (from to : ShardingValue) (all : Explored) (d : List ℕ) (es : List (Edge Move)) (f : Found) → IsExplored from to all →
    AreDists all.rows.items all.goal d → length d ≡ length all.rows.items → ThePlan (graph_of all.rows.items) all.start es all.goal →
    f.moves ≡ map (λ e. e.by) es → f.cost ≡ slice_index d all.start → IsTable to.grid.extents all.states.items d f.table → IsFound from to f
found from to all d es f x dists long plan moves cost t =
    let same : length d ≡ length all.states.items = let s = searchable from to all x in omega (arith, long, s.same) in
    let here : IsDist (towards to) from.dimensions to.dimensions (slice_index d all.start) = (known from to all x).dists d dists all.start from.dimensions x.source in
    let there : IsDist (towards to) to.dimensions to.dimensions (slice_index d all.goal) = (known from to all x).dists d dists all.goal to.dimensions x.target in
    let zero : slice_index d all.goal ≡ 0 = let most : slice_index d all.goal ≤ 0 = there.least [] refl in omega (arith, most) in
    record {
      plan = rw moves ((known from to all x).plan d es all.start from.dimensions dists x.source plan);
      dist = rw cost here;
      each = states;
      halo_free = λ k e within. (states k e within).state.plain;
      rising = t.rising;
      source = rw cost (at_listed to.grid.extents all d f.table t same all.start from.dimensions x.source);
      target = rw (← zero) (at_listed to.grid.extents all d f.table t same all.goal to.dimensions x.target);
      uncut = uncut from to all d f.table x dists same t;
    }
  where
    states : All (λ e. IsStateTo to e.sharding) f.table
    states k e within =
        let has = t.only k e within in
        all_get (IsStateTo to) all.states.items has.place _ x.each has.state

-- ---- halos left out

pub plain_pair : (from to : ShardingValue) → IsPair from to → IsStateTo (without_halos to) (without_halos from)
plain_pair from to p = record {
  state = made_plain from p.source;
  grid = p.grid;
  whole = plain_whole from.dimensions ∙ p.whole ∙ sym (plain_whole to.dimensions);
}

pub plain_target : (from to : ShardingValue) → IsPair from to → IsStateTo (without_halos to) (without_halos to)
plain_target from to p = record { state = made_plain to p.target; grid = refl; whole = refl }

-- what is found is a plan with a certificate
pub certificate : (from to : ShardingValue) (f : Found) (drop add : Bool) → IsFound (without_halos from) (without_halos to) f →
    HasFlags from to (record { drop_halos = drop; moves = f.moves; add_halos = add; cost = f.cost; table = f.table }) →
    IsCertificate from to (record { drop_halos = drop; moves = f.moves; add_halos = add; cost = f.cost; table = f.table })
certificate from to f drop add x flags =
    let sum = plan_dist (reshards_to to) (state_of from) f.moves (state_of to) x.plan in
    record {
      halo_free = x.halo_free;
      rising = x.rising;
      source = record { number = f.cost; listed = x.source };
      target = record { number = 0; listed = x.target };
      closed = x.uncut.closed;
      zero_at = x.target;
      below = x.uncut.below;
      leads = plan_leads (reshards_to to) (state_of from) f.moves (state_of to) x.plan;
      sum = dist_unique (reshards_to to) (state_of from) (state_of to) (total (reshards_to to) (state_of from) f.moves) f.cost sum x.dist;
      distance = x.source;
      flags = flags;
    }

-- its entries have the target's shape and stand on its grid
pub entries_for : (to : ShardingValue) (table : List Distance) → All (λ e. IsStateTo (without_halos to) e.sharding) table → All (IsEntryFor to) table
entries_for to table all k e within = let is = all k e within in record { grid = is.grid; whole = is.whole ∙ plain_whole to.dimensions }
