-- From replication a least list of moves only splits. A target that needs so many splits is reached
-- by as many moves at cost 1, so a least list has no more moves; and since each adds one split at
-- most, it has no fewer, and all of them split.
use Rattle.std.proofs.Common.{◌≡◌, ◌∙◌, ℕ, ◌<◌, ◌≤◌, List, [], ◌∷◌, ◌++◌, length, map, ap, sym, refl, arith}
use Rattle.std.specs.List.{AllByRecursion}
use Rattle.std.proofs.lemmas.List.Elements.{All-from_recursion}
use Rattle.sh_base.specs.Shape.{cell_count}
use Rattle.sh_grid.specs.Grid.{AreAxesOf}
use Rattle.sh_sharding.specs.declared.shardings.Dimension.{Dimension}
use Rattle.sh_sharding.specs.Made.{IsState, plain, without_halos}
use Rattle.sh_sharding.specs.Sharding.{HasNoHalos, IsDimension, ShardingValue, axes_of, unsplit}
use Rattle.sh_sharding.proofs.MadeLaws.{made_plain}
use Rattle.sh_sharding.proofs.PartLaws.{IsPlaced, axes_of-each, placed}
use Rattle.sh_ways.specs.Graph.{HasWay, total}
use Rattle.sh_ways.proofs.Least.{dist_unique, plan_dist, plan_leads}
use Rattle.sh_plan.specs.declared.moves.Move.{Move}
use Rattle.sh_plan.specs.declared.plans.Plan.{Plan}
use Rattle.sh_plan.specs.Costs.{cost_between, reshards}
use Rattle.sh_plan.specs.Moves.{after}
use Rattle.sh_plan.specs.Plans.{IsLeast, IsPair, IsThePlan, reshards_to, state_of}
use Rattle.sh_plan.specs.Replication.{IsReplicated, IsSplitMove, OnlySplitsReplicated, splits_to}
use Rattle.sh_plan.proofs.Gathers.{extents_of, whole_of}
use Rattle.sh_plan.proofs.ReplicationCounts.{each_splits, few_added, none_in_whole, splits_in}
use Rattle.sh_plan.proofs.ReplicationWays.{IsTarget, split_all}

each_costs : (g : List ℕ) (ts from : List Dimension) (ms : List Move) → length ms ≤ total (reshards g ts) from ms
unfolding reshards cost_between
each_costs g ts from [] = omega arith
each_costs g ts from (m ∷ ms) = let rest = each_costs g ts (after ts from m) ms in omega (arith, rest)

-- ---- the states at the ends

both_empty : (xs ys : List ℕ) → xs ++ ys ≡ [] → (xs ≡ []) × (ys ≡ [])
both_empty [] ys none = (refl, none)
both_empty (x ∷ xs) ys none = absurd (cc)

unsplits : (g : List ℕ) (ds : List Dimension) → AllByRecursion (IsDimension g) ds → axes_of ds ≡ [] → map plain ds ≡ map unsplit (extents_of ds)
unsplits g [] all none = refl
unsplits g (d ∷ ds) all none =
    let parts = both_empty d.axes (axes_of ds) none in
    let first : plain d ≡ unsplit d.extent = ap plain (all.0.unsplit parts.0) in
    rw (first, unsplits g ds all.1 parts.1) refl

whole_plain : (ds : List Dimension) → whole_of (map plain ds) ≡ map unsplit (extents_of ds)
whole_plain [] = refl
whole_plain (d ∷ ds) = ap (λ (es : List Dimension). unsplit d.extent ∷ es) (whole_plain ds)

begins_whole : (from to : ShardingValue) → IsPair from to → IsReplicated from → state_of from ≡ whole_of (state_of to)
begins_whole from to pair none =
    unsplits from.grid.extents from.dimensions pair.source.dimensions none ∙ ap (λ (ns : List ℕ). map unsplit ns) pair.whole ∙ sym (whole_plain to.dimensions)

are_targets : (g : List ℕ) (ds : List Dimension) → AllByRecursion (IsDimension g) ds → HasNoHalos ds → AllByRecursion (λ d. AreAxesOf (length g) d.axes) ds →
    ((device : ℕ) → device < cell_count g → AllByRecursion (IsPlaced g device) ds) → AllByRecursion (IsTarget g) ds
are_targets g [] admitted halos axes places = tt
are_targets g (d ∷ ds) admitted halos axes places = (
  record {
    low = halos.0.0;
    high = halos.0.1;
    axes = axes.0;
    whole = admitted.0.unsplit;
    placed = λ device here. (places device here).0;
  },
  are_targets g ds admitted.1 halos.1 axes.1 (λ device here. (places device here).1),
)

targets : (s : ShardingValue) → IsState s → AllByRecursion (IsTarget s.grid.extents) s.dimensions
targets s state =
    are_targets s.grid.extents s.dimensions state.sharding.dimensions state.plain (axes_of-each (length s.grid.extents) s.dimensions state.sharding.axes)
    (λ device here. placed s device state.sharding here)

-- ---- least lists of moves

way_to : (from to : ShardingValue) → IsPair from to → IsReplicated from → HasWay (reshards_to to) (state_of from) (state_of to) (splits_to to)
way_to from to pair none =
    let target : IsState (without_halos to) = made_plain to pair.target in
    rw (begins_whole from to pair none)
    (split_all to.grid.extents [] (state_of to) target.sharding.grid (targets (without_halos to) target) target.sharding.axes)

pub least_splits : (from to : ShardingValue) (p : Plan) → IsLeast from to p → OnlySplitsReplicated from to p
least_splits from to p least pair none =
    let way = way_to from to pair none in
    let paid = way.sum in
    let most : p.cost ≤ total (reshards_to to) (state_of from) way.way = least.dist.least way.way way.leads in
    let sum = least.sum in
    let costs = each_costs to.grid.extents (state_of to) (state_of from) p.moves in
    let start : splits_in to.grid.extents (state_of from) ≡ 0 =
    ap (splits_in to.grid.extents) (begins_whole from to pair none) ∙ none_in_whole to.grid.extents (state_of to) in
    let added = few_added to.grid.extents (state_of to) (state_of from) (state_of to) p.moves least.leads in
    let count : length p.moves ≡ splits_to to = omega (arith, paid, most, sum, costs, start, added) in
    let splits = each_splits to.grid.extents (state_of to) (state_of from) (state_of to) p.moves least.leads (omega (arith, start, count)) in
    record {
      moves = All-from_recursion IsSplitMove p.moves splits;
      cost = omega (arith, paid, most, sum, costs, count);
      count = count;
    }

is_least : (from to : ShardingValue) (p : Plan) → IsThePlan from to p → IsLeast from to p
is_least from to p plan = record {
  leads = plan_leads (reshards_to to) (state_of from) p.moves (state_of to) plan.moves;
  sum = dist_unique (reshards_to to) (state_of from) (state_of to) (total (reshards_to to) (state_of from) p.moves) p.cost
      (plan_dist (reshards_to to) (state_of from) p.moves (state_of to) plan.moves) plan.dist;
  dist = plan.dist;
}

pub plan_splits : (from to : ShardingValue) (p : Plan) → IsThePlan from to p → OnlySplitsReplicated from to p
plan_splits from to p plan = least_splits from to p (is_least from to p plan)
