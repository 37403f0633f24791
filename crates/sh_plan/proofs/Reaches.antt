-- From each sharding moves lead to each other one of its shape on its grid.
use Rattle.std.proofs.Common.{◌≡◌, ◌∙◌, ℕ, ◌+◌, ◌*◌, ◌<◌, ◌≤◌, max, List, [], ◌∷◌, length, map, ap, sym, refl, arith}
use Rattle.std.specs.List.{AllByRecursion}
use Rattle.std.proofs.Math.Nat.{mul-le-mul}
use Rattle.sh_base.specs.Shape.{cell_count, max_cells}
use Rattle.sh_grid.specs.Grid.{IsGrid}
use Rattle.sh_base.specs.Limits.{max_devices}
use Rattle.sh_sharding.specs.declared.shardings.Dimension.{Dimension}
use Rattle.sh_sharding.specs.Made.{IsState, plain, without_halos}
use Rattle.sh_sharding.specs.Sharding.{ShardingValue, IsDimension, axes_of, counted_cells, unsplit, whole_of}
use Rattle.sh_sharding.proofs.AxisListLaws.{few_axes}
use Rattle.sh_sharding.proofs.MadeLaws.{made_plain}
use Rattle.sh_sharding.proofs.PartLaws.{IsPlaced, axes_of-each, placed}
use Rattle.sh_ways.specs.Graph.{HasWay}
use Rattle.sh_ways.specs.Rows.{no_number}
use Rattle.sh_ways.proofs.Passes.{joined}
use Rattle.sh_plan.specs.Costs.{reshards}
use Rattle.sh_plan.specs.Plans.{IsPair, Reaches}
use Rattle.sh_plan.proofs.Gathers as gathers
use Rattle.sh_plan.proofs.Gathers.{HasShortWay, extents_of, gather, most}
use Rattle.sh_plan.proofs.States.{AreInState, IsStateDimension}
use Rattle.sh_plan.proofs.Towards.{split_all}

cells_counted : (s : List ℕ) → cell_count s ≤ counted_cells s
cells_counted [] = omega arith
cells_counted (n ∷ s) = mul-le-mul {n₁ = n} {n₂ = max 1 n} (omega arith) (cells_counted s)

-- what admission says of each dimension of a sharding without halos
dimensions_of : (g : List ℕ) (n : ℕ) (ds : List Dimension) → n ≡ cell_count g → AllByRecursion (IsDimension g) ds → AllByRecursion (λ d. (d.low ≡ 0) × (d.high ≡ 0)) ds →
    ((device : ℕ) → device < cell_count g → AllByRecursion (IsPlaced g device) ds) → AreInState g ds
dimensions_of g n [] e admitted halos at = tt
dimensions_of g n (d ∷ ds) e admitted halos at = (first, dimensions_of g n ds e admitted.1 halos.1 (λ device h. (at device h).1))
  where
    first : IsStateDimension g d
    first = record {
      low = halos.0.0;
      high = halos.0.1;
      whole = λ none. ap (λ (x : Dimension). x.mark) (admitted.0.unsplit none);
      sized = λ device h. let fits = (at device h).0.fits in omega (arith, fits);
    }

pub in_state : (s : ShardingValue) → IsState s → AreInState s.grid.extents s.dimensions
in_state s h =
    dimensions_of s.grid.extents (cell_count s.grid.extents) s.dimensions refl h.sharding.dimensions h.plain (λ device within. placed s device h.sharding within)

same_whole : (ds es : List Dimension) → extents_of ds ≡ extents_of es → gathers.whole_of ds ≡ gathers.whole_of es
same_whole ds es e = unsplits ds ∙ ap (λ (ns : List ℕ). map unsplit ns) e ∙ sym (unsplits es)
  where
    unsplits : (xs : List Dimension) → gathers.whole_of xs ≡ map unsplit (extents_of xs)
    unsplits [] = refl
    unsplits (x ∷ xs) = ap (λ (ys : List Dimension). unsplit x.extent ∷ ys) (unsplits xs)

steps_within : (a b steps more m : ℕ) → a ≤ steps * m → b ≤ more * m → steps ≤ 4 → more ≤ 4 → m ≤ 1073741825 → a + b < no_number
steps_within a b steps more m h k few few' small =
    let first : steps * m ≤ 4 * 1073741825 = mul-le-mul few small in
    let second : more * m ≤ 4 * 1073741825 = mul-le-mul few' small in
    omega arith

-- between shardings without halos
pub state_reaches : (from to : ShardingValue) → IsState from → IsState to → from.grid ≡ to.grid → whole_of from ≡ whole_of to →
    (n : ℕ) × (n < no_number) × HasWay (reshards to.grid.extents to.dimensions) from.dimensions to.dimensions n
state_reaches from to f t same whole =
    let g = to.grid.extents in
    let grid : IsGrid to.grid.extents = t.sharding.grid in
    let source : AreInState to.grid.extents from.dimensions = rw (ap (λ (x : _). AreInState x.extents from.dimensions) same) at (in_state from f) in
    let target : AreInState to.grid.extents to.dimensions = in_state to t in
    let small : cell_count (extents_of to.dimensions) ≤ max_cells = let counted = cells_counted (whole_of to) in omega (arith, counted, t.sharding.small) in
    let small_from : cell_count (extents_of from.dimensions) ≤ max_cells = rw whole small in
    let few_from : length (axes_of from.dimensions) ≤ length from.grid.extents = few_axes (length from.grid.extents) (axes_of from.dimensions) f.sharding.axes in
    let few_to : length (axes_of to.dimensions) ≤ length to.grid.extents = few_axes (length to.grid.extents) (axes_of to.dimensions) t.sharding.axes in
    let away : HasShortWay to.grid.extents to.dimensions max_cells (length (axes_of from.dimensions)) from.dimensions (gathers.whole_of from.dimensions) =
    gather to.grid.extents to.dimensions max_cells (length (axes_of from.dimensions)) from.dimensions source small_from (omega arith) in
    let there : HasShortWay to.grid.extents to.dimensions max_cells (length (axes_of to.dimensions)) (gathers.whole_of to.dimensions) to.dimensions =
    split_all to.grid.extents to.dimensions max_cells (length (axes_of to.dimensions)) grid t.sharding.axes
    (axes_of-each (length to.grid.extents) to.dimensions t.sharding.axes) target small (omega arith) in
    let meet : gathers.whole_of from.dimensions ≡ gathers.whole_of to.dimensions = same_whole from.dimensions to.dimensions whole in
    let on : HasWay (reshards to.grid.extents to.dimensions) (gathers.whole_of from.dimensions) to.dimensions there.cost = rw meet there.way in
    let devices : cell_count to.grid.extents * max_cells ≤ max_devices * max_cells = mul-le-mul {m₁ = max_cells} {m₂ = max_cells} grid.small (omega arith) in (
      away.cost + there.cost,
      steps_within away.cost there.cost (length (axes_of from.dimensions)) (length (axes_of to.dimensions)) (most to.grid.extents max_cells) away.within there.within
          (let few = f.sharding.grid.few in omega (arith, few, few_from)) (let few = grid.few in omega (arith, few, few_to)) (omega (arith, devices)),
      joined (reshards to.grid.extents to.dimensions) from.dimensions (gathers.whole_of from.dimensions) to.dimensions away.cost there.cost away.way on,
    )

pub plain_whole : (ds : List Dimension) → map (λ d. d.extent) (map plain ds) ≡ map (λ d. d.extent) ds
plain_whole [] = refl
plain_whole (d ∷ ds) = ap (λ (ns : List ℕ). d.extent ∷ ns) (plain_whole ds)

pub reaches : (from to : ShardingValue) → IsPair from to → Reaches from to
reaches from to p =
    let r = state_reaches (without_halos from) (without_halos to) (made_plain from p.source) (made_plain to p.target) p.grid
    (plain_whole from.dimensions ∙ p.whole ∙ sym (plain_whole to.dimensions)) in
    record { cost = r.0; small = r.1; way = r.2 }
