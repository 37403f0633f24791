use Rattle.std.proofs.Common.{◌≡◌, ℕ, ◌+◌, ◌<◌, ◌≤◌, ◌≢◌, List, [], ◌∷◌, ◌++◌, take, drop, length, get_or, All, arith, refl, sym, ap, ◌∙◌, add-one, append_assoc, take-append-drop}
use Rattle.std.specs.Prelude.{Vec, slice_index, IfNone, IfSome}
use Rattle.std.specs.Prelude.{Option, Some, None}
use Rattle.std.specs.Option.{IsSome}
use Rattle.std.specs.Global.{Global}
use Rattle.std.specs.List.{Contains}
use Rattle.std.proofs.Math.Seq.{drop-cons}
use Rattle.std.proofs.lemmas.List.{get_or-take, length-take-le}
use Rattle.std.proofs.lemmas.List.Elements.{All-contains, Contains-append_left, Contains-get_or}
use Rattle.sh_ways.specs.declared.search.Edge.{Edge}
use Rattle.sh_ways.specs.Graph.{HasWay, IsFirst, IsTight, Leads, ThePlan, total}
use Rattle.sh_ways.specs.Rows.{AreCosts, AreDists, InRange, IsTightEdge, edges_at, graph_of}
use Rattle.sh_ways.proofs.Passes.{in_range}
use Rattle.sh_ways.proofs.Least.{dist_unique, of_first}

-- the first element with a property, by its place
pub first_at : {X : Type 0} (P : X → Type 0) (xs : List X) (i : ℕ) (d : X) → i < length xs →
    ((k : ℕ) (e : X) → k < i → P (get_or xs k e) → ⊥) → P (get_or xs i d) → IsFirst P xs (get_or xs i d)
first_at P xs i d within none this =
    let long : length (take i xs) ≡ i = length-take-le i xs (omega arith) in
    record {
      before = take i xs;
      after = drop (i + 1) xs;
      parts = sym (ap (λ rest. take i xs ++ rest) (sym (drop-cons xs i d within ∙ ap (λ n. get_or xs i d ∷ drop n xs) (sym (add-one i)))) ∙ take-append-drop i xs);
      none = λ k e k_in p. let k_i : k < i = omega arith in none k e k_i (rw (get_or-take i xs k e k_i) at p);
      this = this;
    }

-- where the numbers are distances, some edge is tight at each state but the goal
pub tight_of : {M : Type 0} (rows : List (Vec (Edge M) Global)) (goal : ℕ) (d : List ℕ) (at : ℕ) (ms : List (Edge M)) → InRange rows → AreDists rows goal d →
    at < length rows → at ≢ goal → Leads (graph_of rows) at ms goal → total (graph_of rows) at ms ≡ slice_index d at →
    (e : Edge M) × Contains (edges_at rows at) e × IsTightEdge d (slice_index d at) e
tight_of rows goal d at [] range dists within ne leads sum = absurd (ne leads)
tight_of rows goal d at (m ∷ ms) range dists within ne leads sum =
    let to_in : m.to < length rows = in_range rows at m range leads.0 in
    let rest : slice_index d m.to ≤ total (graph_of rows) m.to ms = (dists m.to to_in).least ms leads.1 in
    let way : HasWay (graph_of rows) m.to goal (slice_index d m.to) = (dists m.to to_in).has in
    let by : slice_index d at ≤ m.cost + total (graph_of rows) m.to way.way = (dists at within).least (m ∷ way.way) (leads.0, way.leads) in
    let same : slice_index d at ≡ m.cost + slice_index d m.to = omega (arith, way.sum) in
    (m, leads.0, same)

pub some_tight : {M : Type 0} (rows : List (Vec (Edge M) Global)) (goal : ℕ) (d : List ℕ) (at : ℕ) → InRange rows → AreDists rows goal d →
    at < length rows → at ≢ goal →
    (e : Edge M) × Contains (edges_at rows at) e × IsTightEdge d (slice_index d at) e
some_tight rows goal d at range dists within ne =
    let way = (dists at within).has in
    tight_of rows goal d at way.way range dists within ne way.leads way.sum

pub is_tight : {M : Type 0} (rows : List (Vec (Edge M) Global)) (goal : ℕ) (d : List ℕ) (at : ℕ) (e : Edge M) → InRange rows → AreDists rows goal d →
    at < length rows → Contains (edges_at rows at) e → IsTightEdge d (slice_index d at) e → IsTight (graph_of rows) goal at e
is_tight rows goal d at e range dists within has same = record {
  rest = slice_index d e.to;
  after = dists e.to (in_range rows at e range has);
  sum = rw (← same) (dists at within);
}

pub from_tight : {M : Type 0} (rows : List (Vec (Edge M) Global)) (goal : ℕ) (d : List ℕ) (at : ℕ) (e : Edge M) → InRange rows → AreDists rows goal d →
    at < length rows → Contains (edges_at rows at) e → IsTight (graph_of rows) goal at e → IsTightEdge d (slice_index d at) e
from_tight rows goal d at e range dists within has tight =
    let whole : slice_index d at ≡ e.cost + tight.rest = dist_unique (graph_of rows) at goal (slice_index d at) (e.cost + tight.rest) (dists at within) tight.sum in
    let part : slice_index d e.to ≡ tight.rest = dist_unique (graph_of rows) e.to goal (slice_index d e.to) tight.rest (dists e.to (in_range rows at e range has)) tight.after in
    omega arith

-- the first edge that is tight by the numbers is the first on a least way
pub first_tight_edge : {M : Type 0} (rows : List (Vec (Edge M) Global)) (goal : ℕ) (d : List ℕ) (at : ℕ) (e : Edge M) → InRange rows → AreDists rows goal d →
    at < length rows → IsFirst (IsTightEdge d (slice_index d at)) (edges_at rows at) e → IsFirst (IsTight (graph_of rows) goal at) (edges_at rows at) e
first_tight_edge rows goal d at e range dists within f =
    let row = edges_at rows at in
    record {
      before = f.before;
      after = f.after;
      parts = f.parts;
      none = λ k x k_in tight.
          let has : Contains (edges_at rows at) (get_or f.before k x) =
          rw f.parts (Contains-append_left f.before (e ∷ f.after) (get_or f.before k x) (Contains-get_or f.before k x k_in)) in
          f.none k x k_in (from_tight rows goal d at (get_or f.before k x) range dists within has tight);
      this = is_tight rows goal d at e range dists within (of_first (IsTightEdge d (slice_index d at)) (edges_at rows at) e f) f.this;
    }

pub tight_is_some : {M : Type 0} (found : Option (Edge M)) (row : List (Edge M)) (d : List ℕ) (own : ℕ) → IfNone found (All (λ e. IsTightEdge d own e → ⊥) row) →
    (e : Edge M) → Contains row e → IsTightEdge d own e → IsSome found
tight_is_some None row d own none e has tight = absurd (All-contains (λ e'. IsTightEdge d own e' → ⊥) row e none has tight)
tight_is_some (Some x) row d own none e has tight = refl

-- what holds after a step along the first tight edge
pub record Taken {M : Type 0} (rows : List (Vec (Edge M) Global)) (goal : ℕ) (d : List ℕ) (at : ℕ) (e : Edge M) : Type 0 where
  pub within : e.to < length rows
  pub nearer : get_or d e.to 0 < get_or d at 0
  pub plan : (rest : List (Edge M)) → ThePlan (graph_of rows) e.to rest goal → ThePlan (graph_of rows) at (e ∷ rest) goal

pub taken : {M : Type 0} (rows : List (Vec (Edge M) Global)) (goal : ℕ) (d : List ℕ) (at : ℕ) (e : Edge M) (row : List (Edge M)) (found : Option (Edge M)) →
    InRange rows → AreCosts rows → AreDists rows goal d → at < length rows → at ≢ goal → edges_at rows at ≡ row →
    found ≡ Some e → IfSome found (IsFirst (IsTightEdge d (slice_index d at)) row) → Taken rows goal d at e
taken rows goal d at e row found range costs dists within ne row_is found_is has_first =
    let in_row : IsFirst (IsTightEdge d (slice_index d at)) row e = rw found_is at has_first in
    let first : IsFirst (IsTightEdge d (slice_index d at)) (edges_at rows at) e = rw row_is in_row in
    let has : Contains (edges_at rows at) e = of_first (IsTightEdge d (slice_index d at)) (edges_at rows at) e first in
    let tight : slice_index d at ≡ e.cost + slice_index d e.to = first.this in
    let cost : 0 < e.cost = costs at e has in
    record {
      within = in_range rows at e range has;
      nearer = omega arith;
      plan = λ rest plan. (ne, first_tight_edge rows goal d at e range dists within first, plan);
    }

pub pushed_way : {M : Type 0} (rows : List (Vec (Edge M) Global)) (from goal : ℕ) (way now : List (Edge M)) (e : Edge M) (rest : List (Edge M)) → now ≡ way ++ e ∷ [] →
    ThePlan (graph_of rows) from (way ++ e ∷ rest) goal → ThePlan (graph_of rows) from (now ++ rest) goal
pushed_way rows from goal way now e rest same plan = rw same (rw append_assoc plan)

-- and back: the first on a least way is the first that is tight by the numbers
pub first_numbered : {M : Type 0} (rows : List (Vec (Edge M) Global)) (goal : ℕ) (d : List ℕ) (at : ℕ) (e : Edge M) → InRange rows → AreDists rows goal d →
    at < length rows → IsFirst (IsTight (graph_of rows) goal at) (edges_at rows at) e → IsFirst (IsTightEdge d (slice_index d at)) (edges_at rows at) e
first_numbered rows goal d at e range dists within f =
    record {
      before = f.before;
      after = f.after;
      parts = f.parts;
      none = λ k x k_in tight.
          let has : Contains (edges_at rows at) (get_or f.before k x) =
          rw f.parts (Contains-append_left f.before (e ∷ f.after) (get_or f.before k x) (Contains-get_or f.before k x k_in)) in
          f.none k x k_in (is_tight rows goal d at (get_or f.before k x) range dists within has tight);
      this = from_tight rows goal d at e range dists within (of_first (IsTight (graph_of rows) goal at) (edges_at rows at) e f) f.this;
    }
