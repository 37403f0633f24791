-- What a search over numbered states needs, from the graph whose states are numbered.
use Rattle.std.proofs.Common.{◌≡◌, ℕ, ◌<◌, ◌∙◌, List, [], length, get_or, arith, inl, inr, Some}
use Rattle.std.specs.Prelude.{Vec, slice_get}
use Rattle.std.specs.Global.{Global}
use Rattle.std.specs.List.{Contains}
use Rattle.std.proofs.lemmas.List.{get_or_default}
use Rattle.std.proofs.lemmas.List.Elements.{Contains-get_or}
use Rattle.std.proofs.lemmas.Option.{get_or_from_slice_get, slice_get_cases, slice_get_within}
use Rattle.sh_ways.specs.declared.search.Edge.{Edge}
use Rattle.sh_ways.specs.Graph.{Graph, total}
use Rattle.sh_ways.specs.Rows.{AllCost, AllReach, AllReachState, AreCosts, AreDists, AreOnce, HoldsOfStates, InRange, IsEdgeOf, IsNumbering, edges_at, graph_of}
use Rattle.sh_ways.proofs.Passes.{edges_at-row}
use Rattle.sh_ways.proofs.Transfer.{Back, Known, back, dist_of, plan_keyed, zip_forth}

-- the state and the move of an edge
record IsMade {S M : Type 0} (g : Graph S M) (keys : List S) (i : ℕ) (e : Edge M) : Type 0 where
  pub state : S
  pub at : slice_get keys i ≡ Some state
  pub move : M
  pub has : Contains (g.moves state) move
  pub edge : IsEdgeOf g keys state e move

-- a number has its state
state_at : {S : Type 0} (keys : List S) (i : ℕ) → i < length keys → (s : S) × (slice_get keys i ≡ Some s)
state_at keys i within = elim (slice_get_cases keys i).1 [
  | inl h ↦ (h.0, h.2)
  | inr h ↦ absurd (omega (arith, h.0))
]

row_within : {M : Type 0} (rows : List (Vec (Edge M) Global)) (i : ℕ) (e : Edge M) → Contains (edges_at rows i) e → i < length rows
row_within rows i e has = elim (slice_get_cases rows i).1 [
  | inl h ↦ h.1
  | inr h ↦
      let none : Contains [] e = rw h.1 at has in
      absurd (omega (arith, none.1))
]

made : {S M : Type 0} (g : Graph S M) (keys : List S) (rows : List (Vec (Edge M) Global)) → IsNumbering g keys rows →
    (i : ℕ) (e : Edge M) → Contains (edges_at rows i) e → IsMade g keys i e
made g keys rows x i e has =
    let within : i < length keys = omega (arith, row_within rows i e has, x.same) in
    let s = state_at keys i within in
    let mv = zip_forth (IsEdgeOf g keys s.0) (edges_at rows i) (g.moves s.0) e (x.fits i s.0 s.1) has in
    record { state = s.0; at = s.1; move = mv.0; has = mv.1; edge = mv.2 }

range_of : {S M : Type 0} (g : Graph S M) (keys : List S) (rows : List (Vec (Edge M) Global)) → IsNumbering g keys rows → InRange rows
range_of g keys rows x i row within = λ k e k_in.
    let row_is : edges_at rows i ≡ (get_or rows i row).items = edges_at-row rows i (get_or rows i row) within (get_or_default rows i row (get_or rows i row) within) in
    let has : Contains (edges_at rows i) (get_or (get_or rows i row).items k e) = rw row_is (Contains-get_or (get_or rows i row).items k e k_in) in
    let m = made g keys rows x i (get_or (get_or rows i row).items k e) has in
    let in_keys : (get_or (get_or rows i row).items k e).to < length keys = slice_get_within keys (get_or (get_or rows i row).items k e).to (g.to m.state m.move) m.edge.to in
    omega (arith, x.same)

contains_at : {S : Type 0} (keys : List S) (i : ℕ) (s : S) → slice_get keys i ≡ Some s → Contains keys s
contains_at keys i s at = (i, slice_get_within keys i s at, get_or_from_slice_get keys i s s at)

reach_of : {S M : Type 0} (g : Graph S M) (keys : List S) (rows : List (Vec (Edge M) Global)) (goal : ℕ) (t : S) → IsNumbering g keys rows →
    ((j : ℕ) → slice_get keys j ≡ Some t → j ≡ goal) → AllReachState g keys t → AllReach rows goal
reach_of g keys rows goal t x one reach i within =
    let s = state_at keys i (omega (arith, x.same)) in
    let way = reach s.0 (contains_at keys i s.0 s.1) in
    let b : Back g keys rows i s.0 way.2.way t = back g keys rows x way.2.way i s.0 t s.1 way.2.leads in
    let cost : total (graph_of rows) i b.edges ≡ way.0 = b.same ∙ way.2.sum in
    (way.0, way.1, record { way = b.edges; leads = rw (← one b.end b.at_end) b.leads; sum = cost })

costs_of : {S M : Type 0} (g : Graph S M) (keys : List S) (rows : List (Vec (Edge M) Global)) → IsNumbering g keys rows → AllCost g keys → AreCosts rows
costs_of g keys rows x costs i e has =
    let m = made g keys rows x i e has in
    let cost : 0 < g.cost m.state m.move = costs m.state m.move (contains_at keys i m.state m.at) m.has in
    rw m.edge.cost cost

known : {S M : Type 0} (g : Graph S M) (keys : List S) (rows : List (Vec (Edge M) Global)) (goal : ℕ) (t : S) → IsNumbering g keys rows → AreOnce keys →
    slice_get keys goal ≡ Some t → (d : List ℕ) → AreDists rows goal d → Known g keys rows goal t d
known g keys rows goal t x once at d dists = record {
  numbering = x;
  range = range_of g keys rows x;
  at_goal = at;
  one = λ j at_j. once j goal t at_j at;
  dists = dists;
}

pub holds : {S M : Type 0} (g : Graph S M) (keys : List S) (rows : List (Vec (Edge M) Global)) (goal : ℕ) (t : S) →
    IsNumbering g keys rows → AreOnce keys → slice_get keys goal ≡ Some t → HoldsOfStates g keys rows goal t
holds g keys rows goal t x once at = record {
  range = range_of g keys rows x;
  reach = reach_of g keys rows goal t x (λ j at_j. once j goal t at_j at);
  costs = costs_of g keys rows x;
  dists = λ d dists i s at_i. dist_of g keys rows goal t d (known g keys rows goal t x once at d dists) i s at_i;
  plan = λ d es i s dists at_i plan. plan_keyed g keys rows goal t d (known g keys rows goal t x once at d dists) es i s at_i plan;
}
