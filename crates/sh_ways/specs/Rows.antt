-- Numbered states with their edges, and what their numbers say.
use Rattle.std.specs.Prelude.{◌≡◌, ℕ, ◌+◌, ◌<◌, ◌≤◌, List, [], Vec, Some, All, Contains, length, map, option_map, slice_get, slice_index, unwrap_or}
use Rattle.std.specs.List.{AllZip}
use Rattle.std.specs.Global.{Global}
use Rattle.sh_ways.specs.declared.search.Edge.{Edge}
use Rattle.sh_ways.specs.Graph.{Graph, HasWay, IsDist, ThePlan}

-- in place of a number of a state to which no way was found: the greatest of 64 bits
abbrev pub no_number : ℕ
no_number = 18446744073709551615

-- the edges of a row
abbrev pub edges_at : {M : Type 0} → List (Vec (Edge M) Global) → ℕ → List (Edge M)
edges_at rows i = unwrap_or (option_map (λ row. row.items) (slice_get rows i)) []

-- numbered states with their edges as a graph
abbrev pub graph_of : {M : Type 0} → List (Vec (Edge M) Global) → Graph ℕ (Edge M)
graph_of rows = record { moves = edges_at rows; cost = λ _ e. e.cost; to = λ _ e. e.to }

-- each edge leads to a row
abbrev pub InRange : {M : Type 0} → List (Vec (Edge M) Global) → Type 0
InRange rows = All (λ row. All (λ e. e.to < length rows) row.items) rows

-- from each state some way leads to the goal, at a cost that is a number
abbrev pub AllReach : {M : Type 0} → List (Vec (Edge M) Global) → ℕ → Type 0
AllReach rows goal =
    (i : ℕ) → i < length rows → (n : ℕ) × (n < no_number) × HasWay (graph_of rows) i goal n

-- each number is the cost of a way
abbrev pub AreWays : {M : Type 0} → List (Vec (Edge M) Global) → ℕ → List ℕ → Type 0
AreWays rows goal d =
    (i : ℕ) → i < length d → slice_index d i < no_number →
    HasWay (graph_of rows) i goal (slice_index d i)

-- a number isn't above the edge's cost and the number where the edge leads
abbrev pub IsBelow : {M : Type 0} → List ℕ → ℕ → Edge M → Type 0
IsBelow d own e = own ≤ e.cost + slice_index d e.to

-- a number is the edge's cost and the number where it leads, for some edge
abbrev pub IsByEdge : {M : Type 0} → List ℕ → List (Edge M) → ℕ → Type 0
IsByEdge {M} d row n = (e : Edge M) × Contains row e × (n ≡ e.cost + slice_index d e.to)

-- each number is the distance
abbrev pub AreDists : {M : Type 0} → List (Vec (Edge M) Global) → ℕ → List ℕ → Type 0
AreDists rows goal d = (i : ℕ) → i < length rows → IsDist (graph_of rows) i goal (slice_index d i)

-- no edge undercuts a number
abbrev pub AllBelow : {M : Type 0} → List (Vec (Edge M) Global) → List ℕ → Type 0
AllBelow rows d = (i : ℕ) → i < length rows → All (IsBelow d (slice_index d i)) (edges_at rows i)

-- each edge costs something
abbrev pub AreCosts : {M : Type 0} → List (Vec (Edge M) Global) → Type 0
AreCosts {M} rows = (i : ℕ) (e : Edge M) → Contains (edges_at rows i) e → 0 < e.cost

-- each state has a number
abbrev pub AreSmall : List ℕ → Type 0
AreSmall d = (i : ℕ) → i < length d → slice_index d i < no_number

-- the edge's cost and the number where it leads are the own number
abbrev pub IsTightEdge : {M : Type 0} → List ℕ → ℕ → Edge M → Type 0
IsTightEdge d own e = own ≡ e.cost + slice_index d e.to

-- ---- rows of a graph whose states are numbered

-- an edge is that of a move at a state: it costs as much, and leads to the number of the state where
-- the move leads
pub record IsEdgeOf {S M : Type 0} (g : Graph S M) (keys : List S) (s : S) (e : Edge M) (m : M) : Type 0 where
  pub by : e.by ≡ m
  pub cost : e.cost ≡ g.cost s m
  pub to : slice_get keys e.to ≡ Some (g.to s m)

-- a row for each state, with an edge for each of its moves, in their order
pub record IsNumbering {S M : Type 0} (g : Graph S M) (keys : List S)
    (rows : List (Vec (Edge M) Global)) : Type 0 where
  pub same : length rows ≡ length keys
  pub fits : (i : ℕ) (s : S) → slice_get keys i ≡ Some s →
      AllZip (IsEdgeOf g keys s) (edges_at rows i) (g.moves s)

-- each state has one number
abbrev pub AreOnce : {S : Type 0} → List S → Type 0
AreOnce {S} keys =
    (i j : ℕ) (s : S) → slice_get keys i ≡ Some s → slice_get keys j ≡ Some s → i ≡ j

-- each move of the numbered states costs something
abbrev pub AllCost : {S M : Type 0} → Graph S M → List S → Type 0
AllCost {S} {M} g keys = (s : S) (m : M) → Contains keys s → Contains (g.moves s) m → 0 < g.cost s m

-- from each of the numbered states some way leads to the target, at a cost that is a number
abbrev pub AllReachState : {S M : Type 0} → Graph S M → List S → S → Type 0
AllReachState {S} g keys t =
    (s : S) → Contains keys s → (n : ℕ) × (n < no_number) × HasWay g s t n

-- what holds of numbered states: a search by their numbers is in order, and finds what is of the states
pub record HoldsOfStates {S M : Type 0} (g : Graph S M) (keys : List S)
    (rows : List (Vec (Edge M) Global)) (goal : ℕ) (t : S) : Type 0 where
  pub range : InRange rows
  pub reach : AllReachState g keys t → AllReach rows goal
  pub costs : AllCost g keys → AreCosts rows
  pub dists : (d : List ℕ) → AreDists rows goal d →
      (i : ℕ) (s : S) → slice_get keys i ≡ Some s → IsDist g s t (slice_index d i)
  pub plan : (d : List ℕ) (es : List (Edge M)) (i : ℕ) (s : S) → AreDists rows goal d →
      slice_get keys i ≡ Some s → ThePlan (graph_of rows) i es goal →
      ThePlan g s (map (λ e. e.by) es) t

-- it does wherever the rows are those of the states, no state is there twice, and the goal is the target's
abbrev pub DoNumbersTell : {S M : Type 0} → Graph S M → Type 0
DoNumbersTell {S} {M} g =
    (keys : List S) (rows : List (Vec (Edge M) Global)) (goal : ℕ) (t : S) →
    IsNumbering g keys rows → AreOnce keys → slice_get keys goal ≡ Some t →
    HoldsOfStates g keys rows goal t
