-- States by number: what a search among the shardings without halos of one shape on one grid keeps.
use Rattle.std.specs.Prelude.{◌≡◌, ℕ, ◌≤◌, nat_eq, List, [], ◌∷◌, ◌++◌, Some, All, length, map, slice_get}
use Rattle.std.specs.Cmp.Lexicographic.{pointwise}
use Rattle.std.specs.List.{AllZip, IsDistinct, flat_map}
use Rattle.sh_sharding.specs.declared.shardings.Dimension.{Dimension}
use Rattle.sh_sharding.specs.declared.shardings.Mark.{Mark}
use Rattle.sh_sharding.specs.declared.shardings.Mark.TheVariants.{Balanced, Offsets}
use Rattle.sh_sharding.specs.Made.{IsState}
use Rattle.sh_sharding.specs.Sharding.{ShardingValue, whole_of}
use Rattle.sh_ways.specs.Graph.{Graph}
use Rattle.sh_ways.specs.Rows.{AreOnce, IsEdgeOf, IsNumbering}
use Rattle.sh_ways.specs.declared.search.Edge.{Edge}
use Rattle.sh_plan.specs.declared.moves.Move.{Move}
use Rattle.sh_plan.specs.declared.exploring.Explored.{Explored}
use Rattle.sh_plan.specs.declared.exploring.States.{States}
use Rattle.sh_plan.specs.Costs.{reshards}

-- a state on the way to a target: an admitted sharding without halos of its shape on its grid
pub record IsStateTo (to s : ShardingValue) : Type 0 where
  pub state : IsState s
  pub grid : s.grid ≡ to.grid
  pub whole : whole_of s ≡ whole_of to

-- the states and moves towards a target without halos
abbrev pub towards : ShardingValue → Graph (List Dimension) Move
towards to = reshards to.grid.extents to.dimensions

-- ---- what tells states apart

-- the written offsets; none where the normal form has none
abbrev pub written_offsets : Mark → List ℕ
written_offsets Balanced = []
written_offsets (Offsets offsets) = offsets

-- numbers, and before them how many they are
abbrev pub counted : List ℕ → List ℕ
counted ns = length ns ∷ ns

-- what tells a dimension apart, and a state
abbrev pub code_in : Dimension → List ℕ
code_in d = counted d.axes ++ counted (written_offsets d.mark)

abbrev pub code_of : List Dimension → List ℕ
code_of ds = flat_map code_in ds

-- ---- numbers

-- the dimensions of the states, by number
abbrev pub keys_of : List ShardingValue → List (List Dimension)
keys_of states = map (λ s. s.dimensions) states

-- states keep their numbers
pub record KeepsNumbers (old new : List (List Dimension)) : Type 0 where
  pub keeps : (i : ℕ) (ds : List Dimension) → slice_get old i ≡ Some ds → slice_get new i ≡ Some ds
  pub longer : length old ≤ length new

abbrev pub keys_in : States → List (List Dimension)
keys_in states = keys_of states.known.items

abbrev pub KeepNumbers : States → States → Type 0
KeepNumbers old new = KeepsNumbers (keys_in old) (keys_in new)

-- what tells the states apart stands at their numbers, and none is there twice
pub record AreStates (to : ShardingValue) (states : States) : Type 0 where
  pub each : All (IsStateTo to) states.known.items
  pub codes : states.codes.keys ≡ map code_of (keys_in states)
  pub once : IsDistinct (pointwise nat_eq) states.codes.keys

-- no two states are the same by what tells them apart
abbrev pub AreApart : List ShardingValue → Type 0
AreApart states = IsDistinct (pointwise nat_eq) (map code_of (keys_of states))

-- the state with this number
abbrev pub IsNumber : List (List Dimension) → List Dimension → ℕ → Type 0
IsNumber keys ds n = slice_get keys n ≡ Some ds

-- an edge for each move of a state, in their order
abbrev pub AreEdges : ShardingValue → List (List Dimension) → List Dimension → List (Edge Move)
    → List Move → Type 0
AreEdges to keys ds row moves = AllZip (IsEdgeOf (towards to) keys ds) row moves

-- All states that moves reach from some of them: each has one number, and a row with an edge for
-- each of its moves.
pub record IsExplored (from to : ShardingValue) (all : Explored) : Type 0 where
  pub each : All (IsStateTo to) all.states.items
  pub source : IsNumber (keys_of all.states.items) from.dimensions all.start
  pub target : IsNumber (keys_of all.states.items) to.dimensions all.goal
  pub once : AreOnce (keys_of all.states.items)
  pub apart : AreApart all.states.items
  pub numbering : IsNumbering (towards to) (keys_of all.states.items) all.rows.items

-- the edges of the state with a number
abbrev pub IsRowOf : ShardingValue → List (List Dimension) → List (List Dimension) → ℕ
    → List (Edge Move) → Type 0
IsRowOf to old new at row =
    (ds : List Dimension) → IsNumber old ds at → AreEdges to new ds row ((towards to).moves ds)
