-- Moves between shardings without halos: where each may be made, and what it makes of them.
use Rattle.std.specs.Prelude.{◌≡◌, ℕ, ◌-◌, ◌<◌, ◌==◌, Bool, true, not, ◌&&◌, ◌||◌, List, [], ◌∷◌, ◌++◌, length, map, take, set, filter, get_or}
use Rattle.std.specs.List.{flat_map, list_any, range_with_len}
use Rattle.sh_sharding.specs.declared.shardings.Dimension.{Dimension}
use Rattle.sh_sharding.specs.Sharding.{ShardingValue, axes_of, is_even, is_split, is_uneven, unsplit, whole_of}
use Rattle.sh_plan.specs.declared.moves.Move.{Move}
use Rattle.sh_plan.specs.declared.moves.Move.TheVariants.{M1, M2, M3, M4, M5}

-- A state is the dimensions of a sharding without halos. Here g are the extents of the grid's axes,
-- ts the dimensions of the target and ds those of the state.

-- the dimension with this number
abbrev pub at : List Dimension → ℕ → Dimension
at ds d = get_or ds d (unsplit 0)

-- ---- one dimension

-- the axis that splits it innermost
abbrev pub last_axis : Dimension → ℕ
last_axis d = get_or d.axes (length d.axes - 1) 0

-- without that axis
abbrev pub without_last : Dimension → Dimension
without_last d = record d { axes = take (length d.axes - 1) d.axes }

-- with one more axis, the innermost
abbrev pub with_axis : Dimension → ℕ → Dimension
with_axis d a = record d { axes = d.axes ++ a ∷ [] }

abbrev pub is_even_or_unsplit : List ℕ → Dimension → Bool
is_even_or_unsplit g d = is_even g d || not (is_split d)

-- ---- a move

-- whether an axis is listed
abbrev pub is_listed : ℕ → List ℕ → Bool
is_listed a axes = list_any (λ b. b == a) axes

-- whether none of the axes splits a dimension
abbrev pub are_unused : List Dimension → List ℕ → Bool
are_unused ds axes = not (list_any (λ a. is_listed a (axes_of ds)) axes)

-- what a move makes of the dimensions
unfoldable pub after : List Dimension → List Dimension → Move → List Dimension
after ts ds (M1 d) = set ds d (without_last (at ds d))
after ts ds (M2 d a) = set ds d (with_axis (at ds d) a)
after ts ds (M3 d e) =
    set (set ds d (without_last (at ds d))) e (with_axis (at ds e) (last_axis (at ds d)))
after ts ds (M4 d) = set ds d (unsplit (at ds d).extent)
after ts ds (M5 d) = set ds d (at ts d)

-- whether axis a may be appended to dimension d
abbrev pub may_append : List ℕ → List Dimension → ℕ → ℕ → Bool
may_append g ds d a = is_even_or_unsplit g (at ds d) && is_even g (with_axis (at ds d) a)

-- whether a move may be made
unfoldable pub may : List ℕ → List Dimension → List Dimension → Move → Bool
may g ts ds (M1 d) = is_even g (at ds d)
may g ts ds (M2 d a) = are_unused ds (a ∷ []) && may_append g ds d a
may g ts ds (M3 d e) =
    not (d == e) && (is_even g (at ds d) && may_append g ds e (last_axis (at ds d)))
may g ts ds (M4 d) = is_uneven g (at ds d)
may g ts ds (M5 d) =
    not (is_split (at ds d)) && (is_uneven g (at ts d) && are_unused ds (at ts d).axes)

-- a move names dimensions and axes that there are
abbrev pub IsNamed : ℕ → ℕ → Move → Type 0
IsNamed axes rank (M1 d) = d < rank
IsNamed axes rank (M2 d a) = (d < rank) × (a < axes)
IsNamed axes rank (M3 d e) = (d < rank) × (e < rank)
IsNamed axes rank (M4 d) = d < rank
IsNamed axes rank (M5 d) = d < rank

-- the moves of each variant on so many axes and dimensions, by the first number, then by the second
abbrev pub each_m1 : ℕ → List Move
each_m1 rank = map M1 (range_with_len 0 rank)

abbrev pub each_m2 : ℕ → ℕ → List Move
each_m2 axes rank = flat_map (λ d. map (M2 d) (range_with_len 0 axes)) (range_with_len 0 rank)

abbrev pub each_m3 : ℕ → List Move
each_m3 rank = flat_map (λ d. map (M3 d) (range_with_len 0 rank)) (range_with_len 0 rank)

abbrev pub each_m4 : ℕ → List Move
each_m4 rank = map M4 (range_with_len 0 rank)

abbrev pub each_m5 : ℕ → List Move
each_m5 rank = map M5 (range_with_len 0 rank)

-- all of them, by variant
unfoldable pub candidates : ℕ → ℕ → List Move
candidates axes rank =
    each_m1 rank ++ (each_m2 axes rank ++ (each_m3 rank ++ (each_m4 rank ++ each_m5 rank)))

-- the moves that may be made at a state, in that order
unfoldable pub moves_at : List ℕ → List Dimension → List Dimension → List Move
moves_at g ts ds = filter (may g ts ds) (candidates (length g) (length ds))

-- ---- the same of shardings: the state, and the target on its grid

abbrev pub may_be : ShardingValue → ShardingValue → Move → Bool
may_be s to m = may s.grid.extents to.dimensions s.dimensions m

abbrev pub moves_from : ShardingValue → ShardingValue → List Move
moves_from s to = moves_at s.grid.extents to.dimensions s.dimensions

abbrev pub IsNamedAt : ShardingValue → Move → Type 0
IsNamedAt s m = IsNamed (length s.grid.extents) (length s.dimensions) m

abbrev pub moved : ShardingValue → ShardingValue → Move → ShardingValue
moved s to m = record s { dimensions = after to.dimensions s.dimensions m }

-- a move that may be made on the way to some target leads from one state to the other
pub record IsStep (s next : ShardingValue) (m : Move) : Type 0 where
  pub to : ShardingValue
  pub named : IsNamedAt s m
  pub allowed : may_be s to m ≡ true
  pub grid : next.grid ≡ s.grid
  pub whole : whole_of next ≡ whole_of s
  pub made : next.dimensions ≡ after to.dimensions s.dimensions m
