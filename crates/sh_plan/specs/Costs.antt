-- What a move costs, and plans of least cost.
use Rattle.std.specs.Prelude.{◌≡◌, ℕ, ◌+◌, ◌-◌, ◌*◌, Bool, true, false, not, ◌&&◌, nat_le, nat_lt, List, [], ◌∷◌, length, map, min, max, sum, filter}
use Rattle.std.specs.List.{flat_map, range_with_len}
use Rattle.sh_base.specs.Shape.{cell_count}
use Rattle.sh_sharding.specs.declared.shardings.Dimension.{Dimension}
use Rattle.sh_sharding.specs.Sharding.{ShardingValue, dimension_of, start_in, size_in}
use Rattle.sh_ways.specs.Graph.{Graph}
use Rattle.sh_plan.specs.declared.moves.Move.{Move}
use Rattle.sh_plan.specs.Moves.{after, moves_at}

-- the indices of the whole that lie in a device's part
unfoldable pub part_indices : List ℕ → ℕ → List Dimension → List (List ℕ)
part_indices g device [] = [] ∷ []
part_indices g device (d ∷ ds) =
    flat_map (λ x. map (λ i. x ∷ i) (part_indices g device ds))
    (range_with_len (start_in g device d) (size_in g device d))

-- whether a number is one of so many from a start on
abbrev pub is_from : ℕ → ℕ → ℕ → Bool
is_from start size x = nat_le start x && nat_lt x (start + size)

-- whether an index lies there
unfoldable pub is_in_part : List ℕ → ℕ → List Dimension → List ℕ → Bool
is_in_part g device [] i = true
is_in_part g device (d ∷ ds) [] = false
is_in_part g device (d ∷ ds) (x ∷ i) =
    is_from (start_in g device d) (size_in g device d) x && is_in_part g device ds i

-- how many indices are in a device's part afterwards that weren't in its part before
unfoldable pub received : List ℕ → List Dimension → List Dimension → ℕ → ℕ
received g before after device =
    length (filter (λ i. not (is_in_part g device before i)) (part_indices g device after))

-- What a step from one state to another costs: 1, and what all devices receive.
unfoldable pub cost_between : List ℕ → List Dimension → List Dimension → ℕ
cost_between g before after =
    1 + sum (map (received g before after) (range_with_len 0 (cell_count g)))

-- the same of shardings on one grid
abbrev pub received_from : ShardingValue → ShardingValue → ℕ → ℕ
received_from before after device =
    received before.grid.extents before.dimensions after.dimensions device

abbrev pub cost_from : ShardingValue → ShardingValue → ℕ
cost_from before after = cost_between before.grid.extents before.dimensions after.dimensions

-- the graph of states, on a grid of these extents, for plans to this target
unfoldable pub reshards : List ℕ → List Dimension → Graph (List Dimension) Move
reshards g ts = record {
  moves = moves_at g ts;
  cost = λ ds m. cost_between g ds (after ts ds m);
  to = after ts;
}

-- how many indices lie in a device's part
abbrev pub part_cells : List ℕ → ℕ → List Dimension → ℕ
part_cells g device ds = cell_count (map (size_in g device) ds)

-- how many cells the parts of all devices hold
unfoldable pub held : List ℕ → List Dimension → ℕ
held g ds = sum (map (λ device. part_cells g device ds) (range_with_len 0 (cell_count g)))

abbrev pub held_by : ShardingValue → ℕ
held_by s = held s.grid.extents s.dimensions

-- ---- the same by lengths

-- how many entries along a dimension lie in a device's part before and afterwards
abbrev pub common_length : List ℕ → ℕ → Dimension → Dimension → ℕ
common_length g device d e =
    min (start_in g device d + size_in g device d) (start_in g device e + size_in g device e)
    - max (start_in g device d) (start_in g device e)

-- the same along one dimension of two shardings on one grid
abbrev pub common_along : ShardingValue → ShardingValue → ℕ → ℕ → ℕ
common_along before after dim device =
    common_length before.grid.extents device (dimension_of before dim) (dimension_of after dim)

-- how many indices do
abbrev pub common_cells : List ℕ → ℕ → List Dimension → List Dimension → ℕ
common_cells g device [] [] = 1
common_cells g device [] (e ∷ es) = 0
common_cells g device (d ∷ ds) [] = 0
common_cells g device (d ∷ ds) (e ∷ es) = common_length g device d e * common_cells g device ds es

-- what a device receives: what its part holds afterwards, less what of it was there before
abbrev pub received_by_lengths : List ℕ → List Dimension → List Dimension → ℕ → ℕ
received_by_lengths g before after device =
    part_cells g device after - common_cells g device before after

abbrev pub cost_by_lengths : List ℕ → List Dimension → List Dimension → ℕ
cost_by_lengths g before after =
    1 + sum (map (received_by_lengths g before after) (range_with_len 0 (cell_count g)))

-- Between states of one rank the cost is a sum of such differences.
abbrev pub IsCostByLengths : List ℕ → List Dimension → List Dimension → Type 0
IsCostByLengths g before after =
    length before ≡ length after → cost_between g before after ≡ cost_by_lengths g before after
