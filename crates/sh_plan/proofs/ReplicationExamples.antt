-- How many moves lead from replication to a target, by computation.
use Rattle.std.proofs.Common.{◌≡◌, [], ◌∷◌, refl}
use Rattle.sh_grid.specs.Grid.{group_size_of, on_axes}
use Rattle.sh_sharding.specs.Sharding.{ShardingValue, is_even, is_uneven, parts_of, unsplit}
use Rattle.sh_plan.specs.Replication.{splits_of, splits_to}

-- 16x5x7 on a grid of 2x2x2: the first dimension by two axes, and by one the second, which has 5
abbrev target : ShardingValue
target = record {
  grid = record { name = []; extents = 2 ∷ 2 ∷ 2 ∷ [] };
  dimensions = record (unsplit 16) { axes = 2 ∷ 0 ∷ [] } ∷ record (unsplit 5) { axes = 1 ∷ [] } ∷ unsplit 7 ∷ [];
}

three_moves : splits_to target ≡ 3
unfolding splits_of is_even is_uneven parts_of group_size_of on_axes
three_moves = refl

-- the second by two axes: still one move
abbrev unevenly : ShardingValue
unevenly = record target { dimensions = unsplit 16 ∷ record (unsplit 5) { axes = 1 ∷ 2 ∷ [] } ∷ unsplit 7 ∷ [] }

one_move : splits_to unevenly ≡ 1
unfolding splits_of is_even is_uneven parts_of group_size_of on_axes
one_move = refl
