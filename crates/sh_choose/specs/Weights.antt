-- By which numbers options are compared.
use Rattle.std.specs.Prelude.{◌≡◌, ℕ, ◌+◌, ◌-◌, ◌<◌, ◌≤◌, Bool, true, false, not, ◌&&◌, ℤ, pos, List, map, length, get_or, nat_eq, Option, Some, None}
use Rattle.std.specs.List.{count_by, range_with_len}
use Rattle.std.specs.Cmp.Lexicographic.{pointwise}
use Rattle.sh_base.specs.Shape.{cell_count}
use Rattle.sh_grid.specs.Grid.{GridValue}
use Rattle.sh_sharding.specs.declared.shardings.Mark.{Mark}
use Rattle.sh_sharding.specs.declared.shardings.Mark.TheVariants.{Balanced, Offsets}
use Rattle.sh_sharding.specs.AxisLists.{natural}
use Rattle.sh_sharding.specs.Normal.{Division, normal_form}
use Rattle.sh_sharding.specs.Sharding.{ShardingValue, largest_to}
use Rattle.sh_iface.specs.declared.options.Split.{Split}
use Rattle.sh_iface.specs.LoopNest.{LoopNest, loop_at, value_at}
use Rattle.sh_iface.specs.Splits.{OptionValue, implied_of, split_at}
use Rattle.sh_choose.specs.declared.chosen.Known.{Known}
use Rattle.sh_choose.specs.declared.chosen.Weight.{Weight}

-- ---- shardings that differ

abbrev pub are_equal_marks : Mark → Mark → Bool
are_equal_marks Balanced Balanced = true
are_equal_marks Balanced (Offsets offsets) = false
are_equal_marks (Offsets offsets) Balanced = false
are_equal_marks (Offsets offsets) (Offsets others) = pointwise nat_eq offsets others

abbrev pub are_equal_divisions : Division → Division → Bool
are_equal_divisions a b =
    pointwise nat_eq a.axes b.axes && (are_equal_marks a.mark b.mark
    && (nat_eq a.low b.low && nat_eq a.high b.high))

-- whether two shardings on one grid are the same: whether their normal forms are equal
unfoldable pub is_same : ShardingValue → ShardingValue → Bool
is_same a b =
    pointwise are_equal_divisions (normal_form a.dimensions) (normal_form b.dimensions)

-- whether a known sharding isn't the same as the one that an option implies
unfoldable pub differs : LoopNest → GridValue → OptionValue → Known → Bool
differs nest g o k = not (is_same k.sharding (implied_of g nest o (value_at nest k.v)))

-- whether it is a user's, or whether it isn't
abbrev pub is_of : Bool → Known → Bool
is_of true k = k.user
is_of false k = not k.user

-- how many of a user's differ, or how many of the others
unfoldable pub differing : LoopNest → GridValue → OptionValue → Bool → List Known → ℕ
differing nest g o user known = count_by (λ k. is_of user k && differs nest g o k) known

-- ---- loop points

-- how long the longest part is, of parts that begin at these starts
unfoldable pub longest_part : List ℤ → ℕ
longest_part starts =
    largest_to (λ i. natural (get_or starts (i + 1) (pos 0)) - natural (get_or starts i (pos 0)))
    (length starts - 1)

abbrev pub points_along : ℕ → Option Split → ℕ
points_along extent None = extent
points_along extent (Some split) = longest_part split.starts

-- The loop points on the largest device. No axis is in two splits of a valid option, so that some
-- device has the longest part of each loop.
unfoldable pub points_of : LoopNest → OptionValue → ℕ
points_of nest o =
    cell_count (map (λ l. points_along (loop_at nest l).extent (split_at o l))
    (range_with_len 0 (length nest.loops)))

-- ---- the three numbers

unfoldable pub weight_of : LoopNest → GridValue → List Known → OptionValue → Weight
weight_of nest g known o = record {
  user_differ = differing nest g o true known;
  other_differ = differing nest g o false known;
  points = points_of nest o;
}

-- The order of weights: by the first number, where those are equal by the second, and where those
-- are equal too by the third.
pub record IsLess (a b : Weight) : Type 0 where
  pub user : a.user_differ ≤ b.user_differ
  pub other : a.user_differ ≡ b.user_differ → a.other_differ ≤ b.other_differ
  pub points : a.user_differ ≡ b.user_differ → a.other_differ ≡ b.other_differ
      → a.points < b.points

pub record IsAtMost (a b : Weight) : Type 0 where
  pub user : a.user_differ ≤ b.user_differ
  pub other : a.user_differ ≡ b.user_differ → a.other_differ ≤ b.other_differ
  pub points : a.user_differ ≡ b.user_differ → a.other_differ ≡ b.other_differ
      → a.points ≤ b.points
