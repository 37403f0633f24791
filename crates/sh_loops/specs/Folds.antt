-- Folds that go over all points once and change one place at each.
use Rattle.std.specs.Prelude.{◌≡◌, ℕ, zero, suc, ◌==◌, ◌<◌, List, map, length, get_or, sum, Option, Some, if◌then◌else◌}
use Rattle.std.specs.List.{All}
use Rattle.sh_base.specs.declared.numbers.Cell.{Cell}
use Rattle.sh_base.specs.declared.numbers.Cell.TheVariants.{Undef}

-- the value at place j once the points with numbers below n were visited in order
abbrev pub visited : (ℕ → Option Cell → Option Cell) → (ℕ → ℕ) → ℕ → Option Cell → ℕ → Option Cell
visited visit place j start zero = start
visited visit place j start (suc n) =
    if place n == j
    then visit n (visited visit place j start n)
    else visited visit place j start n

-- ---- points

-- the coordinates of a point along these loops
abbrev pub coordinates : List ℕ → List ℕ → List ℕ
coordinates point loops = map (λ l. get_or point l 0) loops

-- the coordinate of a dimension that follows them
unfoldable pub coordinate_of : List ℕ → List ℕ → ℕ
coordinate_of point loops = sum (coordinates point loops)

-- ---- all places

-- these are the values at all places once the points with numbers below n were visited, each as w asks
pub record IsVisited (visit : ℕ → Option Cell → Option Cell) (place : ℕ → ℕ) (w : Cell → Type 0)
    (start : List Cell) (n : ℕ) (cells : List Cell) : Type 0 where
  pub counted : length cells ≡ length start
  pub each : (j : ℕ) → j < length start
      → visited visit place j (Some (get_or start j Undef)) n ≡ Some (get_or cells j Undef)
  pub fitting : All w cells
