-- Shardings that are made from others: without halos, and with another dimension in place of one.
use Rattle.std.specs.Prelude.{◌≡◌, ℕ, ◌<◌, ◌≤◌, ◌⊎◌, true, false, List, [], ◌∷◌, ◌++◌, length, map, set}
use Rattle.std.specs.List.{AllByRecursion}
use Rattle.sh_base.specs.Shape.{max_cells, max_rank}
use Rattle.sh_grid.specs.Grid.{IsGrid, IsNoneOf, AreAxesOf, group_size_of}
use Rattle.sh_sharding.specs.declared.shardings.Mark.{Mark}
use Rattle.sh_sharding.specs.declared.shardings.Mark.TheVariants.{Balanced}
use Rattle.sh_sharding.specs.declared.shardings.Dimension.{Dimension}
use Rattle.sh_sharding.specs.Sharding.{ShardingValue, parts_of, axes_of, whole_of, unsplit, dimension_of, counted_cells, is_split, is_even, HasNoHalos, IsDivided, IsNormalMark, IsSharding}

-- a dimension without its halos
abbrev pub plain : Dimension → Dimension
plain d = record d { low = 0; high = 0 }

abbrev pub without_halos : ShardingValue → ShardingValue
without_halos s = record s { dimensions = map plain s.dimensions }

-- ---- halo-free shardings

-- a halo-free dimension with its mark in order
pub record IsPlain (g : List ℕ) (d : Dimension) : Type 0 where
  pub divided : IsDivided d.extent (parts_of g d) d.mark
  pub normal : IsNormalMark d.extent (parts_of g d) d.mark
  pub low : d.low ≡ 0
  pub high : d.high ≡ 0
  pub whole : d.axes ≡ [] → d.mark ≡ Balanced

-- a halo-free value whose axes, marks and offsets are in order
pub record IsInOrder (s : ShardingValue) : Type 0 where
  pub grid : IsGrid s.grid.extents
  pub axes : AreAxesOf (length s.grid.extents) (axes_of s.dimensions)
  pub dimensions : AllByRecursion (IsPlain s.grid.extents) s.dimensions
  pub short : length s.dimensions ≤ max_rank
  pub small : counted_cells (whole_of s) ≤ max_cells

-- an admitted sharding without halos
pub record IsState (s : ShardingValue) : Type 0 where
  pub sharding : IsSharding s
  pub plain : HasNoHalos s.dimensions

-- ---- another dimension in place of one

abbrev pub with_dimension : ShardingValue → ℕ → Dimension → ShardingValue
with_dimension s dim d = record s { dimensions = set s.dimensions dim d }

-- a dimension with other axes, with one axis more, and with other axes and another mark
abbrev pub along : Dimension → List ℕ → Dimension
along d axes = record d { axes = axes }

abbrev pub with_axis : Dimension → ℕ → Dimension
with_axis d axis = along d (d.axes ++ axis ∷ [])

abbrev pub split_by : Dimension → List ℕ → Mark → Dimension
split_by d axes mark = record d { axes = axes; mark = mark }

-- even, or not split
abbrev pub IsEvenOrWhole : List ℕ → Dimension → Type 0
IsEvenOrWhole g d = (is_even g d ≡ true) ⊎ (is_split d ≡ false)

-- What admission keeps as dimensions of halo-free shardings change. Of each change: the sharding
-- that it leads to is an admitted one without halos.
pub record StatesStay (s : ShardingValue) : Type 0 where
  -- the last axis of an even dimension is dropped: it is then even or whole
  pub dropped : (dim : ℕ) (front : List ℕ) (last : ℕ) → dim < length s.dimensions
      → is_even s.grid.extents (dimension_of s dim) ≡ true
      → (dimension_of s dim).axes ≡ front ++ last ∷ []
      → IsState (with_dimension s dim (along (dimension_of s dim) front))
      × IsEvenOrWhole s.grid.extents (along (dimension_of s dim) front)
  -- an unused axis is appended to an even or whole dimension, which is even afterwards
  pub appended : (dim axis : ℕ) → dim < length s.dimensions → axis < length s.grid.extents
      → IsNoneOf axis (axes_of s.dimensions)
      → IsEvenOrWhole s.grid.extents (dimension_of s dim)
      → is_even s.grid.extents (with_axis (dimension_of s dim) axis) ≡ true
      → IsState (with_dimension s dim (with_axis (dimension_of s dim) axis))
  -- a dimension is gathered whole
  pub gathered : (dim : ℕ) → dim < length s.dimensions
      → IsState (with_dimension s dim (unsplit (dimension_of s dim).extent))
  -- a whole dimension is split by a list of unused axes, with a mark in order
  pub split : (dim a : ℕ) (axes : List ℕ) (mark : Mark) → dim < length s.dimensions
      → is_split (dimension_of s dim) ≡ false
      → AreAxesOf (length s.grid.extents) ((a ∷ axes) ++ axes_of s.dimensions)
      → IsDivided (dimension_of s dim).extent (group_size_of s.grid.extents (a ∷ axes)) mark
      → IsNormalMark (dimension_of s dim).extent (group_size_of s.grid.extents (a ∷ axes)) mark
      → IsState (with_dimension s dim (split_by (dimension_of s dim) (a ∷ axes) mark))
