-- Shardings: how the dimensions of a tensor are divided among the devices of a grid.
use Rattle.std.specs.Prelude.{◌≡◌, ◌≢◌, ℕ, zero, suc, ◌+◌, ◌-◌, ◌*◌, ◌%◌, ◌==◌, ◌<◌, ◌≤◌, Bool, true, false, not, ◌&&◌, List, [], ◌∷◌, length, map, min, max, slice_index, get_or}
use Rattle.std.specs.Int.{div_ceil}
use Rattle.std.specs.List.{AllByRecursion, flat_map, range_with_len}
use Rattle.sh_base.specs.Shape.{cell_count, max_cells, max_rank}
use Rattle.sh_grid.specs.Grid.{GridValue, IsGrid, AreAxesOf, group_size_of, place_in}
use Rattle.sh_sharding.specs.declared.shardings.Mark.{Mark}
use Rattle.sh_sharding.specs.declared.shardings.Mark.TheVariants.{Balanced, Offsets}
use Rattle.sh_sharding.specs.declared.shardings.Dimension.{Dimension}

-- a sharding as contracts see it: its grid, and how each dimension is divided
pub record ShardingValue : Type 0 where
  pub grid : GridValue
  pub dimensions : List Dimension

-- Where part i begins of an extent that is divided into so many parts. Part i ends where part i + 1
-- begins. Without written offsets the division is balanced: each part has the extent over the
-- number of parts, rounded up, as long as the extent lasts.
unfoldable pub offset_of : ℕ → ℕ → Mark → ℕ → ℕ
offset_of extent parts Balanced i = min extent (i * div_ceil extent parts)
offset_of extent parts (Offsets offsets) i = slice_index offsets i

-- how long part i is
unfoldable pub size_of_part : ℕ → ℕ → Mark → ℕ → ℕ
size_of_part extent parts mark i =
    offset_of extent parts mark (i + 1) - offset_of extent parts mark i

-- ---- one dimension, on a grid of these extents

-- how many parts it has: 1 where it isn't split
unfoldable pub parts_of : List ℕ → Dimension → ℕ
parts_of g d = group_size_of g d.axes

-- the part of a device: its place in its group along the dimension's axes
unfoldable pub part_of : List ℕ → Dimension → ℕ → ℕ
part_of g d device = place_in g d.axes device

-- where a part begins
unfoldable pub offset_at : List ℕ → Dimension → ℕ → ℕ
offset_at g d i = offset_of d.extent (parts_of g d) d.mark i

-- how long a part is
unfoldable pub part_size : List ℕ → Dimension → ℕ → ℕ
part_size g d i = size_of_part d.extent (parts_of g d) d.mark i

-- the largest of the first k sizes
abbrev pub largest_to : (ℕ → ℕ) → ℕ → ℕ
largest_to sizes zero = 0
largest_to sizes (suc k) = max (largest_to sizes k) (sizes k)

-- the extent of the largest local tensor along a dimension, halos included
abbrev pub largest_local : List ℕ → Dimension → ℕ
largest_local g d = d.low + largest_to (part_size g d) (parts_of g d) + d.high

-- where a device's part begins, how long it is, and how long it is with its halos
unfoldable pub start_in : List ℕ → ℕ → Dimension → ℕ
start_in g device d = offset_at g d (part_of g d device)

unfoldable pub size_in : List ℕ → ℕ → Dimension → ℕ
size_in g device d = part_size g d (part_of g d device)

unfoldable pub local_extent : List ℕ → ℕ → Dimension → ℕ
local_extent g device d = d.low + size_in g device d + d.high

-- whether it is split
abbrev pub is_split_by : List ℕ → Bool
is_split_by [] = false
is_split_by (a ∷ axes) = true

abbrev pub is_split : Dimension → Bool
is_split d = is_split_by d.axes

-- whether it is balanced: the normal form has no offsets for it
abbrev pub is_balanced_mark : Mark → Bool
is_balanced_mark Balanced = true
is_balanced_mark (Offsets offsets) = false

abbrev pub is_balanced : Dimension → Bool
is_balanced d = is_balanced_mark d.mark

-- whether it is even: split, balanced, and divisible by its number of parts, so that all have one
-- size
unfoldable pub is_even : List ℕ → Dimension → Bool
is_even g d = is_split d && (is_balanced d && (d.extent % parts_of g d == 0))

-- whether it is uneven: split and not even
unfoldable pub is_uneven : List ℕ → Dimension → Bool
is_uneven g d = is_split d && not (is_even g d)

-- ---- a sharding

-- the shape of the tensor that is divided
abbrev pub whole_of : ShardingValue → List ℕ
whole_of s = map (λ d. d.extent) s.dimensions

-- all axes that split a dimension, in order of dimensions
abbrev pub axes_of : List Dimension → List ℕ
axes_of ds = flat_map (λ d. d.axes) ds

-- a dimension that isn't split
abbrev pub unsplit : ℕ → Dimension
unsplit extent = record { extent = extent; axes = []; mark = Balanced; low = 0; high = 0 }

-- the dimension with this number
abbrev pub dimension_of : ShardingValue → ℕ → Dimension
dimension_of s dim = get_or s.dimensions dim (unsplit 0)

-- where the part of a device begins along a dimension, and how long it is, without halos
abbrev pub start_of : ShardingValue → ℕ → ℕ → ℕ
start_of s dim device = start_in s.grid.extents device (dimension_of s dim)

abbrev pub size_of : ShardingValue → ℕ → ℕ → ℕ
size_of s dim device = size_in s.grid.extents device (dimension_of s dim)

-- the shape of a device's local tensor: in each dimension its part and the halos
abbrev pub local_shape : ShardingValue → ℕ → List ℕ
local_shape s device = map (local_extent s.grid.extents device) s.dimensions

-- ---- what holds of an admitted sharding

-- The offsets of a dimension: the first is 0, none is less than the one before, and the last is the
-- extent.
pub record IsDivided (extent parts : ℕ) (mark : Mark) : Type 0 where
  pub begins : offset_of extent parts mark 0 ≡ 0
  pub rises : (i : ℕ) → i < parts
      → offset_of extent parts mark i ≤ offset_of extent parts mark (i + 1)
  pub ends : offset_of extent parts mark parts ≡ extent

-- all offsets in order
unfoldable pub offsets_of : ℕ → ℕ → Mark → List ℕ
offsets_of extent parts mark = map (offset_of extent parts mark) (range_with_len 0 (parts + 1))

-- The mark of the normal form: `Balanced` wherever the offsets are the balanced ones, and else all
-- offsets.
abbrev pub IsNormalMark : ℕ → ℕ → Mark → Type 0
IsNormalMark extent parts Balanced = Unit {0}
IsNormalMark extent parts (Offsets offsets) =
    (length offsets ≡ parts + 1) × (offsets ≢ offsets_of extent parts Balanced)

-- a dimension whose axes and mark are in order
pub record IsMarked (g : List ℕ) (d : Dimension) : Type 0 where
  pub axes : AreAxesOf (length g) d.axes
  pub divided : IsDivided d.extent (parts_of g d) d.mark
  pub normal : IsNormalMark d.extent (parts_of g d) d.mark

-- a dimension of an admitted sharding in normal form: no halo is longer than a part
pub record IsDimension (g : List ℕ) (d : Dimension) : Type 0 where
  pub divided : IsDivided d.extent (parts_of g d) d.mark
  pub normal : IsNormalMark d.extent (parts_of g d) d.mark
  pub low : (i : ℕ) → i < parts_of g d → d.low ≤ part_size g d i
  pub high : (i : ℕ) → i < parts_of g d → d.high ≤ part_size g d i
  pub unsplit : d.axes ≡ [] → d ≡ unsplit d.extent

-- how many cells a shape has, an extent of 0 being counted as 1
abbrev pub counted_cells : List ℕ → ℕ
counted_cells s = cell_count (map (max 1) s)

-- no dimension has a halo
abbrev pub HasNoHalos : List Dimension → Type 0
HasNoHalos ds = AllByRecursion (λ d. (d.low ≡ 0) × (d.high ≡ 0)) ds

-- all dimensions are balanced: the normal form has no offsets
abbrev pub AreBalanced : List Dimension → Type 0
AreBalanced ds = AllByRecursion (λ d. d.mark ≡ Balanced) ds

-- offsets or halos, not both
abbrev pub HasOneMark : List Dimension → Type 0
HasOneMark ds = ¬ AreBalanced ds → HasNoHalos ds

-- a sharding that is admitted, in normal form
pub record IsSharding (s : ShardingValue) : Type 0 where
  pub grid : IsGrid s.grid.extents
  pub axes : AreAxesOf (length s.grid.extents) (axes_of s.dimensions)
  pub dimensions : AllByRecursion (IsDimension s.grid.extents) s.dimensions
  pub short : length s.dimensions ≤ max_rank
  pub one_mark : HasOneMark s.dimensions
  pub small : counted_cells (whole_of s) ≤ max_cells
  pub fits : (device : ℕ) → device < cell_count s.grid.extents
      → counted_cells (local_shape s device) ≤ max_cells

-- what holds of a sharding in memory, which keeps its whole shape
pub record IsHeld (whole : List ℕ) (s : ShardingValue) : Type 0 where
  pub sharding : IsSharding s
  pub shape : whole ≡ whole_of s
