-- Where the cells stand that a device owns: positions, each a number in the whole and one in the
-- local tensor.
use Rattle.std.specs.Prelude.{◌≡◌, ◌≢◌, ℕ, ◌+◌, ◌*◌, ◌<◌, ◌≤◌, List, map, length, slice_index_or, All, Contains}
use Rattle.sh_base.specs.declared.numbers.Cell.{Cell}
use Rattle.sh_base.specs.declared.numbers.Cell.TheVariants.{Undef}
use Rattle.sh_base.specs.Cells.{IsCellOf}
use Rattle.sh_base.specs.Shape.{cell_count, max_cells, IsIndexOf, flat_of}
use Rattle.sh_tensor.specs.Tensor.{TensorValue}
use Rattle.sh_sharding.specs.declared.shardings.Dimension.{Dimension}
use Rattle.sh_sharding.specs.declared.positions.Position.{Position}
use Rattle.sh_sharding.specs.Sharding.{ShardingValue, local_extent, whole_of}
use Rattle.sh_sharding.specs.Cut.{OwnsIn, local_index}
use Rattle.sh_sharding.specs.Together.{part_at, OwnsCell, held_at}

-- an index along these dimensions that the device owns
pub record IsOwn (g : List ℕ) (device : ℕ) (ds : List Dimension) (i : List ℕ) : Type 0 where
  pub within : IsIndexOf (map (λ d. d.extent) ds) i
  pub owns : OwnsIn g device ds i

-- its row-major numbers
abbrev pub position_of : List ℕ → ℕ → List Dimension → List ℕ → Position
position_of g device ds i = record {
  whole = flat_of (map (λ d. d.extent) ds) i;
  local = flat_of (map (local_extent g device) ds) (local_index g device ds i);
}

pub record IsPosition (g : List ℕ) (device : ℕ) (ds : List Dimension)
    (position : Position) : Type 0 where
  pub index : List ℕ
  pub own : IsOwn g device ds index
  pub value : position ≡ position_of g device ds index

-- the positions of all that the device owns along these dimensions
pub record ArePositions (g : List ℕ) (device : ℕ) (ds : List Dimension)
    (positions : List Position) : Type 0 where
  pub each : All (IsPosition g device ds) positions
  pub full : (i : List ℕ) → IsOwn g device ds i → Contains positions (position_of g device ds i)

-- ---- one dimension more

-- both numbers are so much greater
abbrev pub moved : Position → Position → Position
moved by position = record { whole = by.whole + position.whole; local = by.local + position.local }

-- how much greater the numbers are at an entry of the dimension
abbrev pub shift_at : Position → Position → ℕ → Position
shift_at stride from entry = record {
  whole = (from.whole + entry) * stride.whole;
  local = (from.local + entry) * stride.local;
}

pub record IsExtended (positions : List Position) (stride from : Position) (size : ℕ)
    (position : Position) : Type 0 where
  pub entry : ℕ
  pub below : entry < size
  pub rest : Position
  pub among : Contains positions rest
  pub value : position ≡ moved (shift_at stride from entry) rest

-- each of the positions at each of so many entries
pub record AreExtended (positions : List Position) (stride from : Position) (size : ℕ)
    (out : List Position) : Type 0 where
  pub each : All (IsExtended positions stride from size) out
  pub full : (entry : ℕ) (rest : Position) → entry < size → Contains positions rest
      → Contains out (moved (shift_at stride from entry) rest)

-- numbers that can't overflow in a sum
pub record IsSmall (position : Position) : Type 0 where
  pub whole_few : position.whole ≤ max_cells
  pub local_few : position.local ≤ max_cells

-- ---- cells

-- the position stands in tensors with so many cells
pub record IsInside (whole local : ℕ) (position : Position) : Type 0 where
  pub in_whole : position.whole < whole
  pub in_local : position.local < local

-- the cell with this number is what the part has at one of its positions
pub record IsWrittenAt (positions : List Position) (part after : List Cell)
    (cell : ℕ) : Type 0 where
  pub position : Position
  pub among : Contains positions position
  pub here : position.whole ≡ cell
  pub value : slice_index_or after cell Undef ≡ slice_index_or part position.local Undef

-- the part's cells stand at the positions, and the others are as before
pub record AreWritten (positions : List Position) (part before after : List Cell) : Type 0 where
  pub long : length after ≡ length before
  pub own : (position : Position) → Contains positions position
      → IsWrittenAt positions part after position.whole
  pub others : (cell : ℕ) → ((position : Position) → Contains positions position
      → position.whole ≢ cell) → slice_index_or after cell Undef ≡ slice_index_or before cell Undef

-- the part has another cell there at one of the positions
pub record DiffersAt (positions : List Position) (part cells : List Cell) (cell : ℕ) : Type 0 where
  pub position : Position
  pub among : Contains positions position
  pub here : position.whole ≡ cell
  pub differs : slice_index_or part position.local Undef ≢ slice_index_or cells cell Undef

-- the least number of a cell where the part differs, or how many cells there are where it doesn't
pub record IsLeastDiffering (positions : List Position) (part cells : List Cell)
    (least : ℕ) : Type 0 where
  pub within : least ≤ length cells
  pub alike : (position : Position) → Contains positions position → position.whole < least
      → slice_index_or part position.local Undef ≡ slice_index_or cells position.whole Undef
  pub found : least < length cells → DiffersAt positions part cells least

-- ---- all devices

-- each cell is that of its first owner among the devices from the given one on
pub record IsStanding (s : ShardingValue) (parts : List TensorValue) (from : ℕ)
    (cells : List Cell) : Type 0 where
  pub counted : length cells ≡ cell_count (whole_of s)
  pub fitting : All (IsCellOf (part_at parts 0).width) cells
  pub first : (cell device : ℕ) → cell < cell_count (whole_of s) → from ≤ device
      → device < cell_count s.grid.extents → OwnsCell s device cell
      → ((other : ℕ) → from ≤ other → other < device → ¬ OwnsCell s other cell)
      → slice_index_or cells cell Undef ≡ held_at s parts device cell

-- all devices hold the cells that they own
pub record AreHeld (s : ShardingValue) (parts : List TensorValue) (cells : List Cell) : Type 0 where
  pub held : (device cell : ℕ) → device < cell_count s.grid.extents
      → cell < cell_count (whole_of s) → OwnsCell s device cell
      → held_at s parts device cell ≡ slice_index_or cells cell Undef
