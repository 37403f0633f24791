-- The whole tensor that the local tensors of the devices hold together.
use Rattle.std.specs.Prelude.{◌≡◌, ◌≢◌, ℕ, ◌<◌, List, [], length, slice_index_or}
use Rattle.sh_base.specs.declared.numbers.Width.TheVariants.{I1}
use Rattle.sh_base.specs.declared.numbers.Cell.{Cell}
use Rattle.sh_base.specs.Shape.{cell_count, IsIndexOf, unflat_of}
use Rattle.sh_tensor.specs.Tensor.{TensorValue, IsTensor, at}
use Rattle.sh_sharding.specs.declared.together.Put.{Put}
use Rattle.sh_sharding.specs.declared.together.Put.TheVariants.{Differ, Mem}
use Rattle.sh_sharding.specs.Sharding.{ShardingValue, local_shape, whole_of}
use Rattle.sh_sharding.specs.Cut.{Owns, held_cell, cut_of}

-- the part of a device: its local tensor
abbrev pub part_at : List TensorValue → ℕ → TensorValue
part_at parts device = slice_index_or parts device (record { shape = []; width = I1; cells = [] })

-- a part for each device, of the device's local shape, all of one width
pub record AreParts (s : ShardingValue) (parts : List TensorValue) : Type 0 where
  pub counted : length parts ≡ cell_count s.grid.extents
  pub shapes : (device : ℕ) → device < cell_count s.grid.extents
      → (part_at parts device).shape ≡ local_shape s device
  pub widths : (device : ℕ) → device < cell_count s.grid.extents
      → (part_at parts device).width ≡ (part_at parts 0).width

-- all owners of an index hold the cell that the tensor has there
pub record IsTogether (s : ShardingValue) (parts : List TensorValue)
    (t : TensorValue) : Type 0 where
  pub shape : t.shape ≡ whole_of s
  pub width : t.width ≡ (part_at parts 0).width
  pub cells : (device : ℕ) (i : List ℕ) → device < cell_count s.grid.extents
      → IsIndexOf (whole_of s) i → Owns s device i
      → held_cell s (part_at parts device) device i ≡ at t i

-- the parts are the cuts of the tensor
pub record AreCutsOf (s : ShardingValue) (t : TensorValue) (parts : List TensorValue) : Type 0 where
  pub whole : IsTensor t
  pub shape : t.shape ≡ whole_of s
  pub cuts : (device : ℕ) → device < cell_count s.grid.extents
      → part_at parts device ≡ cut_of s t device

-- ---- by row-major numbers of cells of the whole

-- the device owns the cell with this number
abbrev pub OwnsCell : ShardingValue → ℕ → ℕ → Type 0
OwnsCell s device cell = Owns s device (unflat_of (whole_of s) cell)

-- what an owner holds for it
abbrev pub held_at : ShardingValue → List TensorValue → ℕ → ℕ → Cell
held_at s parts device cell =
    held_cell s (part_at parts device) device (unflat_of (whole_of s) cell)

-- the device is the first that owns an index
pub record IsFirstOwner (s : ShardingValue) (i : List ℕ) (device : ℕ) : Type 0 where
  pub below : device < cell_count s.grid.extents
  pub owns : Owns s device i
  pub first : (other : ℕ) → other < device → ¬ Owns s other i

-- The cell is the first that two owners don't hold alike, and the device the first that holds it
-- otherwise than its first owner.
pub record IsFirstDiffering (s : ShardingValue) (parts : List TensorValue)
    (device cell : ℕ) : Type 0 where
  pub within : cell < cell_count (whole_of s)
  pub owner : ℕ
  pub first : IsFirstOwner s (unflat_of (whole_of s) cell) owner
  pub below : device < cell_count s.grid.extents
  pub owns : OwnsCell s device cell
  pub differs : held_at s parts device cell ≢ held_at s parts owner cell
  pub earlier : (other : ℕ) → other < device → OwnsCell s other cell
      → held_at s parts other cell ≡ held_at s parts owner cell
  pub lesser : (lower c e : ℕ) → lower < cell → c < cell_count s.grid.extents
      → e < cell_count s.grid.extents
      → OwnsCell s c lower → OwnsCell s e lower → held_at s parts c lower ≡ held_at s parts e lower

-- what a refusal says: where two owners differ first, or nothing where memory is wanting
abbrev pub IsPutRefusal : Put → ShardingValue → List TensorValue → Type 0
IsPutRefusal (Differ device cell) s parts = IsFirstDiffering s parts device cell
IsPutRefusal Mem s parts = Unit {0}
