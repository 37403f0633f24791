-- The types of the local tensors: an extent that isn't the same on all devices is `?`.
use Rattle.std.specs.Prelude.{◌≡◌, ◌≢◌, ℕ, ◌+◌, ◌<◌, ◌≤◌, List, map, nat_eq, if◌then◌else◌}
use Rattle.std.specs.List.{list_all, range_with_len}
use Rattle.sh_base.specs.Shape.{cell_count}
use Rattle.sh_ir.specs.declared.types.Dim.{Dim}
use Rattle.sh_ir.specs.declared.types.Dim.TheVariants.{Known, Differs}
use Rattle.sh_sharding.specs.declared.shardings.Mark.{Mark}
use Rattle.sh_sharding.specs.declared.shardings.Dimension.{Dimension}
use Rattle.sh_sharding.specs.Sharding.{ShardingValue, parts_of, part_size, size_of_part, local_extent}

-- the sizes of a dimension's parts, without halos
unfoldable pub part_sizes : List ℕ → Dimension → List ℕ
part_sizes g d = map (part_size g d) (range_with_len 0 (parts_of g d))

-- the extent of the local tensors along a dimension, halos included: `?` unless all parts have one
-- size
unfoldable pub local_dim : List ℕ → Dimension → Dim
local_dim g d =
    if list_all (λ n. nat_eq n (part_size g d 0)) (part_sizes g d)
    then Known (d.low + part_size g d 0 + d.high) else Differs

-- the extents of the type that a device program gives to the local tensors
abbrev pub local_dims : ShardingValue → List Dim
local_dims s = map (local_dim s.grid.extents) s.dimensions

-- all parts of an extent have this size
pub record IsCommonSize (extent parts : ℕ) (mark : Mark) (size : ℕ) : Type 0 where
  pub within : size ≤ extent
  pub all : (i : ℕ) → i < parts → size_of_part extent parts mark i ≡ size
  pub first : size ≡ size_of_part extent parts mark 0

-- a part has another size than the first
pub record HasOtherSize (extent parts : ℕ) (mark : Mark) : Type 0 where
  pub part : ℕ
  pub below : part < parts
  pub other : size_of_part extent parts mark part ≢ size_of_part extent parts mark 0

-- two devices whose local tensors differ in their extents along a dimension
pub record HasTwoExtents (g : List ℕ) (d : Dimension) : Type 0 where
  pub first : ℕ
  pub second : ℕ
  pub there : first < cell_count g
  pub there_too : second < cell_count g
  pub differ : local_extent g first d ≢ local_extent g second d

-- what an extent of a local type says: a number is that of each device, and `?` that two devices
-- differ
abbrev pub IsLocalDim : List ℕ → Dimension → Dim → Type 0
IsLocalDim g d (Known n) = (device : ℕ) → device < cell_count g → local_extent g device d ≡ n
IsLocalDim g d Differs = HasTwoExtents g d
