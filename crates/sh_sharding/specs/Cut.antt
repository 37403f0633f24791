-- Cuts: the local tensors of the devices, and who owns which cell.
use Rattle.std.specs.Prelude.{◌≡◌, ℕ, ◌+◌, ◌-◌, ◌<◌, ◌≤◌, List, [], ◌∷◌, map, sum, Bool, true, ◌&&◌, nat_le, nat_lt, if◌then◌else◌}
use Rattle.sh_base.specs.declared.numbers.Width.{Width}
use Rattle.sh_base.specs.declared.numbers.Cell.{Cell}
use Rattle.sh_base.specs.declared.numbers.Cell.TheVariants.{Undef}
use Rattle.std.specs.List.{range_with_len}
use Rattle.sh_base.specs.Shape.{cell_count, IsIndexOf}
use Rattle.sh_grid.specs.Grid.{group_size_of, member_of}
use Rattle.sh_tensor.specs.Tensor.{TensorValue, IsTensor, at, build}
use Rattle.sh_sharding.specs.declared.shardings.Dimension.{Dimension}
use Rattle.sh_sharding.specs.Sharding.{ShardingValue, parts_of, offset_at, part_size, start_in, size_in, local_shape, whole_of, axes_of}

-- The index of the whole at which a device's local index stands: start + j - low halo in each
-- dimension.
abbrev pub whole_index : List ℕ → ℕ → List Dimension → List ℕ → List ℕ
whole_index g device [] j = []
whole_index g device (d ∷ ds) [] = []
whole_index g device (d ∷ ds) (x ∷ j) =
    (start_in g device d + x - d.low) ∷ whole_index g device ds j

-- whether that index lies in the whole
abbrev pub is_inside : List ℕ → ℕ → List Dimension → List ℕ → Bool
is_inside g device [] j = true
is_inside g device (d ∷ ds) [] = true
is_inside g device (d ∷ ds) (x ∷ j) =
    nat_le d.low (start_in g device d + x) && nat_lt (start_in g device d + x - d.low) d.extent
    && is_inside g device ds j

-- the cell of a device's local tensor at a local index: undefined where the halo leaves the whole
abbrev pub cut_cell : ShardingValue → TensorValue → ℕ → List ℕ → Cell
cut_cell s t device j =
    if is_inside s.grid.extents device s.dimensions j
    then at t (whole_index s.grid.extents device s.dimensions j)
    else Undef

-- the local tensor of a device, halos included
unfoldable pub cut_of : ShardingValue → TensorValue → ℕ → TensorValue
cut_of s t device = build (local_shape s device) t.width (cut_cell s t device)

-- ---- owners

-- the device owns the index of the whole: it lies in the device's part, without halos, in every
-- dimension
abbrev pub OwnsIn : List ℕ → ℕ → List Dimension → List ℕ → Type 0
OwnsIn g device [] i = Unit {0}
OwnsIn g device (d ∷ ds) [] = ⊥
OwnsIn g device (d ∷ ds) (x ∷ i) =
    (start_in g device d ≤ x) × (x < start_in g device d + size_in g device d)
    × OwnsIn g device ds i

abbrev pub Owns : ShardingValue → ℕ → List ℕ → Type 0
Owns s device i = OwnsIn s.grid.extents device s.dimensions i

-- the local index at which a device holds an index of the whole that it owns
abbrev pub local_index : List ℕ → ℕ → List Dimension → List ℕ → List ℕ
local_index g device [] i = []
local_index g device (d ∷ ds) [] = []
local_index g device (d ∷ ds) (x ∷ i) =
    (d.low + (x - start_in g device d)) ∷ local_index g device ds i

-- the cell that a device holds for an index of the whole that it owns
abbrev pub held_cell : ShardingValue → TensorValue → ℕ → List ℕ → Cell
held_cell s part device i = at part (local_index s.grid.extents device s.dimensions i)

-- The groups along all axes of the sharding, in order of dimensions: in the group of each device
-- exactly one device owns the index.
pub record HasOneOwner (s : ShardingValue) (device : ℕ) (i : List ℕ) : Type 0 where
  pub place : ℕ
  pub there : place < group_size_of s.grid.extents (axes_of s.dimensions)
  pub owns : Owns s (member_of s.grid.extents (axes_of s.dimensions) device place) i
  pub only : (other : ℕ) → other < group_size_of s.grid.extents (axes_of s.dimensions)
      → Owns s (member_of s.grid.extents (axes_of s.dimensions) device other) i → other ≡ place

-- Two tensors of one shape and width whose cuts are equal on all devices are equal.
pub record CutsDetermine (s : ShardingValue) : Type 0 where
  pub same : (t u : TensorValue) → IsTensor t → IsTensor u → t.shape ≡ whole_of s
      → u.shape ≡ whole_of s → t.width ≡ u.width
      → ((device : ℕ) → device < cell_count s.grid.extents
      → cut_of s t device ≡ cut_of s u device) → t ≡ u

-- A cut holds, for each index that its device owns, the tensor's cell.
pub record HoldsOwned (s : ShardingValue) : Type 0 where
  pub cell : (t : TensorValue) (device : ℕ) (i : List ℕ) → IsIndexOf (whole_of s) i
      → Owns s device i
      → held_cell s (cut_of s t device) device i ≡ at t i

-- A part begins where the sizes of the parts before it end, and the sizes of all sum to the extent.
pub record SizesSum (g : List ℕ) (d : Dimension) : Type 0 where
  pub before : (part : ℕ) → part ≤ parts_of g d
      → sum (map (part_size g d) (range_with_len 0 part)) ≡ offset_at g d part
  pub total : sum (map (part_size g d) (range_with_len 0 (parts_of g d))) ≡ d.extent

-- An element operation commutes with the cuts, whatever the number of its operands: the cut of the
-- result has, at each local index, the operation's cell on the cells of the operands' cuts.
pub record CutsElementwise (s : ShardingValue) : Type 0 where
  pub commutes : (w : Width) (f : List Cell → Cell) (operands : List TensorValue) (device : ℕ)
      → device < cell_count s.grid.extents
      → cut_of s (build (whole_of s) w (λ i. f (map (λ x. at x i) operands))) device
      ≡ build (local_shape s device) w (λ j. f (map (λ x. at (cut_of s x device) j) operands))
