-- A cut is, along each dimension by itself, a window of the whole. How it is made: each dimension
-- is first sliced to what lies in the whole, and then padded with undefined cells.
use Rattle.std.specs.Prelude.{◌≡◌, ℕ, zero, suc, ◌+◌, ◌-◌, List, [], ◌∷◌, min, set, get_or, replicate, Bool, true, ◌&&◌, nat_le, nat_lt, if◌then◌else◌}
use Rattle.sh_base.specs.declared.numbers.Cell.{Cell}
use Rattle.sh_base.specs.declared.numbers.Cell.TheVariants.{Undef}
use Rattle.sh_base.specs.declared.numbers.Width.{Width}
use Rattle.sh_base.specs.Shape.{cell_count}
use Rattle.sh_tensor.specs.Tensor.{TensorValue, IsTensor, at, build}
use Rattle.sh_sharding.specs.declared.shardings.Dimension.{Dimension}
use Rattle.sh_sharding.specs.Sharding.{ShardingValue, whole_of, start_in, size_in, local_extent}
use Rattle.sh_sharding.specs.Cut.{cut_of}

-- ---- windows

unfoldable pub window_cell : List ℕ → ℕ → Dimension → TensorValue → ℕ → List ℕ → Cell
window_cell g device d t axis i =
    if nat_le d.low (start_in g device d + get_or i axis 0)
    && nat_lt (start_in g device d + get_or i axis 0 - d.low) d.extent
    then at t (set i axis (start_in g device d + get_or i axis 0 - d.low))
    else Undef

-- A device's window of a tensor along one dimension: its part with the halos, undefined where a
-- halo leaves the tensor.
unfoldable pub window_of : List ℕ → ℕ → Dimension → TensorValue → ℕ → TensorValue
window_of g device d t axis =
    build (set t.shape axis (local_extent g device d)) t.width (window_cell g device d t axis)

-- the windows along the dimensions from this axis on, one after the other
abbrev pub windows_of : List ℕ → ℕ → List Dimension → ℕ → TensorValue → TensorValue
windows_of g device [] axis t = t
windows_of g device (d ∷ ds) axis t =
    windows_of g device ds (axis + 1) (window_of g device d t axis)

-- A cut is the windows along all dimensions.
pub record CutsByWindows (s : ShardingValue) : Type 0 where
  pub windows : (t : TensorValue) (device : ℕ) → IsTensor t → t.shape ≡ whole_of s
      → cut_of s t device ≡ windows_of s.grid.extents device s.dimensions 0 t

-- ---- one dimension

-- where a device's part begins with its halo, as far as it lies in the whole
unfoldable pub from_in : List ℕ → ℕ → Dimension → ℕ
from_in g device d = start_in g device d - d.low

-- where it ends with its halo
unfoldable pub end_in : List ℕ → ℕ → Dimension → ℕ
end_in g device d = start_in g device d + size_in g device d + d.high

-- how much of it lies in the whole
unfoldable pub taken_in : List ℕ → ℕ → Dimension → ℕ
taken_in g device d = min (end_in g device d) d.extent - from_in g device d

-- how much of it lies before the whole and after it
unfoldable pub before_in : List ℕ → ℕ → Dimension → ℕ
before_in g device d = d.low - start_in g device d

unfoldable pub after_in : List ℕ → ℕ → Dimension → ℕ
after_in g device d = end_in g device d - d.extent

-- ---- a tensor with undefined cells around it

-- a tensor of undefined cells
abbrev pub undefined_of : List ℕ → Width → TensorValue
undefined_of s w = record { shape = s; width = w; cells = replicate (cell_count s) Undef }

unfoldable pub padded_cell : TensorValue → ℕ → ℕ → List ℕ → Cell
padded_cell t axis before i =
    if nat_le before (get_or i axis 0) && nat_lt (get_or i axis 0 - before) (get_or t.shape axis 0)
    then at t (set i axis (get_or i axis 0 - before))
    else Undef

unfoldable pub padded_of : TensorValue → ℕ → ℕ → ℕ → TensorValue
padded_of t axis before after =
    build (set t.shape axis (before + get_or t.shape axis 0 + after)) t.width
    (padded_cell t axis before)

-- ---- the first k dimensions

-- sliced
abbrev pub sliced_shape : List ℕ → ℕ → ℕ → List Dimension → List ℕ
sliced_shape g device k [] = []
sliced_shape g device zero (d ∷ ds) = d.extent ∷ sliced_shape g device zero ds
sliced_shape g device (suc k) (d ∷ ds) = taken_in g device d ∷ sliced_shape g device k ds

abbrev pub sliced_index : List ℕ → ℕ → ℕ → List Dimension → List ℕ → List ℕ
sliced_index g device zero ds i = i
sliced_index g device (suc k) [] i = i
sliced_index g device (suc k) (d ∷ ds) [] = []
sliced_index g device (suc k) (d ∷ ds) (x ∷ i) =
    (from_in g device d + x) ∷ sliced_index g device k ds i

unfoldable pub sliced_by : List ℕ → ℕ → List Dimension → TensorValue → ℕ → TensorValue
sliced_by g device ds t k =
    build (sliced_shape g device k ds) t.width (λ i. at t (sliced_index g device k ds i))

-- padded, where all are sliced
abbrev pub padded_shape : List ℕ → ℕ → ℕ → List Dimension → List ℕ
padded_shape g device k [] = []
padded_shape g device zero (d ∷ ds) = taken_in g device d ∷ padded_shape g device zero ds
padded_shape g device (suc k) (d ∷ ds) =
    (before_in g device d + taken_in g device d + after_in g device d) ∷ padded_shape g device k ds

abbrev pub padded_index : List ℕ → ℕ → ℕ → List Dimension → List ℕ → List ℕ
padded_index g device zero ds i = i
padded_index g device (suc k) [] i = i
padded_index g device (suc k) (d ∷ ds) [] = []
padded_index g device (suc k) (d ∷ ds) (x ∷ i) =
    (x - before_in g device d) ∷ padded_index g device k ds i

-- the index lies in what is sliced
abbrev pub is_taken : List ℕ → ℕ → ℕ → List Dimension → List ℕ → Bool
is_taken g device zero ds i = true
is_taken g device (suc k) [] i = true
is_taken g device (suc k) (d ∷ ds) [] = true
is_taken g device (suc k) (d ∷ ds) (x ∷ i) =
    nat_le (before_in g device d) x && nat_lt (x - before_in g device d) (taken_in g device d)
    && is_taken g device k ds i

abbrev pub padded_by_cell : List ℕ → ℕ → List Dimension → TensorValue → ℕ → List ℕ → Cell
padded_by_cell g device ds t k i =
    if is_taken g device k ds i then at t (padded_index g device k ds i) else Undef

unfoldable pub padded_by : List ℕ → ℕ → List Dimension → TensorValue → ℕ → TensorValue
padded_by g device ds t k =
    build (padded_shape g device k ds) t.width (padded_by_cell g device ds t k)
