-- Slices: the cells of a tensor from an offset on, at a stride, dimension by dimension.
use Rattle.std.specs.Prelude.{ℕ, ◌+◌, ◌-◌, ◌*◌, ◌/◌, ◌%◌, ◌==◌, Bool, ◌&&◌, ◌||◌, List, [], ◌∷◌, map, zip, nat_le, nat_lt, nat_eq, Option, Some, None, if◌then◌else◌}
use Rattle.std.specs.List.{list_all}
use Rattle.std.specs.Cmp.Lexicographic.{pointwise}
use Rattle.sh_base.specs.declared.numbers.Cell.{Cell}
use Rattle.sh_ir.specs.declared.tensor_ops.Slice.{Slice}
use Rattle.sh_ir.specs.declared.types.Dim.{Dim}
use Rattle.sh_ir.specs.declared.types.Dim.TheVariants.{Known, Differs}
use Rattle.sh_ir.specs.Numbers.{as_naturals}
use Rattle.sh_tensor.specs.Tensor.{TensorValue, at}
use Rattle.sh_turns.specs.Program.{all_there}

-- a slice of one dimension
pub record Range : Type 0 where
  pub extent : ℕ  -- of the tensor that is sliced
  pub offset : ℕ
  pub size : ℕ
  pub stride : ℕ

-- A dimension whose extent the type leaves open is taken whole; the size that is written there has
-- no meaning.
abbrev pub range_of : Dim → ℕ → ℕ → ℕ → ℕ → Range
range_of (Known m) n offset size stride =
    record { extent = n; offset = offset; size = size; stride = stride }
range_of Differs n offset size stride = record { extent = n; offset = 0; size = n; stride = 1 }

-- by the sliced tensor's type and shape, and the offsets, sizes and strides
abbrev pub ranges_by : List Dim → List ℕ → List ℕ → List ℕ → List ℕ → List Range
ranges_by (d ∷ dims) (n ∷ shape) (o ∷ offsets) (k ∷ sizes) (t ∷ strides) =
    range_of d n o k t ∷ ranges_by dims shape offsets sizes strides
ranges_by _ _ _ _ _ = []

abbrev pub ranges_of : Slice → List Dim → List ℕ → List Range
ranges_of x dims shape =
    ranges_by dims shape (as_naturals x.offsets) (as_naturals x.sizes) (as_naturals x.strides)

-- all cells lie in the tensor
abbrev pub lies_within : Range → Bool
lies_within r = (r.size == 0) || nat_lt (r.offset + (r.size - 1) * r.stride) r.extent

abbrev pub sizes_of : List Range → List ℕ
sizes_of ranges = map (λ r. r.size) ranges

-- ---- extract_slice

abbrev pub extracted_shape : List Range → Option (List ℕ)
extracted_shape ranges = if list_all lies_within ranges then Some (sizes_of ranges) else None

-- where the cell at an index of the slice stands in the tensor
abbrev pub sliced_index : List Range → List ℕ → List ℕ
sliced_index ranges i = map (λ x. x.0.offset + x.1 * x.0.stride) (zip ranges i)

abbrev pub extracted_cell : List Range → TensorValue → List ℕ → Cell
extracted_cell ranges t i = at t (sliced_index ranges i)

-- ---- insert_slice

-- the tensor into which the slice goes keeps its shape; the slice has the sizes
abbrev pub inserted_shape : List Range → List ℕ → List ℕ → Option (List ℕ)
inserted_shape ranges source destination =
    if list_all lies_within ranges && pointwise nat_eq (sizes_of ranges) source
    then Some destination
    else None

-- the coordinate in the slice of a coordinate of the tensor, if the slice has one there
abbrev pub coordinate_in : Range → ℕ → Option ℕ
coordinate_in r j =
    let steps : ℕ = (j - r.offset) / r.stride in
    if (nat_le r.offset j && nat_lt steps r.size) && (r.offset + steps * r.stride == j)
    then Some steps
    else None

abbrev pub index_in : List Range → List ℕ → Option (List ℕ)
index_in ranges j = all_there (map (λ x. coordinate_in x.0 x.1) (zip ranges j))

-- the source's cell where the slice has the index, else the destination's own
abbrev pub inserted_cell : List Range → TensorValue → TensorValue → List ℕ → Cell
inserted_cell ranges source destination j =
    elim (index_in ranges j) [ None ↦ at destination j | Some i ↦ at source i ]
