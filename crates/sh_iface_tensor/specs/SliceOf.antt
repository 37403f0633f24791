-- The slice that an operation takes or writes.
use Rattle.std.specs.Prelude.{◌≡◌, ℕ, zero, suc, Bool, true, false, List, [], ◌∷◌, map}
use Rattle.sh_base.specs.declared.numbers.Width.{Width}
use Rattle.sh_base.specs.declared.places.Place.{Place}
use Rattle.sh_ir.specs.declared.operations.OpKind.{OpKind}
use Rattle.sh_ir.specs.declared.operations.OpKind.TheVariants.{ExtractSlice, InsertSlice}
use Rattle.sh_ir.specs.declared.tensor_ops.Slice.{Slice}
use Rattle.sh_ir.specs.declared.types.Dim.{Dim}
use Rattle.sh_ir.specs.Numbers.{as_naturals}
use Rattle.sh_ir.specs.Shapes.{extent_of}
use Rattle.sh_sem.specs.Slices.{Range}
use Rattle.sh_iface.specs.Meaning.{Meaning}
use Rattle.sh_iface_tensor.specs.declared.slices.SliceKind.{SliceKind}
use Rattle.sh_iface_tensor.specs.declared.slices.SliceKind.TheVariants.{Extract, Insert}
use Rattle.sh_iface_tensor.specs.Slices.{IsSliced, Sliced, extents_of, offsets_of, sizes_of, sliced_meaning, strides_of, written}

abbrev pub is_slice : OpKind → Bool
is_slice (ExtractSlice x) = true
is_slice (InsertSlice x) = true
is_slice _ = false

-- for each extent the range of these numbers
abbrev pub ranges_from : List ℕ → List ℕ → List ℕ → List ℕ → List Range
ranges_from (n ∷ extents) (o ∷ offsets) (k ∷ sizes) (t ∷ strides) =
    record { extent = n; offset = o; size = k; stride = t }
    ∷ ranges_from extents offsets sizes strides
ranges_from _ _ _ _ = []

-- the slice of a tensor with these dimensions
abbrev pub sliced_by : SliceKind → Slice → List Dim → Width → Place → Sliced
sliced_by kind slice dims width place = record {
  what = kind;
  ranges = ranges_from (map extent_of dims) (as_naturals slice.offsets) (as_naturals slice.sizes)
      (as_naturals slice.strides);
  width = width;
  place = place;
}

-- what it means
abbrev pub meaning_by : SliceKind → Slice → List Dim → Width → Place → Meaning
meaning_by kind slice dims width place = sliced_meaning (sliced_by kind slice dims width place)

-- The slice is in order, and has the extents and the numbers that are written.
pub record IsSliceRead (kind : SliceKind) (slice : Slice) (dims : List Dim) (width : Width)
    (place : Place) : Type 0 where
  pub sliced : IsSliced (sliced_by kind slice dims width place)
  pub extents : extents_of (sliced_by kind slice dims width place).ranges ≡ map extent_of dims
  pub offsets : written (offsets_of (sliced_by kind slice dims width place).ranges) ≡ slice.offsets
  pub sizes : written (sizes_of (sliced_by kind slice dims width place).ranges) ≡ slice.sizes
  pub strides : written (strides_of (sliced_by kind slice dims width place).ranges) ≡ slice.strides

-- which of its values is the tensor that is sliced
abbrev pub is_sliced : SliceKind → ℕ → Bool
is_sliced Extract zero = true
is_sliced Extract (suc v) = false
is_sliced Insert zero = false
is_sliced Insert (suc v) = true

-- of the first operand the dimensions that are taken whole follow a loop, of other values all
abbrev pub follows_at : (ℕ → Bool) → ℕ → ℕ → Bool
follows_at whole zero i = whole i
follows_at whole (suc v) i = true
