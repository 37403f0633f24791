-- Tensors: a shape, a width, and one cell for each index of the shape.
use Rattle.std.specs.Prelude.{◌≡◌, ℕ, ◌+◌, ◌-◌, ◌<◌, ◌≤◌, List, [], ◌∷◌, length, map, get_or, set, nat_lt, if◌then◌else◌}
use Rattle.std.specs.List.{range_with_len, AllByRecursion}
use Rattle.sh_base.specs.declared.numbers.Cell.{Cell}
use Rattle.sh_base.specs.declared.numbers.Cell.TheVariants.{Undef}
use Rattle.sh_base.specs.declared.numbers.Width.{Width}
use Rattle.sh_base.specs.declared.numbers.Width.TheVariants.{I1}
use Rattle.sh_base.specs.Cells.{IsCellOf}
use Rattle.sh_base.specs.Shape.{cell_count, max_cells, IsIndexOf, flat_of, unflat_of}

-- a tensor as contracts see it, its cells in row-major order
pub record TensorValue : Type 0 where
  pub shape : List ℕ
  pub width : Width
  pub cells : List Cell

-- the cell at an index
unfoldable pub at : TensorValue → List ℕ → Cell
at t i = get_or t.cells (flat_of t.shape i) Undef

-- one cell of the width for each index
pub record IsTensor (t : TensorValue) : Type 0 where
  pub counted : length t.cells ≡ cell_count t.shape
  pub fitting : (i : List ℕ) → IsIndexOf t.shape i → IsCellOf t.width (at t i)

-- what holds of a tensor in memory
pub record IsHeld (t : TensorValue) : Type 0 where
  pub whole : IsTensor t
  pub small : cell_count t.shape ≤ max_cells

-- the cells that f gives at the indices of a shape, in row-major order
unfoldable pub cells_of : List ℕ → (List ℕ → Cell) → List Cell
cells_of s f = map (λ k. f (unflat_of s k)) (range_with_len 0 (cell_count s))

-- the tensor with the cell f i at each index i
abbrev pub build : List ℕ → Width → (List ℕ → Cell) → TensorValue
build s w f = record { shape = s; width = w; cells = cells_of s f }

-- the extent along an axis
abbrev pub extent : TensorValue → ℕ → ℕ
extent t axis = get_or t.shape axis 0

-- the part of a tensor from start on, of the given size along the axis
abbrev pub slice_of : TensorValue → ℕ → ℕ → ℕ → TensorValue
slice_of t axis start size =
    build (set t.shape axis size) t.width (λ i. at t (set i axis (start + get_or i axis 0)))

-- the extents along the axis together
abbrev pub joined_extent : ℕ → List TensorValue → ℕ
joined_extent axis [] = 0
joined_extent axis (t ∷ ts) = extent t axis + joined_extent axis ts

-- The cell at an index of tensors that stand one after the other along the axis: of the first where
-- the index lies in it, else of the others at the index without the first's extent.
abbrev pub joined_at : ℕ → List TensorValue → List ℕ → Cell
joined_at axis [] i = Undef
joined_at axis (t ∷ ts) i =
    if nat_lt (get_or i axis 0) (extent t axis) then at t i else joined_at axis ts (set i axis (get_or i axis 0 - extent t axis))

-- the shape of tensors joined along the axis
abbrev pub joined_shape : ℕ → List TensorValue → List ℕ
joined_shape axis [] = []
joined_shape axis (t ∷ ts) = set t.shape axis (joined_extent axis (t ∷ ts))

-- the tensors one after the other along the axis, of which there is at least one
abbrev pub concat_of : List TensorValue → ℕ → TensorValue
concat_of [] axis = build [] I1 (λ i. Undef)
concat_of (t ∷ ts) axis = build (joined_shape axis (t ∷ ts)) t.width (joined_at axis (t ∷ ts))

-- the tensors differ at most in their extents along the axis, which the second has
pub record IsLike (axis : ℕ) (t u : TensorValue) : Type 0 where
  pub ranked : axis < length u.shape
  pub width : u.width ≡ t.width
  pub others : set u.shape axis 0 ≡ set t.shape axis 0

-- there is a tensor, and the others differ from it at most in their extents along the axis
abbrev pub CanJoin : ℕ → List TensorValue → Type 0
CanJoin axis [] = ⊥
CanJoin axis (t ∷ ts) = AllByRecursion (IsLike axis t) (t ∷ ts)

-- the same cells, in row-major order, under another shape
abbrev pub reshape_of : TensorValue → List ℕ → TensorValue
reshape_of t s = record t { shape = s }
