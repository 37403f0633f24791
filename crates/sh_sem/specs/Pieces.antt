-- Pieces of tensors along one dimension: what a device keeps of its tensor, puts round it, or
-- joins.
use Rattle.std.specs.Prelude.{ℕ, ◌+◌, ◌-◌, ◌*◌, ◌/◌, ◌%◌, ◌==◌, Bool, true, ◌&&◌, List, [], ◌∷◌, get_or, set, nat_le, nat_lt, nat_eq, Option, Some, None, option_map, if◌then◌else◌}
use Rattle.std.specs.List.{list_all}
use Rattle.std.specs.Cmp.Lexicographic.{pointwise}
use Rattle.sh_base.specs.declared.numbers.Cell.{Cell}
use Rattle.sh_base.specs.declared.numbers.Cell.TheVariants.{Undef}
use Rattle.sh_tensor.specs.Tensor.{TensorValue, at}

-- ---- one piece

pub record Piece : Type 0 where
  pub start : ℕ
  pub size : ℕ

-- piece p of n pieces of one size, if n divides the extent
abbrev pub equal_piece : ℕ → ℕ → ℕ → Option Piece
equal_piece n p extent =
    if nat_lt 0 n && (extent % n == 0)
    then Some (record { start = p * (extent / n); size = extent / n })
    else None

-- the piece with the listed start and size at place p, if it lies within the extent
abbrev pub listed_piece : List ℕ → List ℕ → ℕ → ℕ → Option Piece
listed_piece starts sizes p extent =
    let piece : Piece = record { start = get_or starts p 0; size = get_or sizes p 0 } in
    if nat_le (piece.start + piece.size) extent then Some piece else None

-- the shape with the piece in place of the dimension
abbrev pub piece_shape : ℕ → List ℕ → Option Piece → Option (List ℕ)
piece_shape axis shape piece = option_map (λ x. set shape axis x.size) piece

-- its cell at an index
abbrev pub piece_cell : ℕ → TensorValue → List ℕ → Option Piece → Option Cell
piece_cell axis t i piece = option_map (λ x. at t (set i axis (x.start + get_or i axis 0))) piece

-- ---- padding

-- so many cells at the start and at the end of each dimension
abbrev pub padded_shape : List ℕ → List ℕ → List ℕ → List ℕ
padded_shape (l ∷ low) (h ∷ high) (n ∷ shape) = (l + n + h) ∷ padded_shape low high shape
padded_shape _ _ _ = []

-- whether an index of the padded tensor is one of the tensor's own cells
abbrev pub is_own : List ℕ → List ℕ → List ℕ → Bool
is_own (l ∷ low) (n ∷ shape) (j ∷ i) = (nat_le l j && nat_lt j (l + n)) && is_own low shape i
is_own _ _ _ = true

abbrev pub without_padding : List ℕ → List ℕ → List ℕ
without_padding (l ∷ low) (j ∷ i) = (j - l) ∷ without_padding low i
without_padding _ _ = []

-- undefined outside of the tensor
abbrev pub padded_cell : List ℕ → TensorValue → List ℕ → Cell
padded_cell low t i = if is_own low t.shape i then at t (without_padding low i) else Undef

-- ---- joining

-- the shapes differ at most in their extents along the axis
abbrev pub is_like : ℕ → List ℕ → List ℕ → Bool
is_like axis s other = pointwise nat_eq (set s axis 0) (set other axis 0)

abbrev pub total_extent : ℕ → List (List ℕ) → ℕ
total_extent axis [] = 0
total_extent axis (s ∷ shapes) = get_or s axis 0 + total_extent axis shapes

-- the shape of tensors of these shapes one after the other along the axis
abbrev pub joined_shape : ℕ → List (List ℕ) → Option (List ℕ)
joined_shape axis [] = None
joined_shape axis (s ∷ shapes) =
    if list_all (is_like axis s) shapes
    then Some (set s axis (total_extent axis (s ∷ shapes)))
    else None

-- ---- shapes that are one

abbrev pub common_shape : List (List ℕ) → Option (List ℕ)
common_shape [] = None
common_shape (s ∷ shapes) = if list_all (pointwise nat_eq s) shapes then Some s else None
