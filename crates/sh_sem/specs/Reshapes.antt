-- Reshapes: the same cells in row-major order, under fewer or more dimensions.
use Rattle.std.specs.Prelude.{ℕ, Bool, ◌/◌, ◌%◌, ◌==◌, ◌&&◌, List, [], ◌∷◌, ◌++◌, map, length, filter, get_or, nat_lt, Option, Some, None, option_map, option_and_then, if◌then◌else◌, ℤ}
use Rattle.std.specs.List.{list_all}
use Rattle.sh_base.specs.declared.numbers.Cell.{Cell}
use Rattle.sh_base.specs.declared.numbers.Cell.TheVariants.{Undef}
use Rattle.sh_base.specs.Shape.{cell_count, flat_of}
use Rattle.sh_ir.specs.declared.types.Dim.{Dim}
use Rattle.sh_ir.specs.declared.types.Dim.TheVariants.{Known, Differs}
use Rattle.sh_ir.specs.Agreement.{differs}
use Rattle.sh_ir.specs.Numbers.{as_naturals}
use Rattle.sh_tensor.specs.Tensor.{TensorValue}

-- ---- collapse_shape

-- the extents of the listed dimensions
abbrev pub extents_at : List ℕ → List ℕ → List ℕ
extents_at shape group = map (λ dim. get_or shape dim 0) group

-- Each dimension of the result is a group's. Without groups the tensor is one cell.
abbrev pub collapsed_shape : List (List ℤ) → List ℕ → Option (List ℕ)
collapsed_shape [] shape = if list_all (λ n. n == 1) shape then Some [] else None
collapsed_shape (group ∷ groups) shape =
    Some (map (λ dims. cell_count (extents_at shape (as_naturals dims))) (group ∷ groups))

-- ---- expand_shape

-- the extents that a group's dimensions have, an open one this extent
abbrev pub with_open : ℕ → List Dim → List ℕ
with_open n [] = []
with_open n (Known m ∷ dims) = m ∷ with_open n dims
with_open n (Differs ∷ dims) = n ∷ with_open n dims

-- the product of the extents that the type knows
abbrev pub known_product : List Dim → ℕ
known_product dims = cell_count (with_open 1 dims)

abbrev pub open_count : List Dim → ℕ
open_count dims = length (filter differs dims)

abbrev pub divides : ℕ → ℕ → Bool
divides m n = nat_lt 0 m && (n % m == 0)

-- The extents of a group whose source dimension has extent n. One open extent follows from the
-- others, if they divide n; several don't.
abbrev pub expanded_group : ℕ → List Dim → Option (List ℕ)
expanded_group n dims =
    if open_count dims == 0
    then (if known_product dims == n then Some (with_open 0 dims) else None)
    else if (open_count dims == 1) && divides (known_product dims) n
    then Some (with_open (n / known_product dims) dims)
    else None

-- the dimensions of the result type that a group lists
abbrev pub dims_at : List Dim → List ℕ → List Dim
dims_at dims group = map (λ dim. get_or dims dim Differs) group

abbrev pub expanded_groups : List Dim → List (List ℤ) → List ℕ → Option (List ℕ)
expanded_groups dims [] [] = Some []
expanded_groups dims [] (n ∷ shape) = None
expanded_groups dims (group ∷ groups) [] = None
expanded_groups dims (group ∷ groups) (n ∷ shape) =
    option_and_then (λ first.
    option_map (λ others. first ++ others) (expanded_groups dims groups shape))
    (expanded_group n (dims_at dims (as_naturals group)))

-- Of a tensor of rank 0 each open extent is 1.
abbrev pub expanded_shape : List Dim → List (List ℤ) → List ℕ → Option (List ℕ)
expanded_shape dims [] [] = if known_product dims == 1 then Some (with_open 1 dims) else None
expanded_shape dims [] (n ∷ shape) = None
expanded_shape dims (group ∷ groups) shape = expanded_groups dims (group ∷ groups) shape

-- ---- both

-- the cell with the row-major number that the index has in the new shape
abbrev pub reshaped_cell : TensorValue → List ℕ → List ℕ → Cell
reshaped_cell t shape i = get_or t.cells (flat_of shape i) Undef
