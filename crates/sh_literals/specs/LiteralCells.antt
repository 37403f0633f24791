-- What a literal holds, by its type.
use Rattle.std.specs.Prelude.{ℕ, suc, ◌+◌, ◌-◌, ◌*◌, ◌/◌, ◌%◌, ◌^◌, ℤ, pos, List, [], ◌∷◌, ◌++◌, map, take, drop, length, slice_get, int_lt, unsigned_abs, Option, Some, None, option_map, option_and_then, Bool, true, false, ◌&&◌, ◌||◌, nat_eq, nat_le, nat_lt, if◌then◌else◌, codes}
use Rattle.std.specs.List.{list_any, starts_with, range_with_len}
use Rattle.std.specs.Option.{option_map_or}
use Rattle.std.specs.Cmp.Lexicographic.{pointwise}
use Rattle.sh_base.specs.Cells.{bits_of}
use Rattle.sh_base.specs.declared.numbers.Cell.{Cell}
use Rattle.sh_base.specs.declared.numbers.Cell.TheVariants.{Val}
use Rattle.sh_base.specs.declared.numbers.Width.{Width}
use Rattle.sh_base.specs.declared.numbers.Width.TheVariants.{I1, I8, I16, I32, I64}
use Rattle.sh_ir.specs.Literals.{are_equal, is_zero, known_count}
use Rattle.sh_ir.specs.declared.arith_ops.Constant.{Constant}
use Rattle.sh_ir.specs.declared.arith_ops.Contents.{Contents}
use Rattle.sh_ir.specs.declared.arith_ops.Contents.TheVariants.{Held, Broken}
use Rattle.sh_ir.specs.declared.types.Dim.{Dim}
use Rattle.sh_ir.specs.declared.types.Dim.TheVariants.{Known}
use Rattle.sh_ir.specs.declared.types.TensorType.{TensorType}
use Rattle.sh_ir.specs.declared.types.ValueType.{ValueType}
use Rattle.sh_ir.specs.declared.types.ValueType.TheVariants.{Nothing, Scalar, Tensor, Sharding, Index}
use Rattle.sh_literals.specs.declared.literals.Element.{Element}
use Rattle.sh_literals.specs.declared.literals.Element.TheVariants.{Number, Truth}
use Rattle.sh_literals.specs.declared.literals.Literal.{Literal}
use Rattle.sh_literals.specs.declared.literals.Literal.TheVariants.{Empty, Nested, Ragged, Quoted}
use Rattle.sh_literals.specs.declared.literals.Nested as nested

-- ## Lists in lists

abbrev pub single : Element → Literal
single e = Nested (record { extents = []; elements = e ∷ [] })

-- the list of no items
abbrev pub no_list : Literal
no_list = Nested (record { extents = 0 ∷ []; elements = [] })

-- a list with one more item in front: an item of the shape of the others
abbrev pub list_of : nested.Nested → nested.Nested → ℕ → List ℕ → Literal
list_of item items count extents =
    if nat_eq count 0 || pointwise nat_eq extents item.extents
    then Nested (record { extents = suc count ∷ item.extents; elements = item.elements ++ items.elements })
    else Ragged

-- the same, where the list has so many items, or is no list
abbrev pub list_in_front : nested.Nested → nested.Nested → Option ℕ → Literal
list_in_front item items None = Ragged
list_in_front item items (Some count) = list_of item items count (drop 1 items.extents)

abbrev pub in_front : Literal → Literal → Literal
in_front (Nested item) (Nested items) = list_in_front item items (slice_get items.extents 0)
in_front _ _ = Ragged

-- ## Cells

-- so much below zero: at most half of two to the width
abbrev pub below_zero : Width → ℕ → Option Cell
below_zero w n = if nat_le n (2 ^ (bits_of w - 1)) then Some (Val (2 ^ bits_of w - n)) else None

abbrev pub from_zero : Width → ℕ → Option Cell
from_zero w n = if nat_lt n (2 ^ bits_of w) then Some (Val n) else None

-- a number from minus half of two to the width on, and below two to the width, taken modulo that
abbrev pub number_cell : Width → ℤ → Option Cell
number_cell w z =
    if int_lt z (pos 0) then below_zero w (unsigned_abs z) else from_zero w (unsigned_abs z)

-- `true` and `false` are of `i1` alone
abbrev pub truth_cell : Width → Bool → Option Cell
truth_cell I1 b = Some (Val (if b then 1 else 0))
truth_cell I8 b = None
truth_cell I16 b = None
truth_cell I32 b = None
truth_cell I64 b = None

abbrev pub cell_of : Width → Element → Option Cell
cell_of w (Number z) = number_cell w z
cell_of w (Truth b) = truth_cell w b

-- all of them, where each is one
abbrev pub all_of : {X : Type 0} → List (Option X) → Option (List X)
all_of [] = Some []
all_of (Some x ∷ xs) = option_map (λ ys. x ∷ ys) (all_of xs)
all_of (None ∷ xs) = None

abbrev pub cells_of : Width → List Element → Option (List Cell)
cells_of w elements = all_of (map (cell_of w) elements)

-- ## Strings

abbrev pub is_between : ℕ → ℕ → ℕ → Bool
is_between low high b = nat_le low b && nat_le b high

-- the value of a hexadecimal digit
abbrev pub hex_value : ℕ → Option ℕ
hex_value b =
    if is_between 48 57 b then Some (b - 48)
    else (if is_between 97 102 b then Some (b - 87)
    else (if is_between 65 70 b then Some (b - 55) else None))

-- digits in pairs, the high one first
abbrev pub paired : List ℕ → Option (List ℕ)
paired [] = Some []
paired (high ∷ []) = None
paired (high ∷ low ∷ digits) = option_map (λ bytes. (high * 16 + low) ∷ bytes) (paired digits)

-- the bytes of `0x` and pairs of hexadecimal digits
abbrev pub bytes_of : List ℕ → Option (List ℕ)
bytes_of text =
    if starts_with nat_eq text (codes "0x")
    then option_and_then paired (all_of (map hex_value (drop 2 text)))
    else None

-- the number whose bytes these are, the low one first
abbrev pub little_endian : List ℕ → ℕ
little_endian [] = 0
little_endian (byte ∷ bytes) = little_endian bytes * 256 + byte

-- the cells of so many bytes each
abbrev pub cells_of_bytes : ℕ → List ℕ → Option (List Cell)
cells_of_bytes size bytes =
    if nat_eq (length bytes % size) 0
    then Some (map (λ i. Val (little_endian (take size (drop (i * size) bytes))))
    (range_with_len 0 (length bytes / size)))
    else None

-- the cells of a string, of whole bytes each
abbrev pub quoted_cells : Width → List ℕ → Option (List Cell)
quoted_cells w text =
    if nat_eq (bits_of w) 1 then None
    else option_and_then (cells_of_bytes (bits_of w / 8)) (bytes_of text)

-- ## Contents

-- the type has no cells
abbrev pub has_none : List Dim → Bool
has_none dims = list_any is_zero dims

-- the extents of the type up to the first that is 0
abbrev pub are_extents : List Dim → List ℕ → Bool
are_extents [] [] = true
are_extents (Known n ∷ dims) (m ∷ extents) =
    nat_eq n m && (nat_eq n 0 || are_extents dims extents)
are_extents _ _ = false

-- one cell fills a tensor
abbrev pub fills_or_fits : List Dim → List ℕ → Bool
fills_or_fits dims extents = nat_eq (length extents) 0 || are_extents dims extents

-- one cell, or all
abbrev pub is_one_or_all : List Dim → ℕ → Bool
is_one_or_all dims count = nat_eq count 1 || option_map_or (nat_eq count) (known_count dims) false

-- none of a type without cells; one where all are equal
abbrev pub shortened : List Dim → List Cell → List Cell
shortened dims cells =
    if has_none dims then [] else (if are_equal cells then take 1 cells else cells)

-- these cells in their short form, if they fit
abbrev pub held : List Dim → Bool → Option (List Cell) → Contents
held dims fits cells =
    if fits then option_map_or (λ cells. Held (shortened dims cells)) cells Broken else Broken

abbrev pub tensor_contents : TensorType → Literal → Contents
tensor_contents t Empty = if has_none t.dims then Held [] else Broken
tensor_contents t (Nested n) = held t.dims (fills_or_fits t.dims n.extents) (cells_of t.width n.elements)
tensor_contents t Ragged = Broken
tensor_contents t (Quoted text) =
    let cells = quoted_cells t.width text in
    held t.dims (option_map_or (λ cells. is_one_or_all t.dims (length cells)) cells false) cells

-- what `dense<..>` holds: that of a type without dimensions of its own is broken
abbrev pub dense_contents : ValueType → Literal → Contents
dense_contents (Tensor t) literal = tensor_contents t literal
dense_contents (Scalar w) literal = Broken
dense_contents Nothing literal = Broken
dense_contents Sharding literal = Broken
dense_contents Index literal = Broken

abbrev pub dense : ValueType → Literal → Constant
dense t literal = record { value_type = t; contents = dense_contents t literal }

-- a constant of one element
abbrev pub scalar : Width → Element → Constant
scalar w e = record {
  value_type = Scalar w;
  contents = option_map_or (λ cell. Held (cell ∷ [])) (cell_of w e) Broken;
}
