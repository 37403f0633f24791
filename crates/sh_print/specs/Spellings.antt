-- How lists, numbers, types and cells are spelled, where every form that has one spells it so.
use Rattle.std.specs.Prelude.{ℕ, suc, ◌*◌, ◌/◌, ◌%◌, ◌^◌, ℤ, pos, negsuc, ◌-ℤ◌, unsigned_abs, if◌then◌else◌, nat_eq, nat_lt, List, [], ◌∷◌, ◌++◌, flat_map, replicate, reverse, codes, decimal}
use Rattle.sh_base.specs.Cells.{bits_of}
use Rattle.sh_base.specs.declared.numbers.Cell.{Cell}
use Rattle.sh_base.specs.declared.numbers.Cell.TheVariants.{Undef, Val}
use Rattle.sh_base.specs.declared.numbers.Width.{Width}
use Rattle.sh_base.specs.declared.numbers.Width.TheVariants.{I1, I8, I16, I32, I64}
use Rattle.sh_lex.specs.declared.tokens.TokenKind.TheVariants as kind
use Rattle.sh_ir.specs.Shapes.{shape_of}
use Rattle.sh_ir.specs.declared.arith_ops.Constant as constant
use Rattle.sh_ir.specs.declared.arith_ops.Contents.{Contents}
use Rattle.sh_ir.specs.declared.arith_ops.Contents.TheVariants.{Held, Broken}
use Rattle.sh_ir.specs.declared.types.Dim.{Dim}
use Rattle.sh_ir.specs.declared.types.Dim.TheVariants.{Known, Differs}
use Rattle.sh_ir.specs.declared.types.ValueType.{ValueType}
use Rattle.sh_ir.specs.declared.types.ValueType.TheVariants as type
use Rattle.sh_print.specs.Layout.{Piece}
use Rattle.sh_print.specs.Layout.Piece.{token}
use Rattle.sh_print.specs.Words.{width_word}
use Prim.Native.String.{String}

-- ---- tokens

abbrev pub word : String → Piece
word text = token kind.Word (codes text)

abbrev pub sign : String → Piece
sign text = token kind.Sign (codes text)

abbrev pub number : ℕ → Piece
number n = token kind.Number (decimal n)

abbrev pub extent : ℕ → Piece
extent n = token kind.Dim (decimal n ++ codes "x")

-- ---- lists

module _ {X : Type 0} where
  -- what stands behind the first item of a list: each item behind a comma
  abbrev pub rest_of_list : (X → List Piece) → List X → List Piece
  rest_of_list spelled items = flat_map (λ item. sign "," ∷ spelled item) items

  -- the items with commas between them
  abbrev pub list_of : (X → List Piece) → List X → List Piece
  list_of spelled [] = []
  list_of spelled (item ∷ items) = spelled item ++ rest_of_list spelled items

  unfoldable pub in_brackets : (X → List Piece) → List X → List Piece
  in_brackets spelled items = sign "[" ∷ list_of spelled items ++ sign "]" ∷ []

-- ---- numbers

abbrev pub minus : ℤ → List Piece
minus (pos n) = []
minus (negsuc n) = sign "-" ∷ []

abbrev pub num : ℤ → List Piece
num z = minus z ++ number (unsigned_abs z) ∷ []

abbrev pub nums : List ℤ → List Piece
nums = in_brackets num

abbrev pub lists : List (List ℤ) → List Piece
lists = in_brackets nums

-- ---- types

abbrev pub width : Width → Piece
width w = token kind.Word (width_word w)

abbrev pub dim : Dim → Piece
dim (Known n) = extent n
dim Differs = token kind.Dim (codes "?x")

-- an operation without a value has a type of no tokens
unfoldable pub type_pieces : ValueType → List Piece
type_pieces type.Nothing = []
type_pieces (type.Scalar w) = width w ∷ []
type_pieces (type.Tensor t) =
    word "tensor" ∷ sign "<" ∷ flat_map (λ d. dim d ∷ []) t.dims ++ width t.width ∷ sign ">" ∷ []
type_pieces type.Sharding = token kind.Bang (codes "!shard.sharding") ∷ []
type_pieces type.Index = word "index" ∷ []

-- the width of a type's cells; `i1` where it has none
abbrev pub cell_width : ValueType → Width
cell_width type.Nothing = I1
cell_width (type.Scalar w) = w
cell_width (type.Tensor t) = t.width
cell_width type.Sharding = I1
cell_width type.Index = I1

-- ---- cells

-- a number below a size, read as a signed one
abbrev pub signed_below : ℕ → ℕ → ℤ
signed_below size n = if nat_lt (2 * n) size then pos n else pos n -ℤ pos size

abbrev pub signed_value : Width → ℕ → ℤ
signed_value w n = signed_below (2 ^ bits_of w) n

unfoldable pub number_pieces : Width → ℕ → List Piece
number_pieces I1 n = (if nat_eq n 0 then word "false" else word "true") ∷ []
number_pieces I8 n = num (signed_value I8 n)
number_pieces I16 n = num (signed_value I16 n)
number_pieces I32 n = num (signed_value I32 n)
number_pieces I64 n = num (signed_value I64 n)

unfoldable pub cell_pieces : Width → Cell → List Piece
cell_pieces w Undef = word "undef" ∷ []
cell_pieces w (Val n) = number_pieces w n

-- How many lists begin at the cell with this number, by the extents from the innermost on. As many
-- end before it.
abbrev pub begun : List ℕ → ℕ → ℕ
begun [] at = 0
begun (n ∷ extents) at =
    if nat_eq n 0 then 0 else (if nat_eq (at % n) 0 then suc (begun extents (at / n)) else 0)

abbrev pub comma_before : ℕ → List Piece
comma_before at = if nat_eq at 0 then [] else sign "," ∷ []

-- the cell with this number, between the brackets that open before it and close behind it
unfoldable pub cell_between : List ℕ → Width → ℕ → Cell → List Piece
cell_between extents w at cell =
    comma_before at ++ replicate (begun extents at) (sign "[") ++ cell_pieces w cell
    ++ replicate (begun extents (suc at)) (sign "]")

-- the cells from this number on, in nested lists
abbrev pub cells_from : List ℕ → Width → ℕ → List Cell → List Piece
cells_from extents w at [] = []
cells_from extents w at (cell ∷ cells) =
    cell_between extents w at cell ++ cells_from extents w (suc at) cells

-- no cell, one that fills the tensor, or nested lists of all
unfoldable pub cells_pieces : List ℕ → Width → List Cell → List Piece
cells_pieces extents w [] = []
cells_pieces extents w (cell ∷ []) = cell_pieces w cell
cells_pieces extents w (cell ∷ next ∷ cells) = cells_from extents w 0 (cell ∷ next ∷ cells)

-- the cells of a literal; contents that don't fit have none that is defined
abbrev pub cells_in : Contents → List Cell
cells_in (Held cells) = cells
cells_in Broken = Undef ∷ []

unfoldable pub dense : ValueType → List Cell → List Piece
dense t cells =
    word "dense" ∷ sign "<" ∷ cells_pieces (reverse (shape_of t)) (cell_width t) cells
    ++ sign ">" ∷ []

-- a literal of a tensor, with its type
unfoldable pub dense_pieces : constant.Constant → List Piece
dense_pieces c = dense c.value_type (cells_in c.contents) ++ sign ":" ∷ type_pieces c.value_type
