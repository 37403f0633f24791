-- Steps that have a kind: sums of products, and regions.
use Rattle.std.specs.Prelude.{List, [], ◌∷◌, ◌++◌, Option, None, option_and_then}
use Rattle.sh_base.specs.declared.numbers.Cell.{Cell}
use Rattle.sh_base.specs.declared.numbers.Width.{Width}
use Rattle.sh_base.specs.declared.operations.BinOp.TheVariants.{Addi, Muli}
use Rattle.sh_base.specs.declared.operations.CastOp.TheVariants.{Extsi}
use Rattle.sh_int.specs.Elements.{cast_of, element_of}
use Rattle.sh_sem.specs.Region.{PlacedBody, region_cell}

-- the product of two cells of these widths, extended by sign to the width w
abbrev pub product_of : Width → Width → Width → List Cell → Option Cell
product_of v u w (a ∷ b ∷ []) = element_of Muli w (cast_of Extsi v w a) (cast_of Extsi u w b)
product_of v u w [] = None
product_of v u w (a ∷ []) = None
product_of v u w (a ∷ b ∷ c ∷ cells) = None

-- matmul, batch_matmul, matvec, vecmat and dot add it
abbrev pub adding_products : Width → Width → Width → List Cell → List Cell → Cell → Option Cell
adding_products v u w scalars cells so_far =
    option_and_then (element_of Addi w so_far) (product_of v u w cells)

-- what a region yields of the captured scalars, the input cells and the value so far, where it
-- doesn't ask for the loop point
abbrev pub yielding : PlacedBody → List Cell → List Cell → Cell → Option Cell
yielding body scalars cells so_far = region_cell body [] (scalars ++ cells ++ so_far ∷ [])
