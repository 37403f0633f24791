-- What operations on scalars give: the element operations on tensors and the operations of a region
-- are made of these.
use Rattle.std.specs.Prelude.{ℕ, ◌==◌, List, [], ◌∷◌, Option, Some, None, slice_get, if◌then◌else◌}
use Rattle.sh_base.specs.declared.numbers.Cell.{Cell}
use Rattle.sh_base.specs.declared.numbers.Cell.TheVariants.{Undef, Val}
use Rattle.sh_base.specs.declared.numbers.Width.{Width}
use Rattle.sh_base.specs.declared.numbers.Width.TheVariants.{I1}
use Rattle.sh_base.specs.declared.operations.BinOp.{BinOp}
use Rattle.sh_base.specs.declared.operations.CastOp.{CastOp}
use Rattle.sh_base.specs.declared.operations.Predicate.{Predicate}
use Rattle.sh_int.specs.Elements.{element_of, comparison_of, cast_of}
use Rattle.sh_ir.specs.declared.arith_ops.Contents.{Contents}
use Rattle.sh_ir.specs.declared.arith_ops.Contents.TheVariants.{Held, Broken}
use Rattle.sh_ir.specs.declared.types.ValueType.{ValueType}
use Rattle.sh_ir.specs.declared.types.ValueType.TheVariants.{Nothing, Scalar, Tensor, Sharding, Index}

-- an element operation with the widths at which it works
pub data Formula : Type 0 where
  binary : BinOp → Width → Formula
  compare : Predicate → Width → Formula
  choice : Formula
  cast : CastOp → Width → Width → Formula  -- from the first width to the second

-- ---- so many cells

abbrev pub on_one : (Cell → Option Cell) → List Cell → Option Cell
on_one f (a ∷ []) = f a
on_one f cells = None

abbrev pub on_two : (Cell → Cell → Option Cell) → List Cell → Option Cell
on_two f (a ∷ b ∷ []) = f a b
on_two f cells = None

abbrev pub on_three : (Cell → Cell → Cell → Option Cell) → List Cell → Option Cell
on_three f (a ∷ b ∷ c ∷ []) = f a b c
on_three f cells = None

-- ---- formulas

-- the second cell where the condition holds, the third where it doesn't; an undefined condition
-- chooses neither
abbrev pub chosen : Cell → Cell → Cell → Cell
chosen Undef a b = Undef
chosen (Val n) a b = if n == 0 then b else a

-- None: it is stuck
unfoldable pub formula_cell : Formula → List Cell → Option Cell
formula_cell (binary op w) cells = on_two (element_of op w) cells
formula_cell (compare p w) cells = on_two (λ a b. Some (comparison_of p w a b)) cells
formula_cell choice cells = on_three (λ c a b. Some (chosen c a b)) cells
formula_cell (cast op from to) cells = on_one (λ a. Some (cast_of op from to a)) cells

-- ---- constants

-- The cell with this row-major number. One cell that is held fills the tensor.
abbrev pub held_cell : List Cell → ℕ → Option Cell
held_cell [] k = None
held_cell (c ∷ []) k = Some c
held_cell (c ∷ d ∷ cells) k = slice_get (c ∷ d ∷ cells) k

-- a broken literal has none
abbrev pub constant_cell : Contents → ℕ → Option Cell
constant_cell Broken k = None
constant_cell (Held cells) k = held_cell cells k

-- ---- types

-- the width of a type's cells; of a type without cells any
abbrev pub width_of : ValueType → Width
width_of (Tensor t) = t.width
width_of (Scalar w) = w
width_of Nothing = I1
width_of Sharding = I1
width_of Index = I1
