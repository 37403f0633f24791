-- The element operations in memory, and the widths at which they work.
use Rattle.std.specs.Prelude.{◌≡◌, ℕ, List, drop, map, get_or, Option}
use Rattle.std.specs.List.{AllByRecursion}
use Rattle.sh_base.specs.declared.numbers.Cell.{Cell}
use Rattle.sh_base.specs.declared.numbers.Cell.TheVariants.{Undef}
use Rattle.sh_base.specs.declared.numbers.Width.{Width}
use Rattle.sh_base.specs.declared.numbers.Width.TheVariants.{I1}
use Rattle.sh_loops.specs.declared.formulas.Formula as declared
use Rattle.sh_loops.specs.declared.formulas.Formula.TheVariants.{Binary, Compare, Choice, Cast}
use Rattle.sh_int.specs.Elements.{CanCast}
use Rattle.sh_tensor.specs.Tensor.{TensorValue}
use Rattle.sh_sem.specs.Given.{built_of, gives_cells}
use Rattle.sh_sem.specs.Scalars.{Formula, binary, compare, choice, cast, formula_cell}

-- what a formula in memory stands for
abbrev pub formula_of : declared.Formula → Formula
formula_of (Binary op w) = binary op w
formula_of (Compare p w) = compare p w
formula_of (Choice w) = choice
formula_of (Cast op from to) = cast op from to

-- the width of the operands, but for the condition of a choice
abbrev pub operand_width : declared.Formula → Width
operand_width (Binary op w) = w
operand_width (Compare p w) = w
operand_width (Choice w) = w
operand_width (Cast op from to) = from

-- the width of what it gives
abbrev pub result_width : declared.Formula → Width
result_width (Binary op w) = w
result_width (Compare p w) = I1
result_width (Choice w) = w
result_width (Cast op from to) = to

-- a cast goes the way that its name says
abbrev pub CanApply : declared.Formula → Type 0
CanApply (Binary op w) = Unit {0}
CanApply (Compare p w) = Unit {0}
CanApply (Choice w) = Unit {0}
CanApply (Cast op from to) = CanCast op from to

-- of a choice the condition is of any width
abbrev pub measured : declared.Formula → List Cell → List Cell
measured (Binary op w) cells = cells
measured (Compare p w) cells = cells
measured (Choice w) cells = drop 1 cells
measured (Cast op from to) cells = cells

-- what a formula gives of the cells with number k
unfoldable pub formula_at : Formula → List (List Cell) → ℕ → Option Cell
formula_at formula operands k = formula_cell formula (map (λ cells. get_or cells k Undef) operands)

-- it works on operands of these widths, the condition of a choice apart
pub record WorksOn (formula : declared.Formula) (widths : List Width) : Type 0 where
  pub can : CanApply formula
  pub operands : AllByRecursion (λ w. w ≡ operand_width formula) widths

-- the tensor that a formula gives of tensors of this shape
unfoldable pub formula_value : declared.Formula → List ℕ → List TensorValue → Option TensorValue
formula_value formula shape ts =
    built_of shape (result_width formula) ((gives_cells (formula_of formula)).cell ts shape)
