-- Element operations: cell by cell, on any number of operands of one shape, all of which are split
-- alike.
use Rattle.std.specs.Prelude.{◌≡◌, ◌≤◌, ℕ, Bool, true, List, [], ◌∷◌, length, map, nat_eq, Some, None}
use Rattle.std.specs.List.{range_with_len}
use Rattle.sh_base.specs.Cells.{bits_of}
use Rattle.sh_base.specs.declared.numbers.Width.{Width}
use Rattle.sh_base.specs.declared.numbers.Width.TheVariants.{I1}
use Rattle.sh_base.specs.declared.operations.BinOp.{BinOp}
use Rattle.sh_base.specs.declared.operations.CastOp.{CastOp}
use Rattle.sh_base.specs.declared.operations.Predicate.{Predicate}
use Rattle.sh_base.specs.declared.places.Place.{Place}
use Rattle.sh_base.specs.Shape.{max_cells, max_rank}
use Rattle.sh_grid.specs.Grid.{GridValue}
use Rattle.sh_ir.specs.declared.operations.Op.{Op}
use Rattle.sh_ir.specs.declared.operations.OpKind.{OpKind}
use Rattle.sh_ir.specs.declared.operations.OpKind.TheVariants.{Binary, Compare, Select, Cast}
use Rattle.sh_ir.specs.declared.types.Dim.{Dim}
use Rattle.sh_ir.specs.declared.types.Dim.TheVariants.{Known}
use Rattle.sh_ir.specs.declared.types.ValueType.{ValueType}
use Rattle.sh_ir.specs.declared.types.ValueType.TheVariants.{Tensor}
use Rattle.sh_ir.specs.Results.{changes_bits}
use Rattle.sh_sem.specs.Given.{alone, given}
use Rattle.sh_sem.specs.Scalars.{Formula, binary, compare, choice, cast}
use Rattle.sh_sharding.specs.LocalTypes.{local_dims}
use Rattle.sh_sharding.specs.Sharding.{ShardingValue, counted_cells}
use Rattle.sh_iface.specs.declared.parts.LocalPart.{LocalPart}
use Rattle.sh_iface.specs.LoopNest.{LoopNest, NestValue}
use Rattle.sh_iface.specs.Meaning.{Meaning}
use Rattle.sh_iface.specs.Splits.{OptionValue, implied_of}
use Rattle.sh_iface.specs.Table.{always, each_follows, loops_where}

-- what an element operation does
pub data What : Type 0 where
  by_operation : BinOp → What
  by_predicate : Predicate → Width → What  -- on operands of the width
  by_choice : What
  by_cast : CastOp → Width → What  -- from the width

pub record Element : Type 0 where
  pub what : What
  pub width : Width  -- of the result
  pub shape : List ℕ
  pub place : Place

-- the formula of its cells
abbrev pub formula_by : What → Width → Formula
formula_by (by_operation op) w = binary op w
formula_by (by_predicate p v) w = compare p v
formula_by by_choice w = choice
formula_by (by_cast op v) w = cast op v w

-- the widths of its operands
abbrev pub widths_by : What → Width → List Width
widths_by (by_operation op) w = w ∷ w ∷ []
widths_by (by_predicate p v) w = v ∷ v ∷ []
widths_by by_choice w = I1 ∷ w ∷ w ∷ []
widths_by (by_cast op v) w = v ∷ []

-- the widths of operands and result go together
abbrev pub fits_width : What → Width → Bool
fits_width (by_operation op) w = true
fits_width (by_predicate p v) w = nat_eq (bits_of w) 1
fits_width by_choice w = true
fits_width (by_cast op v) w = changes_bits op (bits_of v) (bits_of w)

-- one that keeps the limits, and whose widths go together
pub record IsElement (e : Element) : Type 0 where
  pub fits : fits_width e.what e.width ≡ true
  pub short : length e.shape ≤ max_rank
  pub small : counted_cells e.shape ≤ max_cells

-- ---- as an operation on tensors of these extents

abbrev pub tensor_of : List Dim → Width → ValueType
tensor_of dims w = Tensor (record { dims = dims; width = w })

abbrev pub kind_at : List Dim → What → OpKind
kind_at dims (by_operation op) = Binary op
kind_at dims (by_predicate p v) =
    Compare (record { predicate = p; operand_type = tensor_of dims v })
kind_at dims by_choice = Select (record { condition_type = tensor_of dims I1 })
kind_at dims (by_cast op v) = Cast (record { op = op; operand_type = tensor_of dims v })

-- its operands are named 0, 1, .., and then comes its value
abbrev pub op_at : Element → List Dim → Op
op_at e dims = record {
  kind = kind_at dims e.what;
  operands = range_with_len 0 (length (widths_by e.what e.width));
  defines = Some (length (widths_by e.what e.width));
  result = tensor_of dims e.width;
  place = e.place;
}

abbrev pub known_dims : List ℕ → List Dim
known_dims shape = map (λ n. Known n) shape

-- ---- its interface

abbrev pub element_value : List ℕ → Width → NestValue
element_value shape w = record { dims = each_follows 0 shape; width = w }

unfoldable pub element_nest : Element → LoopNest
element_nest e = record {
  loops = loops_where always 0 e.shape;
  operands = map (element_value e.shape) (widths_by e.what e.width);
  result = element_value e.shape e.width;
}

-- how all its values are split
abbrev pub element_sharding : Element → GridValue → OptionValue → ShardingValue
element_sharding e g o = implied_of g (element_nest e) o (element_value e.shape e.width)

abbrev pub element_part : Element → GridValue → OptionValue → LocalPart
element_part e g o =
    record { ops = op_at e (local_dims (element_sharding e g o)) ∷ []; combine = None }

abbrev pub element_meaning : Element → Meaning
element_meaning e = record {
  nest = element_nest e;
  scalars = [];
  whole = given (op_at e (known_dims e.shape)) alone;
  place = e.place;
  part = element_part e;
}

-- an operation that is this element operation on whole tensors
pub record IsElementOf (op : Op) (e : Element) : Type 0 where
  pub element : IsElement e
  pub kind : op.kind ≡ kind_at (known_dims e.shape) e.what
  pub result : op.result ≡ tensor_of (known_dims e.shape) e.width
  pub place : e.place ≡ op.place
  pub operands : length op.operands ≡ length (widths_by e.what e.width)

-- it is one of the element operations
pub record IsSomeElement (op : Op) : Type 0 where
  pub e : Element
  pub is : IsElementOf op e
