-- How a literal is held.
use Rattle.std.specs.Prelude.{ℕ, ◌*◌, ◌^◌, List, [], ◌∷◌, Option, Some, None, Bool, true, false, not, ◌&&◌, ◌||◌, nat_eq, nat_lt, length, if◌then◌else◌}
use Rattle.std.specs.List.{list_all, list_any}
use Rattle.std.specs.Option.{option_map_or}
use Rattle.sh_base.specs.Cells.{bits_of}
use Rattle.sh_base.specs.declared.numbers.Width.{Width}
use Rattle.sh_base.specs.declared.numbers.Cell.{Cell}
use Rattle.sh_base.specs.declared.numbers.Cell.TheVariants.{Undef, Val}
use Rattle.sh_ir.specs.declared.types.Dim.{Dim}
use Rattle.sh_ir.specs.declared.types.Dim.TheVariants.{Known, Differs}
use Rattle.sh_ir.specs.declared.types.ValueType.{ValueType}
use Rattle.sh_ir.specs.declared.types.ValueType.TheVariants.{Nothing, Scalar, Tensor, Sharding, Index}
use Rattle.sh_ir.specs.declared.arith_ops.Constant.{Constant}
use Rattle.sh_ir.specs.declared.arith_ops.Contents.{Contents}
use Rattle.sh_ir.specs.declared.arith_ops.Contents.TheVariants.{Held, Broken}

-- a number of the width; no literal writes an undefined cell
abbrev pub is_literal_cell : Width → Cell → Bool
is_literal_cell w Undef = false
is_literal_cell w (Val v) = nat_lt v (2 ^ bits_of w)

abbrev pub is_zero : Dim → Bool
is_zero (Known n) = nat_eq n 0
is_zero Differs = false

-- the number of cells, where each extent is known
abbrev pub known_count : List Dim → Option ℕ
known_count [] = Some 1
known_count (Differs ∷ ds) = None
known_count (Known n ∷ ds) = option_map_or (λ count. Some (n * count)) (known_count ds) None

abbrev pub same_cell : Cell → Cell → Bool
same_cell Undef Undef = true
same_cell (Val v) (Val w) = nat_eq v w
same_cell _ _ = false

abbrev pub are_equal : List Cell → Bool
are_equal [] = true
are_equal (c ∷ cs) = list_all (same_cell c) cs

-- one cell that fills the tensor, or all cells where they differ
abbrev pub are_short : List Dim → List Cell → Bool
are_short dims cells =
    nat_eq (length cells) 1
    || (option_map_or (nat_eq (length cells)) (known_count dims) false && not (are_equal cells))

-- no cell where an extent is 0
abbrev pub fills : List Dim → List Cell → Bool
fills dims cells =
    if list_any is_zero dims then nat_eq (length cells) 0 else are_short dims cells

-- whether these cells are held as those of a literal of this type are
abbrev pub are_held : ValueType → List Cell → Bool
are_held (Scalar w) cells = nat_eq (length cells) 1 && list_all (is_literal_cell w) cells
are_held (Tensor t) cells = fills t.dims cells && list_all (is_literal_cell t.width) cells
are_held Nothing cells = false
are_held Sharding cells = false
are_held Index cells = false

abbrev pub is_held : Constant → Bool
is_held c = elim c.contents [ Broken ↦ true | Held cells ↦ are_held c.value_type cells ]

abbrev pub is_broken : Contents → Bool
is_broken Broken = true
is_broken (Held cells) = false

-- whether a literal of this type can be written `dense<..>`; that of a scalar type is broken
abbrev pub can_be_dense : ValueType → Contents → Bool
can_be_dense (Tensor t) contents = true
can_be_dense (Scalar w) contents = is_broken contents
can_be_dense Nothing contents = false
can_be_dense Sharding contents = false
can_be_dense Index contents = false

abbrev pub is_dense : Constant → Bool
is_dense c = can_be_dense c.value_type c.contents
