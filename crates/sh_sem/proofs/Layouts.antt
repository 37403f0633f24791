-- What constants, element operations, slices and reshapes give, and the local operations of device
-- form, by computation.
use Rattle.std.proofs.Common.{◌≡◌, ℕ, List, [], ◌∷◌, refl}
use Rattle.std.specs.Prelude.{Some, None, pos}
use Rattle.sh_base.specs.declared.numbers.Cell.TheVariants.{Undef, Val}
use Rattle.sh_base.specs.declared.numbers.Width.TheVariants.{I1, I8, I32}
use Rattle.sh_base.specs.declared.operations.BinOp.TheVariants.{Addi, Divsi}
use Rattle.sh_base.specs.declared.operations.CastOp.TheVariants.{Extsi, Extui, Trunci}
use Rattle.sh_base.specs.declared.operations.Predicate.TheVariants.{Slt}
use Rattle.sh_int.specs.Elements.{element_of, cast_of, comparison_of}
use Rattle.sh_ir.specs.declared.arith_ops.Contents.TheVariants.{Held}
use Rattle.sh_ir.specs.declared.operations.OpKind.{OpKind}
use Rattle.sh_ir.specs.declared.operations.OpKind.TheVariants.{Constant, Binary, Compare, Select, Cast, Empty, ExtractSlice, InsertSlice, CollapseShape, ExpandShape, AllSlice, Take, Pad, Join}
use Rattle.sh_ir.specs.declared.types.Dim.TheVariants.{Known, Differs}
use Rattle.sh_ir.specs.declared.types.ValueType.{ValueType}
use Rattle.sh_ir.specs.declared.types.ValueType.TheVariants.{Tensor}
use Rattle.sh_ir.specs.Typing.{typing_of}
use Rattle.sh_tensor.specs.Tensor.{at, cells_of}
use Rattle.sh_sem.specs.Given.{Seat, given, shape_given, cell_given, giving, gives_constant, gives_undefined, gives_cells, gives_slice, gives_insertion, gives_collapse, gives_expansion, gives_piece, gives_padding, gives_join, built_of}
use Rattle.sh_sem.specs.Scalars.{formula_cell}
use Rattle.sh_sem.proofs.Samples.{type_of, tensor_type, open_type, tensor, tensor_in, op_with, gives}

-- ---- constants

abbrev constant : List ℕ → List ℕ → OpKind
constant shape numbers = Constant (record { value_type = type_of shape; contents = Held (tensor shape numbers).cells })

all_cells : gives (constant (2 ∷ 2 ∷ []) (1 ∷ 2 ∷ 3 ∷ 4 ∷ [])) [] (type_of (2 ∷ 2 ∷ [])) []
    ≡ Some (tensor (2 ∷ 2 ∷ []) (1 ∷ 2 ∷ 3 ∷ 4 ∷ []))
unfolding typing_of given shape_given cell_given giving gives_constant gives_undefined gives_cells gives_slice gives_insertion gives_collapse gives_expansion gives_piece gives_padding gives_join built_of formula_cell cells_of at element_of cast_of comparison_of
all_cells = refl

-- one cell fills the tensor
equal_cells : gives (constant (2 ∷ 2 ∷ []) (7 ∷ [])) [] (type_of (2 ∷ 2 ∷ [])) []
    ≡ Some (tensor (2 ∷ 2 ∷ []) (7 ∷ 7 ∷ 7 ∷ 7 ∷ []))
unfolding typing_of given shape_given cell_given giving gives_constant gives_undefined gives_cells gives_slice gives_insertion gives_collapse gives_expansion gives_piece gives_padding gives_join built_of formula_cell cells_of at element_of cast_of comparison_of
equal_cells = refl

no_cells : gives (constant (2 ∷ 0 ∷ []) []) [] (type_of (2 ∷ 0 ∷ [])) [] ≡ Some (tensor (2 ∷ 0 ∷ []) [])
unfolding typing_of given shape_given cell_given giving gives_constant gives_undefined gives_cells gives_slice gives_insertion gives_collapse gives_expansion gives_piece gives_padding gives_join built_of formula_cell cells_of at element_of cast_of comparison_of
no_cells = refl

-- a creator can't tell the extent that its type leaves open
open_creator : gives Empty [] open_type [] ≡ None
unfolding typing_of given shape_given cell_given giving gives_constant gives_undefined gives_cells gives_slice gives_insertion gives_collapse gives_expansion gives_piece gives_padding gives_join built_of formula_cell cells_of at element_of cast_of comparison_of
open_creator = refl

undefined_cells : gives Empty [] (type_of (2 ∷ [])) []
    ≡ Some (record { shape = 2 ∷ []; width = I32; cells = Undef ∷ Undef ∷ [] })
unfolding typing_of given shape_given cell_given giving gives_constant gives_undefined gives_cells gives_slice gives_insertion gives_collapse gives_expansion gives_piece gives_padding gives_join built_of formula_cell cells_of at element_of cast_of comparison_of
undefined_cells = refl

-- ---- element operations

-- the sum of the greatest signed number and 1
added : gives (Binary Addi) (0 ∷ 1 ∷ []) (type_of (2 ∷ []))
    (tensor (2 ∷ []) (2147483647 ∷ 1 ∷ []) ∷ tensor (2 ∷ []) (1 ∷ 1 ∷ []) ∷ [])
    ≡ Some (tensor (2 ∷ []) (2147483648 ∷ 2 ∷ []))
unfolding typing_of given shape_given cell_given giving gives_constant gives_undefined gives_cells gives_slice gives_insertion gives_collapse gives_expansion gives_piece gives_padding gives_join built_of formula_cell cells_of at element_of cast_of comparison_of
added = refl

-- one stuck cell makes the operation stuck
divided : gives (Binary Divsi) (0 ∷ 1 ∷ []) (type_of (2 ∷ []))
    (tensor (2 ∷ []) (8 ∷ 8 ∷ []) ∷ tensor (2 ∷ []) (1 ∷ 0 ∷ []) ∷ []) ≡ None
unfolding typing_of given shape_given cell_given giving gives_constant gives_undefined gives_cells gives_slice gives_insertion gives_collapse gives_expansion gives_piece gives_padding gives_join built_of formula_cell cells_of at element_of cast_of comparison_of
divided = refl

-- sizes that a type leaves open have to agree
open_sizes : gives (Binary Addi) (0 ∷ 1 ∷ []) open_type (tensor (1 ∷ []) (1 ∷ []) ∷ tensor (2 ∷ []) (1 ∷ 2 ∷ []) ∷ [])
    ≡ None
unfolding typing_of given shape_given cell_given giving gives_constant gives_undefined gives_cells gives_slice gives_insertion gives_collapse gives_expansion gives_piece gives_padding gives_join built_of formula_cell cells_of at element_of cast_of comparison_of
open_sizes = refl

-- an extent that the type knows has to be the actual one
known_size : gives (Binary Addi) (0 ∷ 1 ∷ []) (type_of (3 ∷ []))
    (tensor (2 ∷ []) (1 ∷ 2 ∷ []) ∷ tensor (2 ∷ []) (1 ∷ 2 ∷ []) ∷ []) ≡ None
unfolding typing_of given shape_given cell_given giving gives_constant gives_undefined gives_cells gives_slice gives_insertion gives_collapse gives_expansion gives_piece gives_padding gives_join built_of formula_cell cells_of at element_of cast_of comparison_of
known_size = refl

compared : gives (Compare (record { predicate = Slt; operand_type = tensor_type I8 (2 ∷ []) })) (0 ∷ 1 ∷ []) (tensor_type I1 (2 ∷ []))
    (tensor_in I8 (2 ∷ []) (255 ∷ 3 ∷ []) ∷ tensor_in I8 (2 ∷ []) (0 ∷ 3 ∷ []) ∷ [])
    ≡ Some (tensor_in I1 (2 ∷ []) (1 ∷ 0 ∷ []))
unfolding typing_of given shape_given cell_given giving gives_constant gives_undefined gives_cells gives_slice gives_insertion gives_collapse gives_expansion gives_piece gives_padding gives_join built_of formula_cell cells_of at element_of cast_of comparison_of
compared = refl

-- an undefined condition chooses neither
selected : gives (Select (record { condition_type = tensor_type I1 (3 ∷ []) })) (0 ∷ 1 ∷ 2 ∷ []) (type_of (3 ∷ []))
    (record { shape = 3 ∷ []; width = I1; cells = Val 1 ∷ Val 0 ∷ Undef ∷ [] }
    ∷ tensor (3 ∷ []) (1 ∷ 2 ∷ 3 ∷ []) ∷ tensor (3 ∷ []) (10 ∷ 20 ∷ 30 ∷ []) ∷ [])
    ≡ Some (record { shape = 3 ∷ []; width = I32; cells = Val 1 ∷ Val 20 ∷ Undef ∷ [] })
unfolding typing_of given shape_given cell_given giving gives_constant gives_undefined gives_cells gives_slice gives_insertion gives_collapse gives_expansion gives_piece gives_padding gives_join built_of formula_cell cells_of at element_of cast_of comparison_of
selected = refl

signed : gives (Cast (record { op = Extsi; operand_type = tensor_type I8 (1 ∷ []) })) (0 ∷ []) (type_of (1 ∷ []))
    (tensor_in I8 (1 ∷ []) (255 ∷ []) ∷ []) ≡ Some (tensor (1 ∷ []) (4294967295 ∷ []))
unfolding typing_of given shape_given cell_given giving gives_constant gives_undefined gives_cells gives_slice gives_insertion gives_collapse gives_expansion gives_piece gives_padding gives_join built_of formula_cell cells_of at element_of cast_of comparison_of
signed = refl

unsigned : gives (Cast (record { op = Extui; operand_type = tensor_type I8 (1 ∷ []) })) (0 ∷ []) (type_of (1 ∷ []))
    (tensor_in I8 (1 ∷ []) (255 ∷ []) ∷ []) ≡ Some (tensor (1 ∷ []) (255 ∷ []))
unfolding typing_of given shape_given cell_given giving gives_constant gives_undefined gives_cells gives_slice gives_insertion gives_collapse gives_expansion gives_piece gives_padding gives_join built_of formula_cell cells_of at element_of cast_of comparison_of
unsigned = refl

truncated : gives (Cast (record { op = Trunci; operand_type = type_of (1 ∷ []) })) (0 ∷ []) (tensor_type I8 (1 ∷ []))
    (tensor (1 ∷ []) (299 ∷ []) ∷ []) ≡ Some (tensor_in I8 (1 ∷ []) (43 ∷ []))
unfolding typing_of given shape_given cell_given giving gives_constant gives_undefined gives_cells gives_slice gives_insertion gives_collapse gives_expansion gives_piece gives_padding gives_join built_of formula_cell cells_of at element_of cast_of comparison_of
truncated = refl

-- ---- slices

abbrev extract : ValueType → ℕ → ℕ → ℕ → OpKind
extract source offset size stride = ExtractSlice (record {
  slice = record { offsets = pos offset ∷ []; sizes = pos size ∷ []; strides = pos stride ∷ [] };
  source_type = source;
})

strided : gives (extract (type_of (6 ∷ [])) 1 3 2) (0 ∷ []) (type_of (3 ∷ []))
    (tensor (6 ∷ []) (0 ∷ 1 ∷ 2 ∷ 3 ∷ 4 ∷ 5 ∷ []) ∷ []) ≡ Some (tensor (3 ∷ []) (1 ∷ 3 ∷ 5 ∷ []))
unfolding typing_of given shape_given cell_given giving gives_constant gives_undefined gives_cells gives_slice gives_insertion gives_collapse gives_expansion gives_piece gives_padding gives_join built_of formula_cell cells_of at element_of cast_of comparison_of
strided = refl

out_of_range : gives (extract (type_of (6 ∷ [])) 2 3 2) (0 ∷ []) (type_of (3 ∷ []))
    (tensor (6 ∷ []) (0 ∷ 1 ∷ 2 ∷ 3 ∷ 4 ∷ 5 ∷ []) ∷ []) ≡ None
unfolding typing_of given shape_given cell_given giving gives_constant gives_undefined gives_cells gives_slice gives_insertion gives_collapse gives_expansion gives_piece gives_padding gives_join built_of formula_cell cells_of at element_of cast_of comparison_of
out_of_range = refl

-- a dimension whose extent is open is taken whole
whole : gives (extract open_type 0 2 1) (0 ∷ []) open_type (tensor (3 ∷ []) (1 ∷ 2 ∷ 3 ∷ []) ∷ [])
    ≡ Some (tensor (3 ∷ []) (1 ∷ 2 ∷ 3 ∷ []))
unfolding typing_of given shape_given cell_given giving gives_constant gives_undefined gives_cells gives_slice gives_insertion gives_collapse gives_expansion gives_piece gives_padding gives_join built_of formula_cell cells_of at element_of cast_of comparison_of
whole = refl

abbrev insert : ValueType → ℕ → ℕ → ℕ → OpKind
insert source offset size stride = InsertSlice (record {
  slice = record { offsets = pos offset ∷ []; sizes = pos size ∷ []; strides = pos stride ∷ [] };
  source_type = source;
})

-- the other cells stay
inserted : gives (insert (type_of (2 ∷ [])) 1 2 3) (0 ∷ 1 ∷ []) (type_of (6 ∷ []))
    (tensor (2 ∷ []) (10 ∷ 20 ∷ []) ∷ tensor (6 ∷ []) (0 ∷ 1 ∷ 2 ∷ 3 ∷ 4 ∷ 5 ∷ []) ∷ [])
    ≡ Some (tensor (6 ∷ []) (0 ∷ 10 ∷ 2 ∷ 3 ∷ 20 ∷ 5 ∷ []))
unfolding typing_of given shape_given cell_given giving gives_constant gives_undefined gives_cells gives_slice gives_insertion gives_collapse gives_expansion gives_piece gives_padding gives_join built_of formula_cell cells_of at element_of cast_of comparison_of
inserted = refl

-- ---- reshapes

collapsed : gives (CollapseShape (record {
  reassociation = (pos 0 ∷ pos 1 ∷ []) ∷ (pos 2 ∷ []) ∷ [];
  source_type = type_of (2 ∷ 1 ∷ 3 ∷ []);
})) (0 ∷ []) (type_of (2 ∷ 3 ∷ [])) (tensor (2 ∷ 1 ∷ 3 ∷ []) (1 ∷ 2 ∷ 3 ∷ 4 ∷ 5 ∷ 6 ∷ []) ∷ [])
    ≡ Some (tensor (2 ∷ 3 ∷ []) (1 ∷ 2 ∷ 3 ∷ 4 ∷ 5 ∷ 6 ∷ []))
unfolding typing_of given shape_given cell_given giving gives_constant gives_undefined gives_cells gives_slice gives_insertion gives_collapse gives_expansion gives_piece gives_padding gives_join built_of formula_cell cells_of at element_of cast_of comparison_of
collapsed = refl

-- without groups one cell is left, and more are stuck
to_rank_0 : gives (CollapseShape (record { reassociation = []; source_type = open_type })) (0 ∷ []) (type_of []) (tensor (1 ∷ []) (5 ∷ []) ∷ [])
    ≡ Some (tensor [] (5 ∷ []))
unfolding typing_of given shape_given cell_given giving gives_constant gives_undefined gives_cells gives_slice gives_insertion gives_collapse gives_expansion gives_piece gives_padding gives_join built_of formula_cell cells_of at element_of cast_of comparison_of
to_rank_0 = refl

too_many : gives (CollapseShape (record { reassociation = []; source_type = open_type })) (0 ∷ []) (type_of []) (tensor (2 ∷ []) (5 ∷ 6 ∷ []) ∷ [])
    ≡ None
unfolding typing_of given shape_given cell_given giving gives_constant gives_undefined gives_cells gives_slice gives_insertion gives_collapse gives_expansion gives_piece gives_padding gives_join built_of formula_cell cells_of at element_of cast_of comparison_of
too_many = refl

abbrev expand : OpKind
expand = ExpandShape (record {
  reassociation = (pos 0 ∷ pos 1 ∷ []) ∷ [];
  output_shape = pos 3 ∷ pos 2 ∷ [];
  source_type = open_type;
})

-- the extent that is open follows from the source
expanded : gives expand (0 ∷ []) (Tensor (record { dims = Differs ∷ Known 2 ∷ []; width = I32 })) (tensor (4 ∷ []) (1 ∷ 2 ∷ 3 ∷ 4 ∷ []) ∷ [])
    ≡ Some (tensor (2 ∷ 2 ∷ []) (1 ∷ 2 ∷ 3 ∷ 4 ∷ []))
unfolding typing_of given shape_given cell_given giving gives_constant gives_undefined gives_cells gives_slice gives_insertion gives_collapse gives_expansion gives_piece gives_padding gives_join built_of formula_cell cells_of at element_of cast_of comparison_of
expanded = refl

odd : gives expand (0 ∷ []) (Tensor (record { dims = Differs ∷ Known 2 ∷ []; width = I32 })) (tensor (3 ∷ []) (1 ∷ 2 ∷ 3 ∷ []) ∷ [])
    ≡ None
unfolding typing_of given shape_given cell_given giving gives_constant gives_undefined gives_cells gives_slice gives_insertion gives_collapse gives_expansion gives_piece gives_padding gives_join built_of formula_cell cells_of at element_of cast_of comparison_of
odd = refl

beside_none : gives expand (0 ∷ []) (Tensor (record { dims = Differs ∷ Known 0 ∷ []; width = I32 })) (tensor (0 ∷ []) [] ∷ [])
    ≡ None
unfolding typing_of given shape_given cell_given giving gives_constant gives_undefined gives_cells gives_slice gives_insertion gives_collapse gives_expansion gives_piece gives_padding gives_join built_of formula_cell cells_of at element_of cast_of comparison_of
beside_none = refl

two_open : gives expand (0 ∷ []) (Tensor (record { dims = Differs ∷ Differs ∷ []; width = I32 })) (tensor (4 ∷ []) (1 ∷ 2 ∷ 3 ∷ 4 ∷ []) ∷ [])
    ≡ None
unfolding typing_of given shape_given cell_given giving gives_constant gives_undefined gives_cells gives_slice gives_insertion gives_collapse gives_expansion gives_piece gives_padding gives_join built_of formula_cell cells_of at element_of cast_of comparison_of
two_open = refl

from_rank_0 : gives (ExpandShape (record { reassociation = []; output_shape = pos 1 ∷ []; source_type = type_of [] })) (0 ∷ []) open_type (tensor [] (5 ∷ []) ∷ [])
    ≡ Some (tensor (1 ∷ []) (5 ∷ []))
unfolding typing_of given shape_given cell_given giving gives_constant gives_undefined gives_cells gives_slice gives_insertion gives_collapse gives_expansion gives_piece gives_padding gives_join built_of formula_cell cells_of at element_of cast_of comparison_of
from_rank_0 = refl

-- ---- device form

abbrev seat : ℕ → ℕ → Seat
seat size place = record { size = size; place = place }

abbrev slice : OpKind
slice = AllSlice (record { on = record { grid = []; grid_axes = pos 0 ∷ [] }; slice_axis = 0; operand_type = type_of (4 ∷ []) })

second_half : given (op_with slice (0 ∷ []) (type_of (2 ∷ []))) (seat 2 1) (tensor (4 ∷ []) (1 ∷ 2 ∷ 3 ∷ 4 ∷ []) ∷ [])
    ≡ Some (tensor (2 ∷ []) (3 ∷ 4 ∷ []))
unfolding typing_of given shape_given cell_given giving gives_constant gives_undefined gives_cells gives_slice gives_insertion gives_collapse gives_expansion gives_piece gives_padding gives_join built_of formula_cell cells_of at element_of cast_of comparison_of
second_half = refl

third_of_four : given (op_with slice (0 ∷ []) open_type) (seat 3 1) (tensor (4 ∷ []) (1 ∷ 2 ∷ 3 ∷ 4 ∷ []) ∷ []) ≡ None
unfolding typing_of given shape_given cell_given giving gives_constant gives_undefined gives_cells gives_slice gives_insertion gives_collapse gives_expansion gives_piece gives_padding gives_join built_of formula_cell cells_of at element_of cast_of comparison_of
third_of_four = refl

abbrev take : OpKind
take = Take (record {
  on = record { grid = []; grid_axes = pos 0 ∷ [] };
  axis = 0;
  starts = pos 0 ∷ pos 3 ∷ [];
  sizes = pos 3 ∷ pos 2 ∷ [];
  operand_type = type_of (5 ∷ []);
})

taken : given (op_with take (0 ∷ []) open_type) (seat 2 1) (tensor (5 ∷ []) (1 ∷ 2 ∷ 3 ∷ 4 ∷ 5 ∷ []) ∷ [])
    ≡ Some (tensor (2 ∷ []) (4 ∷ 5 ∷ []))
unfolding typing_of given shape_given cell_given giving gives_constant gives_undefined gives_cells gives_slice gives_insertion gives_collapse gives_expansion gives_piece gives_padding gives_join built_of formula_cell cells_of at element_of cast_of comparison_of
taken = refl

abbrev past : OpKind
past = Take (record {
  on = record { grid = []; grid_axes = pos 0 ∷ [] };
  axis = 0;
  starts = pos 6 ∷ [];
  sizes = pos 0 ∷ [];
  operand_type = type_of (5 ∷ []);
})

-- no cells from past the end
nothing_past_the_end : given (op_with past (0 ∷ []) (type_of (0 ∷ []))) (seat 1 0) (tensor (5 ∷ []) (1 ∷ 2 ∷ 3 ∷ 4 ∷ 5 ∷ []) ∷ []) ≡ None
unfolding typing_of given shape_given cell_given giving gives_constant gives_undefined gives_cells gives_slice gives_insertion gives_collapse gives_expansion gives_piece gives_padding gives_join built_of formula_cell cells_of at element_of cast_of comparison_of
nothing_past_the_end = refl

padded : gives (Pad (record { low = pos 1 ∷ []; high = pos 2 ∷ []; operand_type = type_of (2 ∷ []) })) (0 ∷ []) (type_of (5 ∷ []))
    (tensor (2 ∷ []) (7 ∷ 8 ∷ []) ∷ [])
    ≡ Some (record { shape = 5 ∷ []; width = I32; cells = Undef ∷ Val 7 ∷ Val 8 ∷ Undef ∷ Undef ∷ [] })
unfolding typing_of given shape_given cell_given giving gives_constant gives_undefined gives_cells gives_slice gives_insertion gives_collapse gives_expansion gives_piece gives_padding gives_join built_of formula_cell cells_of at element_of cast_of comparison_of
padded = refl

joined : gives (Join (record { axis = 1; operand_types = type_of (2 ∷ 1 ∷ []) ∷ type_of (2 ∷ 2 ∷ []) ∷ [] })) (0 ∷ 1 ∷ []) (type_of (2 ∷ 3 ∷ []))
    (tensor (2 ∷ 1 ∷ []) (1 ∷ 4 ∷ []) ∷ tensor (2 ∷ 2 ∷ []) (2 ∷ 3 ∷ 5 ∷ 6 ∷ []) ∷ [])
    ≡ Some (tensor (2 ∷ 3 ∷ []) (1 ∷ 2 ∷ 3 ∷ 4 ∷ 5 ∷ 6 ∷ []))
unfolding typing_of given shape_given cell_given giving gives_constant gives_undefined gives_cells gives_slice gives_insertion gives_collapse gives_expansion gives_piece gives_padding gives_join built_of formula_cell cells_of at element_of cast_of comparison_of
joined = refl
