-- What structured operations give, by computation.
use Rattle.std.proofs.Common.{◌≡◌, ℕ, [], ◌∷◌, refl}
use Rattle.std.specs.Prelude.{Some, None, pos}
use Rattle.sh_base.specs.declared.numbers.Cell.TheVariants.{Undef, Val}
use Rattle.sh_base.specs.declared.numbers.Width.TheVariants.{I8, I32}
use Rattle.sh_base.specs.declared.operations.BinOp.TheVariants.{Addi, Subi, Divsi, Maxsi}
use Rattle.sh_ir.specs.declared.bodies.BodyKind.TheVariants as body_kind
use Rattle.sh_ir.specs.declared.linalg_ops.IteratorType.TheVariants.{Parallel, Reduction}
use Rattle.sh_ir.specs.declared.operations.OpKind.{OpKind}
use Rattle.sh_ir.specs.declared.operations.OpKind.TheVariants.{Fill, Matmul, Dot, Conv1d, Conv2d, Transpose, Broadcast, Reduce, Generic}
use Rattle.sh_ir.specs.declared.types.ValueType.TheVariants.{Scalar, Index}
use Rattle.sh_ir.specs.Loops.{structure_of}
use Rattle.sh_ir.specs.Typing.{typing_of}
use Rattle.sh_int.specs.Elements.{element_of, cast_of}
use Rattle.sh_tensor.specs.Tensor.{at, cells_of}
use Rattle.sh_sem.specs.Given.{given, shape_given, cell_given, giving, gives_nest, built_of}
use Rattle.sh_sem.specs.Nest.{folded_cell}
use Rattle.sh_sem.specs.Region.{region_cell, placed, body_cell}
use Rattle.sh_sem.specs.Scalars.{formula_cell}
use Rattle.sh_sem.proofs.Samples.{type_of, tensor_type, tensor, tensor_in, gives, ins_outs, body_op, region}

-- ---- products

abbrev matmul : OpKind
matmul = Matmul (ins_outs (type_of (2 ∷ 4 ∷ []) ∷ type_of (4 ∷ 2 ∷ []) ∷ []) (type_of (2 ∷ 2 ∷ [])))

multiplied : gives matmul (0 ∷ 1 ∷ 2 ∷ []) (type_of (2 ∷ 2 ∷ []))
    (tensor (2 ∷ 4 ∷ []) (1 ∷ 2 ∷ 3 ∷ 4 ∷ 5 ∷ 6 ∷ 7 ∷ 8 ∷ [])
    ∷ tensor (4 ∷ 2 ∷ []) (1 ∷ 0 ∷ 0 ∷ 1 ∷ 1 ∷ 0 ∷ 0 ∷ 1 ∷ [])
    ∷ tensor (2 ∷ 2 ∷ []) (1 ∷ 1 ∷ 1 ∷ 1 ∷ []) ∷ [])
    ≡ Some (tensor (2 ∷ 2 ∷ []) (5 ∷ 7 ∷ 13 ∷ 15 ∷ []))
unfolding typing_of structure_of given shape_given cell_given giving gives_nest built_of folded_cell region_cell placed body_cell formula_cell cells_of at element_of cast_of
multiplied = refl

-- an input is extended by sign: -1 in 8 bits times 2 in 32
abbrev dot : OpKind
dot = Dot (ins_outs (tensor_type I8 (1 ∷ []) ∷ type_of (1 ∷ []) ∷ []) (type_of []))

extended : gives dot (0 ∷ 1 ∷ 2 ∷ []) (type_of [])
    (tensor_in I8 (1 ∷ []) (255 ∷ []) ∷ tensor (1 ∷ []) (2 ∷ []) ∷ tensor [] (1 ∷ []) ∷ [])
    ≡ Some (tensor [] (4294967295 ∷ []))
unfolding typing_of structure_of given shape_given cell_given giving gives_nest built_of folded_cell region_cell placed body_cell formula_cell cells_of at element_of cast_of
extended = refl

-- a fold over no points is the output's own cell
no_points : gives (Dot (ins_outs (type_of (0 ∷ []) ∷ type_of (0 ∷ []) ∷ []) (type_of []))) (0 ∷ 1 ∷ 2 ∷ []) (type_of [])
    (tensor (0 ∷ []) [] ∷ tensor (0 ∷ []) [] ∷ tensor [] (9 ∷ []) ∷ []) ≡ Some (tensor [] (9 ∷ []))
unfolding typing_of structure_of given shape_given cell_given giving gives_nest built_of folded_cell region_cell placed body_cell formula_cell cells_of at element_of cast_of
no_points = refl

-- ---- convolutions

abbrev conv_1d : OpKind
conv_1d = Conv1d (ins_outs (type_of (8 ∷ []) ∷ type_of (3 ∷ []) ∷ []) (type_of (6 ∷ [])))

windows : gives conv_1d (0 ∷ 1 ∷ 2 ∷ []) (type_of (6 ∷ []))
    (tensor (8 ∷ []) (0 ∷ 1 ∷ 2 ∷ 3 ∷ 4 ∷ 5 ∷ 6 ∷ 7 ∷ []) ∷ tensor (3 ∷ []) (1 ∷ 1 ∷ 1 ∷ [])
    ∷ tensor (6 ∷ []) (0 ∷ 0 ∷ 0 ∷ 0 ∷ 0 ∷ 0 ∷ []) ∷ [])
    ≡ Some (tensor (6 ∷ []) (3 ∷ 6 ∷ 9 ∷ 12 ∷ 15 ∷ 18 ∷ []))
unfolding typing_of structure_of given shape_given cell_given giving gives_nest built_of folded_cell region_cell placed body_cell formula_cell cells_of at element_of cast_of
windows = refl

abbrev conv_2d : OpKind
conv_2d = Conv2d (ins_outs (type_of (2 ∷ 3 ∷ []) ∷ type_of (2 ∷ 2 ∷ []) ∷ []) (type_of (1 ∷ 2 ∷ [])))

squares : gives conv_2d (0 ∷ 1 ∷ 2 ∷ []) (type_of (1 ∷ 2 ∷ []))
    (tensor (2 ∷ 3 ∷ []) (1 ∷ 2 ∷ 3 ∷ 4 ∷ 5 ∷ 6 ∷ []) ∷ tensor (2 ∷ 2 ∷ []) (1 ∷ 10 ∷ 100 ∷ 1000 ∷ [])
    ∷ tensor (1 ∷ 2 ∷ []) (0 ∷ 0 ∷ []) ∷ [])
    ≡ Some (tensor (1 ∷ 2 ∷ []) (5421 ∷ 6532 ∷ []))
unfolding typing_of structure_of given shape_given cell_given giving gives_nest built_of folded_cell region_cell placed body_cell formula_cell cells_of at element_of cast_of
squares = refl

-- nothing is asked of the input's extent where the window has no place
no_place : gives (Conv1d (ins_outs (type_of (8 ∷ []) ∷ type_of (3 ∷ []) ∷ []) (type_of (0 ∷ [])))) (0 ∷ 1 ∷ 2 ∷ []) (type_of (0 ∷ []))
    (tensor (8 ∷ []) (0 ∷ 1 ∷ 2 ∷ 3 ∷ 4 ∷ 5 ∷ 6 ∷ 7 ∷ []) ∷ tensor (3 ∷ []) (1 ∷ 1 ∷ 1 ∷ []) ∷ tensor (0 ∷ []) [] ∷ [])
    ≡ Some (tensor (0 ∷ []) [])
unfolding typing_of structure_of given shape_given cell_given giving gives_nest built_of folded_cell region_cell placed body_cell formula_cell cells_of at element_of cast_of
no_place = refl

-- the sizes don't agree
misfit : gives (Conv1d (ins_outs (type_of (8 ∷ []) ∷ type_of (3 ∷ []) ∷ []) (type_of (5 ∷ [])))) (0 ∷ 1 ∷ 2 ∷ []) (type_of (5 ∷ []))
    (tensor (8 ∷ []) (0 ∷ 1 ∷ 2 ∷ 3 ∷ 4 ∷ 5 ∷ 6 ∷ 7 ∷ []) ∷ tensor (3 ∷ []) (1 ∷ 1 ∷ 1 ∷ [])
    ∷ tensor (5 ∷ []) (0 ∷ 0 ∷ 0 ∷ 0 ∷ 0 ∷ []) ∷ []) ≡ None
unfolding typing_of structure_of given shape_given cell_given giving gives_nest built_of folded_cell region_cell placed body_cell formula_cell cells_of at element_of cast_of
misfit = refl

-- ---- copies

filled : gives (Fill (ins_outs (Scalar I32 ∷ []) (type_of (2 ∷ [])))) (0 ∷ 1 ∷ []) (type_of (2 ∷ []))
    (tensor [] (7 ∷ []) ∷ tensor (2 ∷ []) (1 ∷ 2 ∷ []) ∷ []) ≡ Some (tensor (2 ∷ []) (7 ∷ 7 ∷ []))
unfolding typing_of structure_of given shape_given cell_given giving gives_nest built_of folded_cell region_cell placed body_cell formula_cell cells_of at element_of cast_of
filled = refl

-- result dimension i is input dimension permutation[i]
abbrev transpose : OpKind
transpose = Transpose (record {
  ins_outs = ins_outs (type_of (1 ∷ 2 ∷ 3 ∷ []) ∷ []) (type_of (2 ∷ 3 ∷ 1 ∷ []));
  permutation = pos 1 ∷ pos 2 ∷ pos 0 ∷ [];
})

turned : gives transpose (0 ∷ 1 ∷ []) (type_of (2 ∷ 3 ∷ 1 ∷ []))
    (tensor (1 ∷ 2 ∷ 3 ∷ []) (1 ∷ 2 ∷ 3 ∷ 4 ∷ 5 ∷ 6 ∷ []) ∷ tensor (2 ∷ 3 ∷ 1 ∷ []) (0 ∷ 0 ∷ 0 ∷ 0 ∷ 0 ∷ 0 ∷ []) ∷ [])
    ≡ Some (tensor (2 ∷ 3 ∷ 1 ∷ []) (1 ∷ 2 ∷ 3 ∷ 4 ∷ 5 ∷ 6 ∷ []))
unfolding typing_of structure_of given shape_given cell_given giving gives_nest built_of folded_cell region_cell placed body_cell formula_cell cells_of at element_of cast_of
turned = refl

abbrev swap : OpKind
swap = Transpose (record {
  ins_outs = ins_outs (type_of (2 ∷ 3 ∷ []) ∷ []) (type_of (3 ∷ 2 ∷ []));
  permutation = pos 1 ∷ pos 0 ∷ [];
})

swapped : gives swap (0 ∷ 1 ∷ []) (type_of (3 ∷ 2 ∷ []))
    (tensor (2 ∷ 3 ∷ []) (1 ∷ 2 ∷ 3 ∷ 4 ∷ 5 ∷ 6 ∷ []) ∷ tensor (3 ∷ 2 ∷ []) (0 ∷ 0 ∷ 0 ∷ 0 ∷ 0 ∷ 0 ∷ []) ∷ [])
    ≡ Some (tensor (3 ∷ 2 ∷ []) (1 ∷ 4 ∷ 2 ∷ 5 ∷ 3 ∷ 6 ∷ []))
unfolding typing_of structure_of given shape_given cell_given giving gives_nest built_of folded_cell region_cell placed body_cell formula_cell cells_of at element_of cast_of
swapped = refl

abbrev broadcast : OpKind
broadcast = Broadcast (record {
  ins_outs = ins_outs (type_of (2 ∷ []) ∷ []) (type_of (2 ∷ 3 ∷ []));
  dimensions = pos 1 ∷ [];
})

spread : gives broadcast (0 ∷ 1 ∷ []) (type_of (2 ∷ 3 ∷ []))
    (tensor (2 ∷ []) (1 ∷ 2 ∷ []) ∷ tensor (2 ∷ 3 ∷ []) (0 ∷ 0 ∷ 0 ∷ 0 ∷ 0 ∷ 0 ∷ []) ∷ [])
    ≡ Some (tensor (2 ∷ 3 ∷ []) (1 ∷ 1 ∷ 1 ∷ 2 ∷ 2 ∷ 2 ∷ []))
unfolding typing_of structure_of given shape_given cell_given giving gives_nest built_of folded_cell region_cell placed body_cell formula_cell cells_of at element_of cast_of
spread = refl

-- ---- regions

-- the greatest of -5, -3, -9, -7, from -128 on
abbrev reduce : OpKind
reduce = Reduce (record {
  ins_outs = ins_outs (tensor_type I8 (4 ∷ []) ∷ []) (tensor_type I8 []);
  dimensions = pos 0 ∷ [];
  body = region (3 ∷ 4 ∷ []) I8 (body_op (body_kind.Binary Maxsi) (4 ∷ 3 ∷ []) 5 I8 ∷ []) 5;
})

greatest : gives reduce (0 ∷ 1 ∷ []) (tensor_type I8 [])
    (tensor_in I8 (4 ∷ []) (251 ∷ 253 ∷ 247 ∷ 249 ∷ []) ∷ tensor_in I8 [] (128 ∷ []) ∷ [])
    ≡ Some (tensor_in I8 [] (253 ∷ []))
unfolding typing_of structure_of given shape_given cell_given giving gives_nest built_of folded_cell region_cell placed body_cell formula_cell cells_of at element_of cast_of
greatest = refl

-- each point's input less the value so far: the order of the points tells
abbrev subtract : OpKind
subtract = Reduce (record {
  ins_outs = ins_outs (type_of (2 ∷ 2 ∷ []) ∷ []) (type_of (2 ∷ []));
  dimensions = pos 1 ∷ [];
  body = region (3 ∷ 4 ∷ []) I32 (body_op (body_kind.Binary Subi) (3 ∷ 4 ∷ []) 5 I32 ∷ []) 5;
})

in_order : gives subtract (0 ∷ 1 ∷ []) (type_of (2 ∷ []))
    (tensor (2 ∷ 2 ∷ []) (10 ∷ 30 ∷ 20 ∷ 50 ∷ []) ∷ tensor (2 ∷ []) (1 ∷ 2 ∷ []) ∷ [])
    ≡ Some (tensor (2 ∷ []) (21 ∷ 32 ∷ []))
unfolding typing_of structure_of given shape_given cell_given giving gives_nest built_of folded_cell region_cell placed body_cell formula_cell cells_of at element_of cast_of
in_order = refl

-- A generic of two inputs and three loops with a scalar of the function: in the body, the product's
-- place is taken by a sum with the captured value 3.
abbrev generic : OpKind
generic = Generic (record {
  ins_outs = ins_outs (type_of (2 ∷ []) ∷ type_of (1 ∷ 2 ∷ []) ∷ []) (type_of (2 ∷ []));
  indexing_maps =
      record { loops = 0 ∷ 1 ∷ 2 ∷ []; results = 0 ∷ [] }
      ∷ record { loops = 0 ∷ 1 ∷ 2 ∷ []; results = 1 ∷ 2 ∷ [] }
      ∷ record { loops = 0 ∷ 1 ∷ 2 ∷ []; results = 0 ∷ [] } ∷ [];
  iterator_types = Parallel ∷ Reduction ∷ Reduction ∷ [];
  body = region (10 ∷ 11 ∷ 12 ∷ []) I32
      (body_op (body_kind.Binary Addi) (10 ∷ 11 ∷ []) 13 I32
      ∷ body_op (body_kind.Binary Addi) (13 ∷ 3 ∷ []) 14 I32
      ∷ body_op (body_kind.Binary Addi) (12 ∷ 14 ∷ []) 15 I32 ∷ []) 15;
})

-- 1000 + (1 + 10 + 3) + (1 + 20 + 3), and 2000 + (2 + 10 + 3) + (2 + 20 + 3)
captures : gives generic (0 ∷ 1 ∷ 2 ∷ 3 ∷ []) (type_of (2 ∷ []))
    (tensor (2 ∷ []) (1 ∷ 2 ∷ []) ∷ tensor (1 ∷ 2 ∷ []) (10 ∷ 20 ∷ []) ∷ tensor (2 ∷ []) (1000 ∷ 2000 ∷ [])
    ∷ tensor [] (3 ∷ []) ∷ []) ≡ Some (tensor (2 ∷ []) (1038 ∷ 2040 ∷ []))
unfolding typing_of structure_of given shape_given cell_given giving gives_nest built_of folded_cell region_cell placed body_cell formula_cell cells_of at element_of cast_of
captures = refl

-- the coordinate of the point, taken modulo 256 where it doesn't fit
abbrev indexed : ℕ → OpKind
indexed n = Generic (record {
  ins_outs = ins_outs [] (tensor_type I8 (n ∷ []));
  indexing_maps = record { loops = 0 ∷ []; results = 0 ∷ [] } ∷ [];
  iterator_types = Parallel ∷ [];
  body = region (1 ∷ []) I8
      (record (body_op (body_kind.Index (record { dimension = 0 })) [] 2 I8) { result = Index }
      ∷ body_op body_kind.IndexCast (2 ∷ []) 3 I8 ∷ []) 3;
})

coordinates : gives (indexed 4) (0 ∷ []) (tensor_type I8 (4 ∷ []))
    (tensor_in I8 (4 ∷ []) (9 ∷ 9 ∷ 9 ∷ 9 ∷ []) ∷ [])
    ≡ Some (tensor_in I8 (4 ∷ []) (0 ∷ 1 ∷ 2 ∷ 3 ∷ []))
unfolding typing_of structure_of given shape_given cell_given giving gives_nest built_of folded_cell region_cell placed body_cell formula_cell cells_of at element_of cast_of
coordinates = refl

-- ---- stuck and undefined cells

abbrev quotient : OpKind
quotient = Reduce (record {
  ins_outs = ins_outs (type_of (2 ∷ []) ∷ []) (type_of []);
  dimensions = pos 0 ∷ [];
  body = region (3 ∷ 4 ∷ []) I32 (body_op (body_kind.Binary Divsi) (4 ∷ 3 ∷ []) 5 I32 ∷ []) 5;
})

divided : gives quotient (0 ∷ 1 ∷ []) (type_of []) (tensor (2 ∷ []) (2 ∷ 3 ∷ []) ∷ tensor [] (12 ∷ []) ∷ [])
    ≡ Some (tensor [] (2 ∷ []))
unfolding typing_of structure_of given shape_given cell_given giving gives_nest built_of folded_cell region_cell placed body_cell formula_cell cells_of at element_of cast_of
divided = refl

-- one stuck point makes the operation stuck, though no later point needs its value
stuck : gives quotient (0 ∷ 1 ∷ []) (type_of []) (tensor (2 ∷ []) (0 ∷ 3 ∷ []) ∷ tensor [] (12 ∷ []) ∷ []) ≡ None
unfolding typing_of structure_of given shape_given cell_given giving gives_nest built_of folded_cell region_cell placed body_cell formula_cell cells_of at element_of cast_of
stuck = refl

undefined_row : gives matmul (0 ∷ 1 ∷ 2 ∷ []) (type_of (2 ∷ 2 ∷ []))
    (record { shape = 2 ∷ 4 ∷ []; width = I32; cells = Undef ∷ Val 2 ∷ Val 3 ∷ Val 4 ∷ Val 5 ∷ Val 6 ∷ Val 7 ∷ Val 8 ∷ [] }
    ∷ tensor (4 ∷ 2 ∷ []) (1 ∷ 0 ∷ 0 ∷ 1 ∷ 1 ∷ 0 ∷ 0 ∷ 1 ∷ [])
    ∷ tensor (2 ∷ 2 ∷ []) (1 ∷ 1 ∷ 1 ∷ 1 ∷ []) ∷ [])
    ≡ Some (record { shape = 2 ∷ 2 ∷ []; width = I32; cells = Undef ∷ Undef ∷ Val 13 ∷ Val 15 ∷ [] })
unfolding typing_of structure_of given shape_given cell_given giving gives_nest built_of folded_cell region_cell placed body_cell formula_cell cells_of at element_of cast_of
undefined_row = refl
