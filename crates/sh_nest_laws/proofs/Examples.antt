-- Small splits by computation: a matrix product along a parallel loop, and along its reduction loop.
use Rattle.std.proofs.Common.{◌≡◌, ℕ, List, [], ◌∷◌, length, Option, Some, refl}
use Rattle.std.specs.Prelude.{pos, get_or, map}
use Rattle.sh_base.specs.declared.numbers.Width.TheVariants.{I32}
use Rattle.sh_base.specs.declared.operations.BinOp.TheVariants.{Addi}
use Rattle.sh_base.specs.declared.operations.Kind.TheVariants.{Sum}
use Rattle.sh_grid.specs.Grid.{GridValue, group_size_of, on_axes, place_in}
use Rattle.sh_int.specs.Elements.{element_of, cast_of}
use Rattle.sh_int.specs.Reduction.{combine_of}
use Rattle.sh_ir.specs.declared.operations.OpKind.{OpKind}
use Rattle.sh_ir.specs.declared.operations.OpKind.TheVariants.{AllReduce, Binary, Matmul}
use Rattle.sh_ir.specs.Loops.{structure_of}
use Rattle.sh_ir.specs.Typing.{typing_of}
use Rattle.sh_pieces.specs.Promises.{cuts}
use Rattle.sh_sem.specs.Collected.{collected, collecting, reduces, shapes_collected}
use Rattle.sh_base.specs.declared.numbers.Cell.TheVariants.{Val}
use Rattle.sh_ir.specs.declared.linalg_ops.InsOuts.{InsOuts}
use Rattle.sh_ir.specs.declared.operations.Op.{Op}
use Rattle.sh_ir.specs.declared.types.Dim.TheVariants.{Known}
use Rattle.sh_ir.specs.declared.types.ValueType.{ValueType}
use Rattle.sh_ir.specs.declared.types.ValueType.TheVariants.{Tensor}
use Rattle.sh_sem.specs.Given.{alone, given, shape_given, cell_given, giving, gives_cells, gives_nest, built_of}
use Rattle.sh_sem.specs.Nest.{folded_cell}
use Rattle.sh_sem.specs.Scalars.{formula_cell}
use Rattle.sh_sharding.specs.declared.shardings.Dimension.{Dimension}
use Rattle.sh_sharding.specs.declared.shardings.Mark.TheVariants.{Balanced}
use Rattle.sh_sharding.specs.Cut.{cut_of}
use Rattle.sh_sharding.specs.Sharding.{unsplit, local_extent, offset_at, offset_of, part_of, part_size, parts_of, size_in, size_of_part, start_in}
use Rattle.sh_sharding.specs.Splits.{tensor_splitting}
use Rattle.sh_tensor.specs.Tensor.{TensorValue, at, cells_of}
use Rattle.sh_nest_laws.specs.LoopSplits.{PlainNest, reduction_axes, sharding_on, splits_by}
use Rattle.sh_nest_laws.proofs.Instances.{product_nest}

-- ---- small operations and tensors

abbrev type_of : List ℕ → ValueType
type_of shape = Tensor (record { dims = map (λ n. Known n) shape; width = I32 })

abbrev tensor : List ℕ → List ℕ → TensorValue
tensor shape numbers = record { shape = shape; width = I32; cells = map (λ n. Val n) numbers }

abbrev ins_outs : List ValueType → ValueType → InsOuts
ins_outs ins outs = record { ins_count = length ins; ins_types = ins; outs_count = 1; outs_types = outs ∷ [] }

abbrev op_with : OpKind → List ℕ → ValueType → Op
op_with kind operands result = record { kind = kind; operands = operands; defines = Some (length operands); result = result; place = record { line = 1; column = 1 } }

abbrev gives : OpKind → List ℕ → ValueType → List TensorValue → Option TensorValue
gives kind operands result ts = given (op_with kind operands result) alone ts

-- ---- the splits

abbrev two_devices : GridValue
two_devices = record { name = []; extents = 2 ∷ [] }

-- the loops m, n, k, of which one is split
abbrev split_loop : ℕ → Dimension
split_loop extent = record { extent = extent; axes = 0 ∷ []; mark = Balanced; low = 0; high = 0 }

abbrev by_rows : ℕ → Dimension
by_rows l = get_or (split_loop 2 ∷ unsplit 2 ∷ unsplit 3 ∷ []) l (unsplit 0)

-- two points on the first device, and one on the second
abbrev by_terms : ℕ → Dimension
by_terms l = get_or (unsplit 2 ∷ unsplit 2 ∷ split_loop 3 ∷ []) l (unsplit 0)

abbrev matmul_nest : PlainNest
matmul_nest = product_nest 3 (record { dims = 0 ∷ 2 ∷ []; width = I32 }) (record { dims = 2 ∷ 1 ∷ []; width = I32 }) (record { dims = 0 ∷ 1 ∷ []; width = I32 })

abbrev matmul : ℕ → ℕ → ℕ → OpKind
matmul m n k = Matmul (ins_outs (type_of (m ∷ k ∷ []) ∷ type_of (k ∷ n ∷ []) ∷ []) (type_of (m ∷ n ∷ [])))

abbrev first : TensorValue
first = tensor (2 ∷ 3 ∷ []) (1 ∷ 2 ∷ 3 ∷ 4 ∷ 5 ∷ 6 ∷ [])

abbrev second : TensorValue
second = tensor (3 ∷ 2 ∷ []) (1 ∷ 0 ∷ 0 ∷ 1 ∷ 1 ∷ 1 ∷ [])

abbrev outs : TensorValue
outs = tensor (2 ∷ 2 ∷ []) (100 ∷ 200 ∷ 300 ∷ 400 ∷ [])

abbrev result : TensorValue
result = tensor (2 ∷ 2 ∷ []) (104 ∷ 205 ∷ 310 ∷ 411 ∷ [])

multiplied : gives (matmul 2 2 3) (0 ∷ 1 ∷ 2 ∷ []) (type_of (2 ∷ 2 ∷ [])) (first ∷ second ∷ outs ∷ []) ≡ Some result
unfolding typing_of structure_of given shape_given cell_given giving gives_nest built_of folded_cell cells_of at element_of cast_of
multiplied = refl

-- ---- along the rows: each device has a row of the first and of the outs, and the whole second

second_row : gives (matmul 1 2 3) (0 ∷ 1 ∷ 2 ∷ []) (type_of (1 ∷ 2 ∷ [])) (cuts tensor_splitting (splits_by two_devices by_rows matmul_nest) (first ∷ second ∷ outs ∷ []) 1) ≡ Some (cut_of (sharding_on two_devices by_rows (0 ∷ 1 ∷ [])) result 1)
unfolding typing_of structure_of given shape_given cell_given giving gives_nest built_of folded_cell cells_of at element_of cast_of cut_of local_extent size_in start_in part_of part_size size_of_part offset_at offset_of parts_of place_in group_size_of on_axes
second_row = refl

second_row_is : cut_of (sharding_on two_devices by_rows (0 ∷ 1 ∷ [])) result 1 ≡ tensor (1 ∷ 2 ∷ []) (310 ∷ 411 ∷ [])
unfolding cells_of at cut_of local_extent size_in start_in part_of part_size size_of_part offset_at offset_of parts_of place_in group_size_of on_axes
second_row_is = refl

-- ---- along the terms: the axis of the all_reduce, the parts, their combination, and the outs once

axes_are : reduction_axes by_terms matmul_nest ≡ 0 ∷ []
axes_are = refl

abbrev zeros : TensorValue
zeros = tensor (2 ∷ 2 ∷ []) (0 ∷ 0 ∷ 0 ∷ 0 ∷ [])

abbrev part : ℕ → TensorValue
part c = get_or (tensor (2 ∷ 2 ∷ []) (1 ∷ 2 ∷ 4 ∷ 5 ∷ []) ∷ tensor (2 ∷ 2 ∷ []) (3 ∷ 3 ∷ 6 ∷ 6 ∷ []) ∷ []) c zeros

first_part : gives (matmul 2 2 2) (0 ∷ 1 ∷ 2 ∷ []) (type_of (2 ∷ 2 ∷ [])) (cut_of (sharding_on two_devices by_terms (0 ∷ 2 ∷ [])) first 0 ∷ cut_of (sharding_on two_devices by_terms (2 ∷ 1 ∷ [])) second 0 ∷ zeros ∷ []) ≡ Some (part 0)
unfolding typing_of structure_of given shape_given cell_given giving gives_nest built_of folded_cell cells_of at element_of cast_of cut_of local_extent size_in start_in part_of part_size size_of_part offset_at offset_of parts_of place_in group_size_of on_axes
first_part = refl

second_part : gives (matmul 2 2 1) (0 ∷ 1 ∷ 2 ∷ []) (type_of (2 ∷ 2 ∷ [])) (cut_of (sharding_on two_devices by_terms (0 ∷ 2 ∷ [])) first 1 ∷ cut_of (sharding_on two_devices by_terms (2 ∷ 1 ∷ [])) second 1 ∷ zeros ∷ []) ≡ Some (part 1)
unfolding typing_of structure_of given shape_given cell_given giving gives_nest built_of folded_cell cells_of at element_of cast_of cut_of local_extent size_in start_in part_of part_size size_of_part offset_at offset_of parts_of place_in group_size_of on_axes
second_part = refl

abbrev all_reduce : OpKind
all_reduce = AllReduce (record { on = record { grid = []; grid_axes = pos 0 ∷ [] }; reduction = Sum; operand_type = type_of (2 ∷ 2 ∷ []) })

abbrev combination : TensorValue
combination = tensor (2 ∷ 2 ∷ []) (4 ∷ 5 ∷ 10 ∷ 11 ∷ [])

put_together : collected (op_with all_reduce (0 ∷ []) (type_of (2 ∷ 2 ∷ []))) (2 ∷ []) (part 0 ∷ part 1 ∷ []) 1 ≡ Some combination
unfolding typing_of collected shapes_collected collecting reduces cells_of at combine_of
put_together = refl

outs_once : gives (Binary Addi) (0 ∷ 1 ∷ []) (type_of (2 ∷ 2 ∷ [])) (outs ∷ combination ∷ []) ≡ Some result
unfolding typing_of given shape_given cell_given giving gives_cells formula_cell built_of cells_of at element_of
outs_once = refl
