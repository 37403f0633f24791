-- What functions in device form give in step, by computation.
use Rattle.std.proofs.Common.{◌≡◌, ℕ, suc, List, [], ◌∷◌, ◌++◌, map, Some, None, refl}
use Rattle.std.specs.Prelude.{Bool, ℤ, pos, negsuc, false, true, length}
use Rattle.sh_base.specs.declared.numbers.Cell.{Cell}
use Rattle.sh_base.specs.declared.numbers.Cell.TheVariants.{Undef, Val}
use Rattle.sh_base.specs.declared.numbers.Width.TheVariants.{I32}
use Rattle.sh_base.specs.declared.operations.BinOp.TheVariants.{Addi, Divsi}
use Rattle.sh_base.specs.declared.operations.Kind.{Kind}
use Rattle.sh_base.specs.declared.operations.Kind.TheVariants.{And, Max, Min, Or, Product, Sum, Xor}
use Rattle.sh_grid.specs.Grid.{group_of, group_size_of, member_of, on_axes, place_in}
use Rattle.sh_int.specs.Elements.{cast_of, element_of}
use Rattle.sh_int.specs.Reduction.{combine_of}
use Rattle.sh_ir.specs.declared.arith_ops.Contents.TheVariants.{Held}
use Rattle.sh_ir.specs.declared.functions.Arg.{Arg}
use Rattle.sh_ir.specs.declared.functions.Func.{Func}
use Rattle.sh_ir.specs.declared.linalg_ops.InsOuts.{InsOuts}
use Rattle.sh_ir.specs.declared.operations.Op.{Op}
use Rattle.sh_ir.specs.declared.operations.OpKind.{OpKind}
use Rattle.sh_ir.specs.declared.operations.OpKind.TheVariants.{AllGather, AllReduce, AllToAll, Binary, Constant, Fill, Matmul, ReduceScatter, Return, Shift}
use Rattle.sh_ir.specs.declared.shard_ops.GridAxes.{GridAxes}
use Rattle.sh_ir.specs.declared.types.Dim.TheVariants.{Differs, Known}
use Rattle.sh_ir.specs.declared.types.ValueType.{ValueType}
use Rattle.sh_ir.specs.declared.types.ValueType.TheVariants.{Nothing, Scalar, Tensor}
use Rattle.sh_ir.specs.Loops.{structure_of}
use Rattle.sh_ir.specs.Typing.{typing_of}
use Rattle.sh_lockstep.specs.Behind.{arguments_in}
use Rattle.sh_pieces.specs.Instructions.{at_instruction}
use Rattle.sh_sem.specs.Collected.{collected, collecting, exchanges, gathers, reduces, scatters, shapes_collected, shifts}
use Rattle.sh_sem.specs.Given.{built_of, cell_given, given, gives_cells, gives_constant, gives_nest, giving, shape_given}
use Rattle.sh_sem.specs.Nest.{folded_cell}
use Rattle.sh_sem.specs.Region.{body_cell, placed, region_cell}
use Rattle.sh_sem.specs.Scalars.{formula_cell}
use Rattle.sh_sem.specs.Steps.{device_function, device_program, steps_on}
use Rattle.sh_tensor.specs.Tensor.{TensorValue, at, cells_of}
use Rattle.sh_turns.specs.Lockstep.{Done, MismatchAt, Outcome, StuckAt, lockstep}

-- ---- words

abbrev type_of : List ℕ → ValueType
type_of shape = Tensor (record { dims = map (λ n. Known n) shape; width = I32 })

-- devices differ in the only extent
abbrev open_type : ValueType
open_type = Tensor (record { dims = Differs ∷ []; width = I32 })

abbrev cells : List ℕ → List Cell → TensorValue
cells shape all = record { shape = shape; width = I32; cells = all }

abbrev tensor : List ℕ → List ℕ → TensorValue
tensor shape numbers = cells shape (map (λ n. Val n) numbers)

abbrev does : OpKind → List ℕ → ℕ → ValueType → Op
does kind operands name result = record {
  kind = kind;
  operands = operands;
  defines = Some name;
  result = result;
  place = record { line = 1; column = 1 };
}

abbrev numbered : ℕ → List ValueType → List Arg
numbered n [] = []
numbered n (t ∷ types) = record { id = n; value_type = t } ∷ numbered (suc n) types

-- a function of the values 0, 1 and so on that gives back the value with this name
abbrev function : List ValueType → List Op → ℕ → ValueType → Func
function parameters ops back result = record {
  name = [];
  private = false;
  args = numbered 0 parameters;
  results = result ∷ [];
  ops = ops ++ record {
    kind = Return (record { operand_types = result ∷ [] });
    operands = back ∷ [];
    defines = None;
    result = Nothing;
    place = record { line = 1; column = 1 };
  } ∷ [];
  carry = None;
  place = record { line = 1; column = 1 };
}

-- how it ends on a grid of these extents, on these arguments of its devices
abbrev ends : Func → List ℕ → List (List TensorValue) → Outcome TensorValue
ends f grid args = lockstep (device_program f grid (arguments_in args))

-- one value each, one device after another
abbrev each : List TensorValue → List (List TensorValue)
each = map (λ t. t ∷ [])

-- ---- local instructions

abbrev by_element : OpKind → Func
by_element kind = function (type_of (2 ∷ []) ∷ type_of (2 ∷ []) ∷ []) (does kind (0 ∷ 1 ∷ []) 2 (type_of (2 ∷ [])) ∷ []) 2 (type_of (2 ∷ []))

-- each device adds its halves, and a sum that is too large wraps round
halves_added : ends (by_element (Binary Addi)) (2 ∷ [])
    ((tensor (2 ∷ []) (2147483647 ∷ 1 ∷ []) ∷ tensor (2 ∷ []) (1 ∷ 1 ∷ []) ∷ [])
    ∷ (tensor (2 ∷ []) (2 ∷ 3 ∷ []) ∷ tensor (2 ∷ []) (1 ∷ 1 ∷ []) ∷ []) ∷ [])
    ≡ Done (each (tensor (2 ∷ []) (2147483648 ∷ 2 ∷ []) ∷ tensor (2 ∷ []) (3 ∷ 4 ∷ []) ∷ []))
unfolding at_instruction steps_on device_function device_program typing_of structure_of given shape_given cell_given giving gives_cells gives_constant gives_nest built_of folded_cell region_cell placed body_cell formula_cell cells_of at element_of cast_of combine_of collected shapes_collected collecting gathers reduces scatters exchanges shifts group_of member_of place_in group_size_of on_axes
halves_added = refl

-- one divisor is 0, and it is on device 1
one_is_stuck : ends (by_element (Binary Divsi)) (2 ∷ [])
    ((tensor (2 ∷ []) (8 ∷ 8 ∷ []) ∷ tensor (2 ∷ []) (1 ∷ 2 ∷ []) ∷ [])
    ∷ (tensor (2 ∷ []) (8 ∷ 8 ∷ []) ∷ tensor (2 ∷ []) (4 ∷ 0 ∷ []) ∷ []) ∷ [])
    ≡ StuckAt 0 1
unfolding at_instruction steps_on device_function device_program typing_of structure_of given shape_given cell_given giving gives_cells gives_constant gives_nest built_of folded_cell region_cell placed body_cell formula_cell cells_of at element_of cast_of combine_of collected shapes_collected collecting gathers reduces scatters exchanges shifts group_of member_of place_in group_size_of on_axes
one_is_stuck = refl

-- ---- a product whose sum is split

abbrev on : List ℤ → GridAxes
on axes = record { grid = []; grid_axes = axes }

abbrev square : ValueType
square = type_of (2 ∷ 2 ∷ [])

abbrev ins_outs : List ValueType → ValueType → InsOuts
ins_outs ins outs = record { ins_count = length ins; ins_types = ins; outs_count = 1; outs_types = outs ∷ [] }

abbrev split_product : Func
split_product = function (square ∷ square ∷ square ∷ [])
    (does (Constant (record { value_type = Scalar I32; contents = Held (Val 0 ∷ []) })) [] 3 (Scalar I32)
    ∷ does (Fill (ins_outs (Scalar I32 ∷ []) square)) (3 ∷ 2 ∷ []) 4 square
    ∷ does (Matmul (ins_outs (square ∷ square ∷ []) square)) (0 ∷ 1 ∷ 4 ∷ []) 5 square
    ∷ does (AllReduce (record { on = on (pos 0 ∷ []); reduction = Sum; operand_type = square })) (5 ∷ []) 6 square
    ∷ does (Binary Addi) (6 ∷ 2 ∷ []) 7 square ∷ [])
    7 square

-- the outs count once
outs_count_once : ends split_product (2 ∷ [])
    ((tensor (2 ∷ 2 ∷ []) (1 ∷ 2 ∷ 5 ∷ 6 ∷ []) ∷ tensor (2 ∷ 2 ∷ []) (1 ∷ 0 ∷ 0 ∷ 1 ∷ []) ∷ tensor (2 ∷ 2 ∷ []) (1 ∷ 1 ∷ 1 ∷ 1 ∷ []) ∷ [])
    ∷ (tensor (2 ∷ 2 ∷ []) (3 ∷ 4 ∷ 7 ∷ 8 ∷ []) ∷ tensor (2 ∷ 2 ∷ []) (1 ∷ 0 ∷ 0 ∷ 1 ∷ []) ∷ tensor (2 ∷ 2 ∷ []) (1 ∷ 1 ∷ 1 ∷ 1 ∷ []) ∷ []) ∷ [])
    ≡ Done (each (tensor (2 ∷ 2 ∷ []) (5 ∷ 7 ∷ 13 ∷ 15 ∷ []) ∷ tensor (2 ∷ 2 ∷ []) (5 ∷ 7 ∷ 13 ∷ 15 ∷ []) ∷ []))
unfolding at_instruction steps_on device_function device_program typing_of structure_of given shape_given cell_given giving gives_cells gives_constant gives_nest built_of folded_cell region_cell placed body_cell formula_cell cells_of at element_of cast_of combine_of collected shapes_collected collecting gathers reduces scatters exchanges shifts group_of member_of place_in group_size_of on_axes
outs_count_once = refl

-- ---- collectives

-- one collective, and what it gives
abbrev alone : OpKind → ValueType → ValueType → Func
alone kind operand result = function (operand ∷ []) (does kind (0 ∷ []) 1 result ∷ []) 1 result

-- one cell on each of four devices
abbrev four : List (List TensorValue)
four = each (tensor (1 ∷ []) (10 ∷ []) ∷ tensor (1 ∷ []) (20 ∷ []) ∷ tensor (1 ∷ []) (30 ∷ []) ∷ tensor (1 ∷ []) (40 ∷ []) ∷ [])

abbrev gather : List ℤ → ℕ → Func
gather axes extent = alone (AllGather (record { on = on axes; gather_axis = 0; operand_type = type_of (1 ∷ []) })) (type_of (1 ∷ [])) (type_of (extent ∷ []))

-- the groups of one axis of a grid of 2x2
gathered_along_columns : ends (gather (pos 0 ∷ []) 2) (2 ∷ 2 ∷ []) four
    ≡ Done (each (tensor (2 ∷ []) (10 ∷ 30 ∷ []) ∷ tensor (2 ∷ []) (20 ∷ 40 ∷ []) ∷ tensor (2 ∷ []) (10 ∷ 30 ∷ []) ∷ tensor (2 ∷ []) (20 ∷ 40 ∷ []) ∷ []))
unfolding at_instruction steps_on device_function device_program typing_of structure_of given shape_given cell_given giving gives_cells gives_constant gives_nest built_of folded_cell region_cell placed body_cell formula_cell cells_of at element_of cast_of combine_of collected shapes_collected collecting gathers reduces scatters exchanges shifts group_of member_of place_in group_size_of on_axes
gathered_along_columns = refl

-- the last axis is the innermost of a group along both
gathered_in_order : ends (gather (pos 0 ∷ pos 1 ∷ []) 4) (2 ∷ 2 ∷ []) four
    ≡ Done (each (tensor (4 ∷ []) (10 ∷ 20 ∷ 30 ∷ 40 ∷ []) ∷ tensor (4 ∷ []) (10 ∷ 20 ∷ 30 ∷ 40 ∷ []) ∷ tensor (4 ∷ []) (10 ∷ 20 ∷ 30 ∷ 40 ∷ []) ∷ tensor (4 ∷ []) (10 ∷ 20 ∷ 30 ∷ 40 ∷ []) ∷ []))
unfolding at_instruction steps_on device_function device_program typing_of structure_of given shape_given cell_given giving gives_cells gives_constant gives_nest built_of folded_cell region_cell placed body_cell formula_cell cells_of at element_of cast_of combine_of collected shapes_collected collecting gathers reduces scatters exchanges shifts group_of member_of place_in group_size_of on_axes
gathered_in_order = refl

gathered_swapped : ends (gather (pos 1 ∷ pos 0 ∷ []) 4) (2 ∷ 2 ∷ []) four
    ≡ Done (each (tensor (4 ∷ []) (10 ∷ 30 ∷ 20 ∷ 40 ∷ []) ∷ tensor (4 ∷ []) (10 ∷ 30 ∷ 20 ∷ 40 ∷ []) ∷ tensor (4 ∷ []) (10 ∷ 30 ∷ 20 ∷ 40 ∷ []) ∷ tensor (4 ∷ []) (10 ∷ 30 ∷ 20 ∷ 40 ∷ []) ∷ []))
unfolding at_instruction steps_on device_function device_program typing_of structure_of given shape_given cell_given giving gives_cells gives_constant gives_nest built_of folded_cell region_cell placed body_cell formula_cell cells_of at element_of cast_of combine_of collected shapes_collected collecting gathers reduces scatters exchanges shifts group_of member_of place_in group_size_of on_axes
gathered_swapped = refl

-- a device alone
gathered_alone : ends (gather (pos 0 ∷ []) 1) (1 ∷ []) (each (tensor (1 ∷ []) (10 ∷ []) ∷ []))
    ≡ Done (each (tensor (1 ∷ []) (10 ∷ []) ∷ []))
unfolding at_instruction steps_on device_function device_program typing_of structure_of given shape_given cell_given giving gives_cells gives_constant gives_nest built_of folded_cell region_cell placed body_cell formula_cell cells_of at element_of cast_of combine_of collected shapes_collected collecting gathers reduces scatters exchanges shifts group_of member_of place_in group_size_of on_axes
gathered_alone = refl

abbrev reduce : Kind → Func
reduce kind = alone (AllReduce (record { on = on (pos 0 ∷ []); reduction = kind; operand_type = type_of (2 ∷ []) })) (type_of (2 ∷ [])) (type_of (2 ∷ []))

-- 6 and 3, and an undefined cell
abbrev with_hole : List (List TensorValue)
with_hole = each (tensor (2 ∷ []) (6 ∷ 1 ∷ []) ∷ cells (2 ∷ []) (Val 3 ∷ Undef ∷ []) ∷ [])

abbrev both : ℕ → Outcome TensorValue
both n = Done (each (cells (2 ∷ []) (Val n ∷ Undef ∷ []) ∷ cells (2 ∷ []) (Val n ∷ Undef ∷ []) ∷ []))

reduced_by_sum : ends (reduce Sum) (2 ∷ []) with_hole ≡ both 9
unfolding at_instruction steps_on device_function device_program typing_of structure_of given shape_given cell_given giving gives_cells gives_constant gives_nest built_of folded_cell region_cell placed body_cell formula_cell cells_of at element_of cast_of combine_of collected shapes_collected collecting gathers reduces scatters exchanges shifts group_of member_of place_in group_size_of on_axes
reduced_by_sum = refl

reduced_by_product : ends (reduce Product) (2 ∷ []) with_hole ≡ both 18
unfolding at_instruction steps_on device_function device_program typing_of structure_of given shape_given cell_given giving gives_cells gives_constant gives_nest built_of folded_cell region_cell placed body_cell formula_cell cells_of at element_of cast_of combine_of collected shapes_collected collecting gathers reduces scatters exchanges shifts group_of member_of place_in group_size_of on_axes
reduced_by_product = refl

reduced_by_max : ends (reduce Max) (2 ∷ []) with_hole ≡ both 6
unfolding at_instruction steps_on device_function device_program typing_of structure_of given shape_given cell_given giving gives_cells gives_constant gives_nest built_of folded_cell region_cell placed body_cell formula_cell cells_of at element_of cast_of combine_of collected shapes_collected collecting gathers reduces scatters exchanges shifts group_of member_of place_in group_size_of on_axes
reduced_by_max = refl

reduced_by_min : ends (reduce Min) (2 ∷ []) with_hole ≡ both 3
unfolding at_instruction steps_on device_function device_program typing_of structure_of given shape_given cell_given giving gives_cells gives_constant gives_nest built_of folded_cell region_cell placed body_cell formula_cell cells_of at element_of cast_of combine_of collected shapes_collected collecting gathers reduces scatters exchanges shifts group_of member_of place_in group_size_of on_axes
reduced_by_min = refl

reduced_by_and : ends (reduce And) (2 ∷ []) with_hole ≡ both 2
unfolding at_instruction steps_on device_function device_program typing_of structure_of given shape_given cell_given giving gives_cells gives_constant gives_nest built_of folded_cell region_cell placed body_cell formula_cell cells_of at element_of cast_of combine_of collected shapes_collected collecting gathers reduces scatters exchanges shifts group_of member_of place_in group_size_of on_axes
reduced_by_and = refl

reduced_by_or : ends (reduce Or) (2 ∷ []) with_hole ≡ both 7
unfolding at_instruction steps_on device_function device_program typing_of structure_of given shape_given cell_given giving gives_cells gives_constant gives_nest built_of folded_cell region_cell placed body_cell formula_cell cells_of at element_of cast_of combine_of collected shapes_collected collecting gathers reduces scatters exchanges shifts group_of member_of place_in group_size_of on_axes
reduced_by_or = refl

reduced_by_xor : ends (reduce Xor) (2 ∷ []) with_hole ≡ both 5
unfolding at_instruction steps_on device_function device_program typing_of structure_of given shape_given cell_given giving gives_cells gives_constant gives_nest built_of folded_cell region_cell placed body_cell formula_cell cells_of at element_of cast_of combine_of collected shapes_collected collecting gathers reduces scatters exchanges shifts group_of member_of place_in group_size_of on_axes
reduced_by_xor = refl

abbrev scatter : ValueType → ValueType → Func
scatter operand result = alone (ReduceScatter (record { on = on (pos 0 ∷ []); reduction = Sum; scatter_axis = 0; operand_type = operand })) operand result

scattered : ends (scatter (type_of (2 ∷ [])) (type_of (1 ∷ []))) (2 ∷ []) (each (tensor (2 ∷ []) (1 ∷ 2 ∷ []) ∷ tensor (2 ∷ []) (10 ∷ 20 ∷ []) ∷ []))
    ≡ Done (each (tensor (1 ∷ []) (11 ∷ []) ∷ tensor (1 ∷ []) (22 ∷ []) ∷ []))
unfolding at_instruction steps_on device_function device_program typing_of structure_of given shape_given cell_given giving gives_cells gives_constant gives_nest built_of folded_cell region_cell placed body_cell formula_cell cells_of at element_of cast_of combine_of collected shapes_collected collecting gathers reduces scatters exchanges shifts group_of member_of place_in group_size_of on_axes
scattered = refl

-- three cells are not two pieces
scattered_unevenly : ends (scatter open_type open_type) (2 ∷ []) (each (tensor (3 ∷ []) (1 ∷ 2 ∷ 3 ∷ []) ∷ tensor (3 ∷ []) (1 ∷ 2 ∷ 3 ∷ []) ∷ []))
    ≡ MismatchAt 0 0
unfolding at_instruction steps_on device_function device_program typing_of structure_of given shape_given cell_given giving gives_cells gives_constant gives_nest built_of folded_cell region_cell placed body_cell formula_cell cells_of at element_of cast_of combine_of collected shapes_collected collecting gathers reduces scatters exchanges shifts group_of member_of place_in group_size_of on_axes
scattered_unevenly = refl

abbrev exchange : ValueType → ValueType → Func
exchange operand result = alone (AllToAll (record { on = on (pos 0 ∷ []); split_axis = 1; concat_axis = 0; operand_type = operand })) operand result

-- rows become columns
exchanged : ends (exchange (type_of (1 ∷ 2 ∷ [])) (type_of (2 ∷ 1 ∷ []))) (2 ∷ []) (each (tensor (1 ∷ 2 ∷ []) (1 ∷ 2 ∷ []) ∷ tensor (1 ∷ 2 ∷ []) (3 ∷ 4 ∷ []) ∷ []))
    ≡ Done (each (tensor (2 ∷ 1 ∷ []) (1 ∷ 3 ∷ []) ∷ tensor (2 ∷ 1 ∷ []) (2 ∷ 4 ∷ []) ∷ []))
unfolding at_instruction steps_on device_function device_program typing_of structure_of given shape_given cell_given giving gives_cells gives_constant gives_nest built_of folded_cell region_cell placed body_cell formula_cell cells_of at element_of cast_of combine_of collected shapes_collected collecting gathers reduces scatters exchanges shifts group_of member_of place_in group_size_of on_axes
exchanged = refl

exchanged_unevenly : ends (exchange (type_of (1 ∷ 3 ∷ [])) (type_of (2 ∷ 1 ∷ []))) (2 ∷ []) (each (tensor (1 ∷ 3 ∷ []) (1 ∷ 2 ∷ 3 ∷ []) ∷ tensor (1 ∷ 3 ∷ []) (4 ∷ 5 ∷ 6 ∷ []) ∷ []))
    ≡ MismatchAt 0 0
unfolding at_instruction steps_on device_function device_program typing_of structure_of given shape_given cell_given giving gives_cells gives_constant gives_nest built_of folded_cell region_cell placed body_cell formula_cell cells_of at element_of cast_of combine_of collected shapes_collected collecting gathers reduces scatters exchanges shifts group_of member_of place_in group_size_of on_axes
exchanged_unevenly = refl

-- along the second axis
abbrev shift : ℤ → Bool → Func
shift offset rotate = alone (Shift (record { on = on (pos 1 ∷ []); shift_axis = 1; offset = offset; rotate = rotate; operand_type = type_of (1 ∷ []) })) (type_of (1 ∷ [])) (type_of (1 ∷ []))

abbrev nothing : TensorValue
nothing = cells (1 ∷ []) (Undef ∷ [])

-- by 1: past the edge there is nothing
shifted : ends (shift (pos 1) false) (2 ∷ 2 ∷ []) four
    ≡ Done (each (nothing ∷ tensor (1 ∷ []) (10 ∷ []) ∷ nothing ∷ tensor (1 ∷ []) (30 ∷ []) ∷ []))
unfolding at_instruction steps_on device_function device_program typing_of structure_of given shape_given cell_given giving gives_cells gives_constant gives_nest built_of folded_cell region_cell placed body_cell formula_cell cells_of at element_of cast_of combine_of collected shapes_collected collecting gathers reduces scatters exchanges shifts group_of member_of place_in group_size_of on_axes
shifted = refl

shifted_round : ends (shift (pos 1) true) (2 ∷ 2 ∷ []) four
    ≡ Done (each (tensor (1 ∷ []) (20 ∷ []) ∷ tensor (1 ∷ []) (10 ∷ []) ∷ tensor (1 ∷ []) (40 ∷ []) ∷ tensor (1 ∷ []) (30 ∷ []) ∷ []))
unfolding at_instruction steps_on device_function device_program typing_of structure_of given shape_given cell_given giving gives_cells gives_constant gives_nest built_of folded_cell region_cell placed body_cell formula_cell cells_of at element_of cast_of combine_of collected shapes_collected collecting gathers reduces scatters exchanges shifts group_of member_of place_in group_size_of on_axes
shifted_round = refl

shifted_back : ends (shift (negsuc 0) false) (2 ∷ 2 ∷ []) four
    ≡ Done (each (tensor (1 ∷ []) (20 ∷ []) ∷ nothing ∷ tensor (1 ∷ []) (40 ∷ []) ∷ nothing ∷ []))
unfolding at_instruction steps_on device_function device_program typing_of structure_of given shape_given cell_given giving gives_cells gives_constant gives_nest built_of folded_cell region_cell placed body_cell formula_cell cells_of at element_of cast_of combine_of collected shapes_collected collecting gathers reduces scatters exchanges shifts group_of member_of place_in group_size_of on_axes
shifted_back = refl

-- ---- a mismatch

-- devices with 2 and 3 cells have nothing to reduce, and it is the first that is named
sizes_differ : ends (alone (AllReduce (record { on = on (pos 0 ∷ []); reduction = Sum; operand_type = open_type })) open_type open_type) (2 ∷ [])
    (each (tensor (2 ∷ []) (1 ∷ 2 ∷ []) ∷ tensor (3 ∷ []) (3 ∷ 4 ∷ 5 ∷ []) ∷ []))
    ≡ MismatchAt 0 0
unfolding at_instruction steps_on device_function device_program typing_of structure_of given shape_given cell_given giving gives_cells gives_constant gives_nest built_of folded_cell region_cell placed body_cell formula_cell cells_of at element_of cast_of combine_of collected shapes_collected collecting gathers reduces scatters exchanges shifts group_of member_of place_in group_size_of on_axes
sizes_differ = refl

-- it is the instruction behind the local one, on the first device of the group
behind_a_step : ends (function (open_type ∷ []) (does (Binary Addi) (0 ∷ 0 ∷ []) 1 open_type
    ∷ does (AllReduce (record { on = on (pos 1 ∷ []); reduction = Sum; operand_type = open_type })) (1 ∷ []) 2 open_type ∷ []) 2 open_type) (2 ∷ 2 ∷ [])
    (each (tensor (1 ∷ []) (1 ∷ []) ∷ tensor (1 ∷ []) (2 ∷ []) ∷ tensor (1 ∷ []) (3 ∷ []) ∷ tensor (2 ∷ []) (4 ∷ 5 ∷ []) ∷ []))
    ≡ MismatchAt 1 2
unfolding at_instruction steps_on device_function device_program typing_of structure_of given shape_given cell_given giving gives_cells gives_constant gives_nest built_of folded_cell region_cell placed body_cell formula_cell cells_of at element_of cast_of combine_of collected shapes_collected collecting gathers reduces scatters exchanges shifts group_of member_of place_in group_size_of on_axes
behind_a_step = refl
