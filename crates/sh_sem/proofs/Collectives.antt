-- What collectives give to groups, by computation.
use Rattle.std.proofs.Common.{◌≡◌, ℕ, List, [], ◌∷◌, refl}
use Rattle.std.specs.Prelude.{Option, Some, None, Bool, true, false, ℤ, pos, negsuc}
use Rattle.sh_base.specs.declared.numbers.Cell.TheVariants.{Undef, Val}
use Rattle.sh_base.specs.declared.numbers.Width.TheVariants.{I32}
use Rattle.sh_base.specs.declared.operations.Kind.TheVariants.{Sum, Max}
use Rattle.sh_grid.specs.Grid.{group_of, on_axes, member_of, group_size_of, place_in}
use Rattle.sh_int.specs.Reduction.{combine_of}
use Rattle.sh_ir.specs.declared.operations.Op.{Op}
use Rattle.sh_ir.specs.declared.operations.OpKind.{OpKind}
use Rattle.sh_ir.specs.declared.operations.OpKind.TheVariants.{AllGather, AllReduce, ReduceScatter, AllToAll, Shift}
use Rattle.sh_ir.specs.declared.shard_ops.GridAxes.{GridAxes}
use Rattle.sh_ir.specs.declared.types.ValueType.{ValueType}
use Rattle.sh_ir.specs.Typing.{typing_of}
use Rattle.sh_tensor.specs.Tensor.{TensorValue, at, cells_of}
use Rattle.sh_sem.specs.Collected.{collected, shapes_collected, collecting, gathers, reduces, scatters, exchanges, shifts}
use Rattle.sh_sem.proofs.Samples.{type_of, open_type, tensor, op_with}
use Rattle.sh_sem.specs.Steps.{steps_on}

-- a grid of two devices, and the groups of its one axis
abbrev pair : List ℕ
pair = 2 ∷ []

abbrev on : GridAxes
on = record { grid = []; grid_axes = pos 0 ∷ [] }

-- what a collective gives at a place
abbrev gives_at : OpKind → ValueType → List TensorValue → ℕ → Option TensorValue
gives_at kind result ts p = collected (op_with kind (0 ∷ []) result) pair ts p

-- ---- all_gather

abbrev gather : OpKind
gather = AllGather (record { on = on; gather_axis = 0; operand_type = open_type })

-- pieces of unequal size
gathered : gives_at gather (type_of (3 ∷ [])) (tensor (2 ∷ []) (1 ∷ 2 ∷ []) ∷ tensor (1 ∷ []) (3 ∷ []) ∷ []) 1
    ≡ Some (tensor (3 ∷ []) (1 ∷ 2 ∷ 3 ∷ []))
unfolding typing_of collected shapes_collected collecting gathers reduces scatters exchanges shifts combine_of cells_of at on_axes
gathered = refl

-- the whole has another extent than its type knows
misfit : gives_at gather (type_of (4 ∷ [])) (tensor (2 ∷ []) (1 ∷ 2 ∷ []) ∷ tensor (1 ∷ []) (3 ∷ []) ∷ []) 0 ≡ None
unfolding typing_of collected shapes_collected collecting gathers reduces scatters exchanges shifts combine_of cells_of at on_axes
misfit = refl

-- ---- all_reduce

abbrev reduce : ValueType → OpKind
reduce type = AllReduce (record { on = on; reduction = Max; operand_type = type })

reduced : gives_at (reduce (type_of (2 ∷ []))) (type_of (2 ∷ []))
    (tensor (2 ∷ []) (4294967295 ∷ 2 ∷ []) ∷ record { shape = 2 ∷ []; width = I32; cells = Val 1 ∷ Undef ∷ [] } ∷ []) 0
    ≡ Some (record { shape = 2 ∷ []; width = I32; cells = Val 1 ∷ Undef ∷ [] })
unfolding typing_of collected shapes_collected collecting gathers reduces scatters exchanges shifts combine_of cells_of at on_axes
reduced = refl

other_sizes : gives_at (reduce open_type) open_type (tensor (2 ∷ []) (1 ∷ 2 ∷ []) ∷ tensor (3 ∷ []) (1 ∷ 2 ∷ 3 ∷ []) ∷ []) 0 ≡ None
unfolding typing_of collected shapes_collected collecting gathers reduces scatters exchanges shifts combine_of cells_of at on_axes
other_sizes = refl

-- a wrong extent at one member is a mismatch of the whole group
one_member : gives_at (reduce (type_of (2 ∷ []))) open_type (tensor (2 ∷ []) (1 ∷ 2 ∷ []) ∷ tensor (3 ∷ []) (1 ∷ 2 ∷ 3 ∷ []) ∷ []) 0 ≡ None
unfolding typing_of collected shapes_collected collecting gathers reduces scatters exchanges shifts combine_of cells_of at on_axes
one_member = refl

-- ---- reduce_scatter

abbrev scatter : OpKind
scatter = ReduceScatter (record { on = on; reduction = Sum; scatter_axis = 0; operand_type = open_type })

scattered : gives_at scatter open_type (tensor (4 ∷ []) (1 ∷ 2 ∷ 3 ∷ 4 ∷ []) ∷ tensor (4 ∷ []) (10 ∷ 20 ∷ 30 ∷ 40 ∷ []) ∷ []) 1
    ≡ Some (tensor (2 ∷ []) (33 ∷ 44 ∷ []))
unfolding typing_of collected shapes_collected collecting gathers reduces scatters exchanges shifts combine_of cells_of at on_axes
scattered = refl

not_divided : gives_at scatter open_type (tensor (3 ∷ []) (1 ∷ 2 ∷ 3 ∷ []) ∷ tensor (3 ∷ []) (1 ∷ 2 ∷ 3 ∷ []) ∷ []) 0 ≡ None
unfolding typing_of collected shapes_collected collecting gathers reduces scatters exchanges shifts combine_of cells_of at on_axes
not_divided = refl

-- ---- all_to_all

abbrev exchange : ℕ → ℕ → OpKind
exchange split concat =
    AllToAll (record { on = on; split_axis = split; concat_axis = concat; operand_type = type_of (2 ∷ 2 ∷ []) })

exchanged : gives_at (exchange 1 0) (type_of (4 ∷ 1 ∷ []))
    (tensor (2 ∷ 2 ∷ []) (1 ∷ 2 ∷ 3 ∷ 4 ∷ []) ∷ tensor (2 ∷ 2 ∷ []) (10 ∷ 20 ∷ 30 ∷ 40 ∷ []) ∷ []) 1
    ≡ Some (tensor (4 ∷ 1 ∷ []) (2 ∷ 4 ∷ 20 ∷ 40 ∷ []))
unfolding typing_of collected shapes_collected collecting gathers reduces scatters exchanges shifts combine_of cells_of at on_axes
exchanged = refl

-- along one dimension the extent stays
within : gives_at (exchange 0 0) (type_of (2 ∷ 2 ∷ []))
    (tensor (2 ∷ 2 ∷ []) (1 ∷ 2 ∷ 3 ∷ 4 ∷ []) ∷ tensor (2 ∷ 2 ∷ []) (10 ∷ 20 ∷ 30 ∷ 40 ∷ []) ∷ []) 0
    ≡ Some (tensor (2 ∷ 2 ∷ []) (1 ∷ 2 ∷ 10 ∷ 20 ∷ []))
unfolding typing_of collected shapes_collected collecting gathers reduces scatters exchanges shifts combine_of cells_of at on_axes
within = refl

-- ---- shift

-- along axis 1 of a grid of 2x3, whose groups have three members
abbrev shift : ℤ → Bool → OpKind
shift offset rotate = Shift (record {
  on = record { grid = []; grid_axes = pos 1 ∷ [] };
  shift_axis = 1;
  offset = offset;
  rotate = rotate;
  operand_type = type_of (1 ∷ []);
})

abbrev shifts_to : ℤ → Bool → ℕ → Option TensorValue
shifts_to offset rotate p =
    collected (op_with (shift offset rotate) (0 ∷ []) (type_of (1 ∷ []))) (2 ∷ 3 ∷ [])
    (tensor (1 ∷ []) (10 ∷ []) ∷ tensor (1 ∷ []) (20 ∷ []) ∷ tensor (1 ∷ []) (30 ∷ []) ∷ []) p

-- the operand of the member before
from_before : shifts_to (pos 1) false 1 ≡ Some (tensor (1 ∷ []) (10 ∷ []))
unfolding typing_of collected shapes_collected collecting gathers reduces scatters exchanges shifts combine_of cells_of at on_axes
from_before = refl

from_none : shifts_to (pos 1) false 0 ≡ Some (record { shape = 1 ∷ []; width = I32; cells = Undef ∷ [] })
unfolding typing_of collected shapes_collected collecting gathers reduces scatters exchanges shifts combine_of cells_of at on_axes
from_none = refl

round : shifts_to (pos 1) true 0 ≡ Some (tensor (1 ∷ []) (30 ∷ []))
unfolding typing_of collected shapes_collected collecting gathers reduces scatters exchanges shifts combine_of cells_of at on_axes
round = refl

-- by -1: the operand of the member behind
from_behind : shifts_to (negsuc 0) false 1 ≡ Some (tensor (1 ∷ []) (30 ∷ []))
unfolding typing_of collected shapes_collected collecting gathers reduces scatters exchanges shifts combine_of cells_of at on_axes
from_behind = refl

past_the_edge : shifts_to (negsuc 0) false 2 ≡ Some (record { shape = 1 ∷ []; width = I32; cells = Undef ∷ [] })
unfolding typing_of collected shapes_collected collecting gathers reduces scatters exchanges shifts combine_of cells_of at on_axes
past_the_edge = refl

-- ---- members

abbrev across : List ℤ → Op
across axes =
    op_with (AllGather (record { on = record { grid = []; grid_axes = axes }; gather_axis = 0; operand_type = open_type })) (0 ∷ []) open_type

-- on a grid of 2x2 the group along both axes, in both orders
members_in_order : (steps_on (2 ∷ 2 ∷ [])).members (across (pos 0 ∷ pos 1 ∷ [])) 3 ≡ 0 ∷ 1 ∷ 2 ∷ 3 ∷ []
unfolding steps_on group_of member_of group_size_of place_in on_axes
members_in_order = refl

members_swapped : (steps_on (2 ∷ 2 ∷ [])).members (across (pos 1 ∷ pos 0 ∷ [])) 3 ≡ 0 ∷ 2 ∷ 1 ∷ 3 ∷ []
unfolding steps_on group_of member_of group_size_of place_in on_axes
members_swapped = refl

members_of_one_axis : (steps_on (2 ∷ 2 ∷ [])).members (across (pos 0 ∷ [])) 1 ≡ 1 ∷ 3 ∷ []
unfolding steps_on group_of member_of group_size_of place_in on_axes
members_of_one_axis = refl

member_alone : (steps_on (2 ∷ 2 ∷ [])).members (across []) 2 ≡ 2 ∷ []
unfolding steps_on group_of member_of group_size_of place_in on_axes
member_alone = refl
