-- The instructions of small reshards, by computation.
use Rattle.std.proofs.Common.{◌≡◌, ℕ, List, [], ◌∷◌, map, Some, pos, refl}
use Rattle.sh_base.specs.declared.numbers.Width.TheVariants.{I32}
use Rattle.sh_grid.specs.Grid.{group_size_of, on_axes}
use Rattle.sh_ir.specs.declared.operations.Op.{Op}
use Rattle.sh_ir.specs.declared.operations.OpKind.{OpKind}
use Rattle.sh_ir.specs.declared.operations.OpKind.TheVariants.{AllGather, AllSlice, AllToAll, Take}
use Rattle.sh_ir.specs.declared.shard_ops.GridAxes.{GridAxes}
use Rattle.sh_ir.specs.declared.types.Dim.{Dim}
use Rattle.sh_ir.specs.declared.types.Dim.TheVariants.{Known, Differs}
use Rattle.sh_ir.specs.declared.types.ValueType.{ValueType}
use Rattle.sh_ir.specs.declared.types.ValueType.TheVariants.{Tensor}
use Rattle.sh_sharding.specs.declared.shardings.Dimension.{Dimension}
use Rattle.sh_sharding.specs.declared.shardings.Mark.{Mark}
use Rattle.sh_sharding.specs.declared.shardings.Mark.TheVariants.{Balanced, Offsets}
use Rattle.sh_sharding.specs.LocalTypes.{local_dim, part_sizes}
use Rattle.sh_sharding.specs.Sharding.{ShardingValue, offset_at, offset_of, part_size, parts_of, size_of_part, unsplit}
use Rattle.sh_plan.specs.declared.moves.Move.{Move}
use Rattle.sh_plan.specs.declared.moves.Move.TheVariants.{M1, M2, M3, M4, M5}
use Rattle.sh_plan.specs.Instructions.{instructions_of, kind_of, no_text, part_starts}
use Rattle.sh_plan.specs.Moves.{after}

-- ---- words

abbrev on : List ℕ → List Dimension → ShardingValue
on extents ds = record { grid = record { name = []; extents = extents }; dimensions = ds }

abbrev split : ℕ → List ℕ → Mark → Dimension
split extent axes mark = record { extent = extent; axes = axes; mark = mark; low = 0; high = 0 }

abbrev along : List ℕ → GridAxes
along axes = record { grid = []; grid_axes = map pos axes }

abbrev typed : List Dim → ValueType
typed dims = Tensor (record { dims = dims; width = I32 })

-- what takes the value of one name and defines another
abbrev does : OpKind → ℕ → ℕ → List Dim → Op
does kind value name dims = record {
  kind = kind;
  operands = value ∷ [];
  defines = Some name;
  result = typed dims;
  place = no_text;
}

abbrev gather : List ℕ → ℕ → List Dim → OpKind
gather axes axis dims = AllGather (record { on = along axes; gather_axis = axis; operand_type = typed dims })

-- the instructions that take the value 0 and define ids from 1 on
abbrev lowered : ShardingValue → ShardingValue → List Move → List Op
lowered from to ms = instructions_of I32 to from ms 0 1

-- ---- a dimension of parts of 2, 3, 4 and 5 is gathered

abbrev uneven : Dimension
uneven = split 14 (0 ∷ []) (Offsets (0 ∷ 2 ∷ 5 ∷ 9 ∷ 14 ∷ []))

sizes : part_sizes (4 ∷ []) uneven ≡ 2 ∷ 3 ∷ 4 ∷ 5 ∷ []
unfolding part_sizes part_size size_of_part offset_of parts_of group_size_of on_axes
sizes = refl

uneven_gather : lowered (on (4 ∷ []) (unsplit 4 ∷ uneven ∷ [])) (on (4 ∷ []) (unsplit 4 ∷ unsplit 14 ∷ [])) (M4 1 ∷ [])
    ≡ does (gather (0 ∷ []) 1 (Known 4 ∷ Differs ∷ [])) 0 1 (Known 4 ∷ Known 14 ∷ []) ∷ []
unfolding kind_of after local_dim part_sizes part_size size_of_part offset_of parts_of group_size_of on_axes
uneven_gather = refl

-- ---- an axis goes from one dimension to another

exchange : lowered (on (2 ∷ []) (split 4 (0 ∷ []) Balanced ∷ unsplit 4 ∷ [])) (on (2 ∷ []) (unsplit 4 ∷ split 4 (0 ∷ []) Balanced ∷ [])) (M3 0 1 ∷ [])
    ≡ does (AllToAll (record { on = along (0 ∷ []); split_axis = 1; concat_axis = 0; operand_type = typed (Known 2 ∷ Known 4 ∷ []) })) 0 1 (Known 4 ∷ Known 2 ∷ []) ∷ []
unfolding kind_of after local_dim part_sizes part_size size_of_part offset_of parts_of group_size_of on_axes
exchange = refl

-- ---- a dimension split along two axes is gathered axis by axis, the innermost first

axis_by_axis : lowered (on (2 ∷ 3 ∷ []) (split 12 (0 ∷ 1 ∷ []) Balanced ∷ [])) (on (2 ∷ 3 ∷ []) (unsplit 12 ∷ [])) (M1 0 ∷ M1 0 ∷ [])
    ≡ does (gather (1 ∷ []) 0 (Known 2 ∷ [])) 0 1 (Known 6 ∷ []) ∷ does (gather (0 ∷ []) 0 (Known 6 ∷ [])) 1 2 (Known 12 ∷ []) ∷ []
unfolding kind_of after local_dim part_sizes part_size size_of_part offset_of parts_of group_size_of on_axes
axis_by_axis = refl

-- ---- parts are taken, the first of which is empty

empty_part : lowered (on (2 ∷ []) (unsplit 4 ∷ [])) (on (2 ∷ []) (split 4 (0 ∷ []) (Offsets (0 ∷ 0 ∷ 4 ∷ [])) ∷ [])) (M5 0 ∷ [])
    ≡ does (Take (record { on = along (0 ∷ []); axis = 0; starts = pos 0 ∷ pos 0 ∷ []; sizes = pos 0 ∷ pos 4 ∷ []; operand_type = typed (Known 4 ∷ []) })) 0 1 (Differs ∷ []) ∷ []
unfolding kind_of after part_starts local_dim part_sizes part_size size_of_part offset_of offset_at parts_of group_size_of on_axes
empty_part = refl

-- ---- along an axis of extent 1

single : lowered (on (1 ∷ []) (unsplit 4 ∷ [])) (on (1 ∷ []) (split 4 (0 ∷ []) Balanced ∷ [])) (M2 0 0 ∷ [])
    ≡ does (AllSlice (record { on = along (0 ∷ []); slice_axis = 0; operand_type = typed (Known 4 ∷ []) })) 0 1 (Known 4 ∷ []) ∷ []
unfolding kind_of after local_dim part_sizes part_size size_of_part offset_of parts_of group_size_of on_axes
single = refl
