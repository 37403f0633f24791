-- The loops of each kind of operation, and what follows them.
use Rattle.std.specs.Prelude.{ℕ, suc, ◌&&◌, ◌||◌, not, Bool, true, List, [], ◌∷◌, ◌++◌, map, drop, get_or, nat_eq, Option, Some, None, is_some, option_map, if◌then◌else◌}
use Rattle.std.specs.List.{list_any, range_with_len}
use Rattle.std.specs.Cmp.Lexicographic.{pointwise}
use Rattle.sh_base.specs.declared.operations.Kind.{Kind}
use Rattle.sh_base.specs.declared.operations.Kind.TheVariants.{Sum}
use Rattle.sh_base.specs.Shape.{cell_count}
use Rattle.sh_ir.specs.declared.operations.OpKind.{OpKind}
use Rattle.sh_ir.specs.declared.operations.OpKind.TheVariants.{Constant, Binary, Compare, Select, Cast, Empty, ExtractSlice, InsertSlice, CollapseShape, ExpandShape, Fill, Matmul, BatchMatmul, Matvec, Vecmat, Dot, Conv1d, Conv2d, Transpose, Broadcast, Reduce, Generic, Sharding, Shard, AllGather, AllSlice, AllReduce, ReduceScatter, AllToAll, Shift, UpdateHalo, Take, Pad, Join, Call, Return}
use Rattle.sh_ir.specs.declared.tensor_ops.Slice.{Slice}
use Rattle.sh_ir.specs.declared.types.ValueType.{ValueType}
use Rattle.sh_ir.specs.Agreement.{is_tensor}
use Rattle.sh_ir.specs.Loops.{LoopMap, Step, Structure, copied, product_added, by_region, structure_of}
use Rattle.sh_ir.specs.Numbers.{as_naturals}
use Rattle.sh_ir.specs.Shapes.{shape_of}
use Rattle.sh_ir.specs.Typing.{operand_types, typing_of}
use Rattle.sh_sem.specs.Nest.{extents_by, maps_of}
use Rattle.sh_sem.specs.Scalars.{width_of}
use Rattle.sh_iface.specs.declared.options.How.{How}
use Rattle.sh_iface.specs.declared.options.How.TheVariants.{Same, Scale, Window}
use Rattle.sh_iface.specs.BodyKinds.{kind_of_body}
use Rattle.sh_iface.specs.LoopNest.{Loop, LoopNest, NestDim, NestValue}

-- ---- dimensions and loops

abbrev pub follows_none : ℕ → NestDim
follows_none extent = record { extent = extent; follow = None }

abbrev pub follows : How → ℕ → ℕ → NestDim
follows how l extent =
    record { extent = extent; follow = Some (record { loop_index = l; how = how }) }

-- a loop that the result follows
abbrev pub parallel : Bool → ℕ → Loop
parallel splittable extent = record { extent = extent; splittable = splittable; kind = None }

-- dimension i follows loop i from number `at` on
abbrev pub each_follows : ℕ → List ℕ → List NestDim
each_follows at [] = []
each_follows at (n ∷ shape) = follows Same at n ∷ each_follows (suc at) shape

-- where a test holds of a dimension it follows the loop of its number
abbrev pub some_follow : (ℕ → Bool) → ℕ → List ℕ → List NestDim
some_follow test at [] = []
some_follow test at (n ∷ shape) =
    (if test at then follows Same at n else follows_none n) ∷ some_follow test (suc at) shape

-- the loops are the dimensions of this shape
abbrev pub loops_where : (ℕ → Bool) → ℕ → List ℕ → List Loop
loops_where test at [] = []
loops_where test at (n ∷ shape) = parallel (test at) n ∷ loops_where test (suc at) shape

abbrev pub always : ℕ → Bool
always n = true

abbrev pub value_by : (List ℕ → List NestDim) → ValueType → NestValue
value_by dims type = record { dims = dims (shape_of type); width = width_of type }

-- ---- element operations and creators: all values follow the result's dimensions

abbrev pub same_nest : List ValueType → ValueType → LoopNest
same_nest operands result = record {
  loops = loops_where always 0 (shape_of result);
  operands = map (value_by (each_follows 0)) operands;
  result = value_by (each_follows 0) result;
}

-- ---- slices: a dimension that is taken whole follows

-- from 0 on, by one, as many as there are
abbrev pub takes_whole : Slice → List ℕ → ℕ → Bool
takes_whole x shape i =
    nat_eq (get_or (as_naturals x.offsets) i 1) 0
    && (nat_eq (get_or (as_naturals x.strides) i 0) 1
    && nat_eq (get_or (as_naturals x.sizes) i 0) (get_or shape i 0))

abbrev pub extract_nest : Slice → ValueType → ValueType → LoopNest
extract_nest x source result =
    let whole = takes_whole x (shape_of source) in
    record {
      loops = loops_where whole 0 (shape_of result);
      operands = value_by (some_follow whole 0) source ∷ [];
      result = value_by (each_follows 0) result;
    }

abbrev pub insert_nest : Slice → ValueType → ValueType → LoopNest
insert_nest x source result =
    let whole = takes_whole x (shape_of result) in
    record {
      loops = loops_where whole 0 (shape_of result);
      operands = value_by (some_follow whole 0) source ∷ value_by (each_follows 0) result ∷ [];
      result = value_by (each_follows 0) result;
    }

-- ---- reshapes: a loop for each group of dimensions

-- the extents of the dimensions of a group
abbrev pub extents_at : List ℕ → List ℕ → List ℕ
extents_at shape group = map (λ i. get_or shape i 0) group

-- the number of cells of all dimensions of a group but the first
abbrev pub cells_of_others : List ℕ → List ℕ → ℕ
cells_of_others shape group = cell_count (drop 1 (extents_at shape group))

abbrev pub first_extent : List ℕ → List ℕ → ℕ
first_extent shape group = get_or (extents_at shape group) 0 0

-- the dimensions of one group: the first follows the loop
abbrev pub group_dims : ℕ → List ℕ → List NestDim
group_dims l [] = []
group_dims l (n ∷ extents) = follows Same l n ∷ map follows_none extents

-- those of all groups from loop l on
abbrev pub grouped_dims : List ℕ → ℕ → List (List ℕ) → List NestDim
grouped_dims shape l [] = []
grouped_dims shape l (group ∷ groups) =
    group_dims l (extents_at shape group) ++ grouped_dims shape (suc l) groups

-- the side that has one dimension a group
abbrev pub one_dim_each : List ℕ → List ℕ → ℕ → List (List ℕ) → List NestDim
one_dim_each shape few l [] = []
one_dim_each shape few l (group ∷ groups) =
    follows (Scale (cells_of_others shape group)) l (get_or few l 0)
    ∷ one_dim_each shape few (suc l) groups

-- The side of more dimensions; without groups its dimensions, which have one cell, follow none.
abbrev pub many_side : List (List ℕ) → ValueType → NestValue
many_side [] type = value_by (map follows_none) type
many_side (group ∷ groups) type = value_by (λ shape. grouped_dims shape 0 (group ∷ groups)) type

abbrev pub few_side : List (List ℕ) → List ℕ → ValueType → NestValue
few_side groups many type = value_by (λ few. one_dim_each many few 0 groups) type

abbrev pub collapse_nest : List (List ℕ) → ValueType → ValueType → LoopNest
collapse_nest groups source result = record {
  loops = map (λ group. parallel true (first_extent (shape_of source) group)) groups;
  operands = many_side groups source ∷ [];
  result = few_side groups (shape_of source) result;
}

-- a loop can't be split where parts of any length would have no cell
abbrev pub expand_loop : List ℕ → List ℕ → Loop
expand_loop shape group =
    parallel (not (nat_eq (cells_of_others shape group) 0)) (first_extent shape group)

abbrev pub expand_nest : List (List ℕ) → ValueType → ValueType → LoopNest
expand_nest groups source result = record {
  loops = map (expand_loop (shape_of result)) groups;
  operands = few_side groups (shape_of result) source ∷ [];
  result = many_side groups result;
}

-- ---- structured operations: a dimension follows the loop that its map gives

-- the result has a dimension for the loop
abbrev pub is_parallel : Structure → ℕ → Bool
is_parallel s l = list_any (λ loops. pointwise nat_eq loops (l ∷ [])) s.output

abbrev pub kind_of_step : Step → Option Kind
kind_of_step copied = None
kind_of_step product_added = Some Sum
kind_of_step (by_region body) = kind_of_body body

abbrev pub structured_loop : Structure → List ℕ → ℕ → Loop
structured_loop s extents l =
    let kind = if is_parallel s l then None else kind_of_step s.step in
    record {
      extent = get_or extents l 0;
      splittable = is_parallel s l || is_some kind;
      kind = kind;
    }

abbrev pub dim_by_map : List ℕ → ℕ → NestDim
dim_by_map [] extent = follows_none extent
dim_by_map (l ∷ []) extent = follows Same l extent
dim_by_map (l ∷ other ∷ loops) extent = follows_none extent

abbrev pub dims_by_map : LoopMap → List ℕ → List NestDim
dims_by_map [] shape = []
dims_by_map (loops ∷ dims) [] = []
dims_by_map (loops ∷ dims) (n ∷ shape) = dim_by_map loops n ∷ dims_by_map dims shape

-- the tensor operands, each by its map
abbrev pub values_by : (LoopMap → List ℕ → List NestDim) → List LoopMap → List ValueType
    → List NestValue
values_by dims [] types = []
values_by dims (map ∷ maps) [] = []
values_by dims (map ∷ maps) (t ∷ types) =
    if is_tensor t then value_by (dims map) t ∷ values_by dims maps types
    else values_by dims maps types

abbrev pub structured_extents : Structure → List ℕ
structured_extents s = extents_by s (map shape_of (operand_types s.ins_outs))

abbrev pub structured_nest : ValueType → Structure → LoopNest
structured_nest result s = record {
  loops = map (structured_loop s (structured_extents s)) (range_with_len 0 s.loops);
  operands = values_by dims_by_map (maps_of s) (operand_types s.ins_outs);
  result = value_by (dims_by_map s.output) result;
}

-- ---- convolutions: the input is read through a window, and the kernel follows none

abbrev pub convolution_loop : Structure → List ℕ → ℕ → Loop
convolution_loop s extents l = record {
  extent = get_or extents l 0;
  splittable = is_parallel s l;
  kind = if is_parallel s l then None else kind_of_step s.step;
}

abbrev pub dim_by_window : Structure → List ℕ → List ℕ → ℕ → NestDim
dim_by_window s extents [] extent = follows_none extent
dim_by_window s extents (l ∷ []) extent =
    if is_parallel s l then follows Same l extent else follows_none extent
dim_by_window s extents (l ∷ kernel ∷ loops) extent =
    follows (Window (get_or extents kernel 0)) l extent

abbrev pub dims_by_window : Structure → List ℕ → LoopMap → List ℕ → List NestDim
dims_by_window s extents [] shape = []
dims_by_window s extents (loops ∷ dims) [] = []
dims_by_window s extents (loops ∷ dims) (n ∷ shape) =
    dim_by_window s extents loops n ∷ dims_by_window s extents dims shape

abbrev pub convolution_nest : ValueType → Structure → LoopNest
convolution_nest result s =
    let extents = structured_extents s in
    record {
      loops = map (convolution_loop s extents) (range_with_len 0 s.loops);
      operands = values_by (dims_by_window s extents) (maps_of s) (operand_types s.ins_outs);
      result = value_by (dims_by_map s.output) result;
    }

-- ---- kind by kind

-- The loops of an operation, by its kind and the type of its value. Shardings, notes, calls, the
-- return, and the operations of device form alone have none.
unfoldable pub nest_of : OpKind → ValueType → Option LoopNest
nest_of (Constant x) result = Some (same_nest [] result)
nest_of (Binary x) result = Some (same_nest (typing_of (Binary x) result) result)
nest_of (Compare x) result = Some (same_nest (typing_of (Compare x) result) result)
nest_of (Select x) result = Some (same_nest (typing_of (Select x) result) result)
nest_of (Cast x) result = Some (same_nest (typing_of (Cast x) result) result)
nest_of Empty result = Some (same_nest [] result)
nest_of (ExtractSlice x) result = Some (extract_nest x.slice x.source_type result)
nest_of (InsertSlice x) result = Some (insert_nest x.slice x.source_type result)
nest_of (CollapseShape x) result =
    Some (collapse_nest (map as_naturals x.reassociation) x.source_type result)
nest_of (ExpandShape x) result =
    Some (expand_nest (map as_naturals x.reassociation) x.source_type result)
nest_of (Fill x) result = option_map (structured_nest result) (structure_of (Fill x))
nest_of (Matmul x) result = option_map (structured_nest result) (structure_of (Matmul x))
nest_of (BatchMatmul x) result = option_map (structured_nest result) (structure_of (BatchMatmul x))
nest_of (Matvec x) result = option_map (structured_nest result) (structure_of (Matvec x))
nest_of (Vecmat x) result = option_map (structured_nest result) (structure_of (Vecmat x))
nest_of (Dot x) result = option_map (structured_nest result) (structure_of (Dot x))
nest_of (Conv1d x) result = option_map (convolution_nest result) (structure_of (Conv1d x))
nest_of (Conv2d x) result = option_map (convolution_nest result) (structure_of (Conv2d x))
nest_of (Transpose x) result = option_map (structured_nest result) (structure_of (Transpose x))
nest_of (Broadcast x) result = option_map (structured_nest result) (structure_of (Broadcast x))
nest_of (Reduce x) result = option_map (structured_nest result) (structure_of (Reduce x))
nest_of (Generic x) result = option_map (structured_nest result) (structure_of (Generic x))
nest_of (Sharding x) result = None
nest_of (Shard x) result = None
nest_of (AllGather x) result = None
nest_of (AllSlice x) result = None
nest_of (AllReduce x) result = None
nest_of (ReduceScatter x) result = None
nest_of (AllToAll x) result = None
nest_of (Shift x) result = None
nest_of (UpdateHalo x) result = None
nest_of (Take x) result = None
nest_of (Pad x) result = None
nest_of (Join x) result = None
nest_of (Call x) result = None
nest_of (Return x) result = None
