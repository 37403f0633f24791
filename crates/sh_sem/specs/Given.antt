-- What an operation that isn't a collective gives of its operands: its shape by their shapes, and
-- its cell at each index. Source and device form share it.
use Rattle.std.specs.Prelude.{ℕ, ◌+◌, Bool, true, ◌&&◌, List, [], ◌∷◌, map, take, drop, length, get_or, Option, Some, None, is_none, option_map, option_and_then, unwrap_or, if◌then◌else◌}
use Rattle.std.specs.List.{list_any, range_with_len}
use Rattle.sh_base.specs.declared.numbers.Cell.{Cell}
use Rattle.sh_base.specs.declared.numbers.Cell.TheVariants.{Undef}
use Rattle.sh_base.specs.declared.numbers.Width.{Width}
use Rattle.sh_base.specs.Shape.{cell_count, flat_of, unflat_of}
use Rattle.sh_ir.specs.declared.arith_ops.Constant as declared_constant
use Rattle.sh_ir.specs.declared.operations.Op.{Op}
use Rattle.sh_ir.specs.declared.operations.OpKind.{OpKind}
use Rattle.sh_ir.specs.declared.operations.OpKind.TheVariants.{Constant, Binary, Compare, Select, Cast, Empty, ExtractSlice, InsertSlice, CollapseShape, ExpandShape, Fill, Matmul, BatchMatmul, Matvec, Vecmat, Dot, Conv1d, Conv2d, Transpose, Broadcast, Reduce, Generic, Sharding, Shard, AllGather, AllSlice, AllReduce, ReduceScatter, AllToAll, Shift, UpdateHalo, Take, Pad, Join, Call, Return}
use Rattle.sh_ir.specs.declared.shard_ops.Pad as declared_pad
use Rattle.sh_ir.specs.declared.tensor_ops.CollapseShape as declared_collapse_shape
use Rattle.sh_ir.specs.declared.tensor_ops.ExpandShape as declared_expand_shape
use Rattle.sh_ir.specs.declared.tensor_ops.ExtractSlice as declared_extract_slice
use Rattle.sh_ir.specs.declared.tensor_ops.InsertSlice as declared_insert_slice
use Rattle.sh_ir.specs.declared.types.Dim.{Dim}
use Rattle.sh_ir.specs.declared.types.Dim.TheVariants.{Known, Differs}
use Rattle.sh_ir.specs.declared.types.ValueType.{ValueType}
use Rattle.sh_ir.specs.Agreement.{dims_of}
use Rattle.sh_ir.specs.Loops.{Structure, structure_of}
use Rattle.sh_ir.specs.Numbers.{as_naturals}
use Rattle.sh_ir.specs.Typing.{typing_of}
use Rattle.sh_tensor.specs.Tensor.{TensorValue, at, build, joined_at}
use Rattle.sh_sem.specs.Nest.{Fixed, extents_by, sizes_agree, folded_cell}
use Rattle.sh_sem.specs.Pieces.{Piece, equal_piece, listed_piece, piece_shape, piece_cell, padded_shape, padded_cell, joined_shape, common_shape}
use Rattle.sh_sem.specs.Reshapes.{collapsed_shape, expanded_shape, reshaped_cell}
use Rattle.sh_sem.specs.Scalars.{Formula, binary, compare, choice, cast, formula_cell, constant_cell, width_of}
use Rattle.sh_sem.specs.Slices.{Range, ranges_of, extracted_shape, extracted_cell, inserted_shape, inserted_cell}
use Rattle.sh_sem.specs.Types.{have_extents}

-- where a device stands in the group of an instruction
pub record Seat : Type 0 where
  pub size : ℕ
  pub place : ℕ

-- in source form there is one device
abbrev pub alone : Seat
alone = record { size = 1; place = 0 }

-- what an operation gives
pub record Giving : Type 0 where
  -- the shape, by the operands' shapes. None: it is stuck by the shapes
  pub shape : List (List ℕ) → Option (List ℕ)
  -- the cell at an index, by the operands and the shape. None: it is stuck there
  pub cell : List TensorValue → List ℕ → List ℕ → Option Cell

-- ---- so many operands

abbrev pub of_one : {X Y : Type 0} → (X → Option Y) → List X → Option Y
of_one f (x ∷ []) = f x
of_one f xs = None

abbrev pub of_two : {X Y : Type 0} → (X → X → Option Y) → List X → Option Y
of_two f (x ∷ y ∷ []) = f x y
of_two f xs = None

abbrev pub of_none : {X Y : Type 0} → Option Y → List X → Option Y
of_none y [] = y
of_none y (x ∷ xs) = None

-- ---- creators

-- the extents of a type that knows all of them
abbrev pub known_shape : List Dim → Option (List ℕ)
known_shape [] = Some []
known_shape (Differs ∷ dims) = None
known_shape (Known n ∷ dims) = option_map (λ shape. n ∷ shape) (known_shape dims)

unfoldable pub gives_constant : declared_constant.Constant → Giving
gives_constant x = record {
  shape = of_none (known_shape (dims_of x.value_type));
  cell = λ ts shape i. constant_cell x.contents (flat_of shape i);
}

-- undefined cells
unfoldable pub gives_undefined : List Dim → Giving
gives_undefined dims = record {
  shape = of_none (known_shape dims);
  cell = λ ts shape i. Some Undef;
}

-- ---- element operations: cell by cell, on operands of one shape

unfoldable pub gives_cells : Formula → Giving
gives_cells formula = record {
  shape = common_shape;
  cell = λ ts shape i. formula_cell formula (map (λ t. at t i) ts);
}

-- ---- slices and reshapes

unfoldable pub gives_slice : declared_extract_slice.ExtractSlice → Giving
gives_slice x =
    let ranges : List ℕ → List Range = ranges_of x.slice (dims_of x.source_type) in
    record {
      shape = of_one (λ source. extracted_shape (ranges source));
      cell = λ ts shape i.
          of_one (λ source. Some (extracted_cell (ranges source.shape) source i)) ts;
    }

-- by the dimensions of the tensor into which the slice goes
unfoldable pub gives_insertion : declared_insert_slice.InsertSlice → List Dim → Giving
gives_insertion x dims =
    let ranges : List ℕ → List Range = ranges_of x.slice dims in
    record {
      shape = of_two (λ source destination. inserted_shape (ranges destination) source destination);
      cell = λ ts shape i.
          of_two (λ source destination.
          Some (inserted_cell (ranges destination.shape) source destination i)) ts;
    }

unfoldable pub gives_collapse : declared_collapse_shape.CollapseShape → Giving
gives_collapse x = record {
  shape = of_one (collapsed_shape x.reassociation);
  cell = λ ts shape i. of_one (λ t. Some (reshaped_cell t shape i)) ts;
}

unfoldable pub gives_expansion : declared_expand_shape.ExpandShape → List Dim → Giving
gives_expansion x dims = record {
  shape = of_one (expanded_shape dims x.reassociation);
  cell = λ ts shape i. of_one (λ t. Some (reshaped_cell t shape i)) ts;
}

-- ---- structured operations: the inputs, the output, and the scalars that the region uses

abbrev pub outs_of : {X : Type 0} → Structure → List X → List X
outs_of s xs = take 1 (drop (length s.inputs) xs)

-- the shape of the output, where the operands' sizes agree
abbrev pub nest_shape : Structure → List (List ℕ) → Option (List ℕ)
nest_shape s shapes =
    if sizes_agree s (take (length s.inputs + 1) shapes)
    then of_one (λ shape. Some shape) (outs_of s shapes)
    else None

abbrev pub fixed_of : Structure → List ℕ → List TensorValue → TensorValue → Fixed
fixed_of s captured ts outs = record {
  widths = map (λ t. t.width) (take (length s.inputs) ts);
  width = outs.width;
  captured = captured;
  scalars = map (λ t. at t []) (drop (length s.inputs + 1) ts);
}

abbrev pub nest_cell : Structure → List ℕ → List TensorValue → List ℕ → Option Cell
nest_cell s captured ts i =
    of_one (λ outs.
    folded_cell s (fixed_of s captured ts outs) (extents_by s (map (λ t. t.shape) ts))
    (take (length s.inputs) ts) outs i)
    (outs_of s ts)

unfoldable pub gives_nest : List ℕ → Structure → Giving
gives_nest operands s = record {
  shape = nest_shape s;
  cell = λ ts shape i. nest_cell s (drop (length s.inputs + 1) operands) ts i;
}

-- ---- device form

-- a piece of the operand along an axis, by the operand's extent
unfoldable pub gives_piece : ℕ → (ℕ → Option Piece) → Giving
gives_piece axis piece = record {
  shape = of_one (λ s. piece_shape axis s (piece (get_or s axis 0)));
  cell = λ ts shape i. of_one (λ t. piece_cell axis t i (piece (get_or t.shape axis 0))) ts;
}

unfoldable pub gives_padding : declared_pad.Pad → Giving
gives_padding x = record {
  shape = of_one (λ s. Some (padded_shape (as_naturals x.low) (as_naturals x.high) s));
  cell = λ ts shape i. of_one (λ t. Some (padded_cell (as_naturals x.low) t i)) ts;
}

unfoldable pub gives_join : ℕ → Giving
gives_join axis = record {
  shape = joined_shape axis;
  cell = λ ts shape i. Some (joined_at axis ts i);
}

-- ---- kind by kind

-- What an operation gives at a seat, by its kind, the names of its operands, and its type.
-- Collectives, calls, shardings, notes and the return give nothing by themselves.
unfoldable pub giving : OpKind → List ℕ → ValueType → Seat → Option Giving
giving (Constant x) operands result seat = Some (gives_constant x)
giving (Binary op) operands result seat = Some (gives_cells (binary op (width_of result)))
giving (Compare x) operands result seat =
    Some (gives_cells (compare x.predicate (width_of x.operand_type)))
giving (Select x) operands result seat = Some (gives_cells choice)
giving (Cast x) operands result seat =
    Some (gives_cells (cast x.op (width_of x.operand_type) (width_of result)))
giving Empty operands result seat = Some (gives_undefined (dims_of result))
giving (ExtractSlice x) operands result seat = Some (gives_slice x)
giving (InsertSlice x) operands result seat = Some (gives_insertion x (dims_of result))
giving (CollapseShape x) operands result seat = Some (gives_collapse x)
giving (ExpandShape x) operands result seat = Some (gives_expansion x (dims_of result))
giving (Fill x) operands result seat = option_map (gives_nest operands) (structure_of (Fill x))
giving (Matmul x) operands result seat = option_map (gives_nest operands) (structure_of (Matmul x))
giving (BatchMatmul x) operands result seat =
    option_map (gives_nest operands) (structure_of (BatchMatmul x))
giving (Matvec x) operands result seat = option_map (gives_nest operands) (structure_of (Matvec x))
giving (Vecmat x) operands result seat = option_map (gives_nest operands) (structure_of (Vecmat x))
giving (Dot x) operands result seat = option_map (gives_nest operands) (structure_of (Dot x))
giving (Conv1d x) operands result seat = option_map (gives_nest operands) (structure_of (Conv1d x))
giving (Conv2d x) operands result seat = option_map (gives_nest operands) (structure_of (Conv2d x))
giving (Transpose x) operands result seat =
    option_map (gives_nest operands) (structure_of (Transpose x))
giving (Broadcast x) operands result seat =
    option_map (gives_nest operands) (structure_of (Broadcast x))
giving (Reduce x) operands result seat = option_map (gives_nest operands) (structure_of (Reduce x))
giving (Generic x) operands result seat =
    option_map (gives_nest operands) (structure_of (Generic x))
giving (Sharding x) operands result seat = None
giving (Shard x) operands result seat = None
giving (AllGather x) operands result seat = None
giving (AllSlice x) operands result seat =
    Some (gives_piece x.slice_axis (equal_piece seat.size seat.place))
giving (AllReduce x) operands result seat = None
giving (ReduceScatter x) operands result seat = None
giving (AllToAll x) operands result seat = None
giving (Shift x) operands result seat = None
giving (UpdateHalo x) operands result seat = None
giving (Take x) operands result seat =
    Some (gives_piece x.axis (listed_piece (as_naturals x.starts) (as_naturals x.sizes) seat.place))
giving (Pad x) operands result seat = Some (gives_padding x)
giving (Join x) operands result seat = Some (gives_join x.axis)
giving (Call x) operands result seat = None
giving (Return x) operands result seat = None

-- ---- the value

-- the tensor of these cells, if none is stuck
unfoldable pub built_of : List ℕ → Width → (List ℕ → Option Cell) → Option TensorValue
built_of shape w cell =
    if list_any (λ k. is_none (cell (unflat_of shape k))) (range_with_len 0 (cell_count shape))
    then None
    else Some (build shape w (λ i. unwrap_or (cell i) Undef))

-- a shape that has the extents which a type knows
abbrev pub of_dims : List Dim → List ℕ → Option (List ℕ)
of_dims dims shape = if have_extents dims shape then Some shape else None

-- the shapes have the extents which the types that are written for them know
abbrev pub have_all_extents : List ValueType → List (List ℕ) → Bool
have_all_extents [] shapes = true
have_all_extents (type ∷ types) [] = true
have_all_extents (type ∷ types) (shape ∷ shapes) =
    have_extents (dims_of type) shape && have_all_extents types shapes

-- the shape by the kind alone
abbrev pub shape_by : Op → Seat → List (List ℕ) → Option (List ℕ)
shape_by op seat shapes =
    option_and_then (λ x. x.shape shapes) (giving op.kind op.operands op.result seat)

-- The shape that an operation gives at a seat, by its operands' shapes. It is stuck by the shapes
-- where sizes disagree, where a slice is out of range, and where a known extent of a written type
-- isn't the actual one.
unfoldable pub shape_given : Op → Seat → List (List ℕ) → Option (List ℕ)
shape_given op seat shapes =
    if have_all_extents (typing_of op.kind op.result) shapes
    then option_and_then (of_dims (dims_of op.result)) (shape_by op seat shapes)
    else None

-- the cell at an index, where it isn't stuck by the shapes. None: it is stuck there
unfoldable pub cell_given : Op → Seat → List TensorValue → List ℕ → List ℕ → Option Cell
cell_given op seat ts shape i =
    option_and_then (λ x. x.cell ts shape i) (giving op.kind op.operands op.result seat)

-- What an operation gives of its operands at a seat: there is none where it is stuck by the shapes
-- or at an index.
unfoldable pub given : Op → Seat → List TensorValue → Option TensorValue
given op seat ts =
    option_and_then (λ shape. built_of shape (width_of op.result) (cell_given op seat ts shape))
    (shape_given op seat (map (λ t. t.shape) ts))
