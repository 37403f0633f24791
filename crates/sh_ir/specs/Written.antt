-- What the text of an operation writes, one line a kind. A new kind is asked everything here.
use Rattle.std.specs.Prelude.{ℕ, ◌+◌, ℤ, pos, List, [], ◌∷◌, ◌++◌, Option, Some, None, Bool, true, false, flat_map}
use Rattle.sh_base.specs.declared.numbers.Width.TheVariants.{I1}
use Rattle.sh_ir.specs.declared.types.RawSharding.{RawSharding}
use Rattle.sh_ir.specs.declared.types.ValueType.{ValueType}
use Rattle.sh_ir.specs.declared.types.ValueType.TheVariants as value_type
use Rattle.sh_ir.specs.declared.arith_ops.Constant as declared_constant
use Rattle.sh_ir.specs.declared.linalg_ops.AffineMap.{AffineMap}
use Rattle.sh_ir.specs.declared.linalg_ops.InsOuts.{InsOuts}
use Rattle.sh_ir.specs.declared.shard_ops.GridAxes.{GridAxes}
use Rattle.sh_ir.specs.declared.tensor_ops.Slice.{Slice}
use Rattle.sh_ir.specs.declared.bodies.Body.{Body}
use Rattle.sh_ir.specs.declared.bodies.BodyKind.{BodyKind}
use Rattle.sh_ir.specs.declared.bodies.BodyKind.TheVariants as body_kind
use Rattle.sh_ir.specs.declared.operations.OpKind.{OpKind}
use Rattle.sh_ir.specs.declared.operations.OpKind.TheVariants.{Constant, Binary, Compare, Select, Cast, Empty, ExtractSlice, InsertSlice, CollapseShape, ExpandShape, Fill, Matmul, BatchMatmul, Matvec, Vecmat, Dot, Conv1d, Conv2d, Transpose, Broadcast, Reduce, Generic, Sharding, Shard, AllGather, AllSlice, AllReduce, ReduceScatter, AllToAll, Shift, UpdateHalo, Take, Pad, Join, Call, Return}

-- How the text gives the type of the value.
pub data ResultText : Type 0 where
  a_type : ResultText  -- it writes a type
  a_width : ResultText  -- it writes the width of a scalar
  unwritten : ValueType → ResultText  -- it writes none: the type is this one

-- What the text of an operation writes.
pub record Written : Type 0 where
  pub operands : Option ℕ  -- how many, where the form leaves no choice
  pub grids : List (List ℕ)  -- the names of grids
  pub callees : List (List ℕ)  -- the names of functions
  pub numbers : List ℤ  -- those outside of types and literals
  pub types : List ValueType  -- those besides the type of the value
  pub result : ResultText
  pub constants : List declared_constant.Constant
  pub maps : List AffineMap
  pub body : Option Body  -- the region
  pub has_indices : Bool  -- whether the region may ask for loop indices

-- ---- what several forms share

-- this many operands and the type of the value, and nothing else
abbrev pub plain : ℕ → Written
plain count = record {
  operands = Some count;
  grids = [];
  callees = [];
  numbers = [];
  types = [];
  result = a_type;
  constants = [];
  maps = [];
  body = None;
  has_indices = false;
}

-- one operand with its type
abbrev pub typed : ValueType → Written
typed t = record (plain 1) { types = t ∷ [] }

-- any number of operands, and types of their own number
abbrev pub any_count : List ValueType → Written
any_count types = record (plain 0) { operands = None; types = types }

abbrev pub literal : declared_constant.Constant → Written
literal c = record (plain 0) {
  types = c.value_type ∷ [];
  result = unwritten c.value_type;
  constants = c ∷ [];
}

-- the type of a test of values of this type: `i1` in the same shape
abbrev pub test_type : ValueType → ValueType
test_type (value_type.Scalar w) = value_type.Scalar I1
test_type (value_type.Tensor t) = value_type.Tensor (record t { width = I1 })
test_type value_type.Nothing = value_type.Nothing
test_type value_type.Sharding = value_type.Sharding
test_type value_type.Index = value_type.Index

abbrev pub comparison : ValueType → Written
comparison t = record (plain 2) { types = t ∷ []; result = unwritten (test_type t) }

abbrev pub selection : ValueType → Written
selection condition = record (plain 3) { types = condition ∷ [] }

abbrev pub slice_numbers : Slice → List ℤ
slice_numbers x = x.offsets ++ x.sizes ++ x.strides

-- the numbers of a list of lists
abbrev pub all_numbers : List (List ℤ) → List ℤ
all_numbers lists = flat_map (λ list. list) lists

-- the numbers that a sharding writes
abbrev pub sharding_numbers : RawSharding → List ℤ
sharding_numbers x = all_numbers x.split ++ x.halos ++ x.offsets

-- the first type, if there is one
abbrev pub first_type : List ValueType → ValueType
first_type [] = value_type.Nothing
first_type (t ∷ ts) = t

abbrev pub structured : InsOuts → Written
structured x = record (plain (x.ins_count + x.outs_count)) { types = x.ins_types ++ x.outs_types }

-- where the type of the value isn't written, it is that of `outs`
abbrev pub structured_untyped : InsOuts → Written
structured_untyped x = record (structured x) { result = unwritten (first_type x.outs_types) }

abbrev pub in_groups : GridAxes → List ℤ → ValueType → Written
in_groups on numbers t =
    record (typed t) { grids = on.grid ∷ []; numbers = on.grid_axes ++ numbers }

-- ---- kind by kind

abbrev pub written_by : OpKind → Written
written_by (Constant x) = literal x
written_by (Binary x) = plain 2
written_by (Compare x) = comparison x.operand_type
written_by (Select x) = selection x.condition_type
written_by (Cast x) = typed x.operand_type
written_by Empty = plain 0
written_by (ExtractSlice x) = record (typed x.source_type) { numbers = slice_numbers x.slice }
written_by (InsertSlice x) = record (plain 2) {
  types = x.source_type ∷ [];
  numbers = slice_numbers x.slice;
}
written_by (CollapseShape x) = record (typed x.source_type) { numbers = all_numbers x.reassociation }
written_by (ExpandShape x) = record (typed x.source_type) {
  numbers = all_numbers x.reassociation ++ x.output_shape;
}
written_by (Fill x) = structured x
written_by (Matmul x) = structured x
written_by (BatchMatmul x) = structured x
written_by (Matvec x) = structured x
written_by (Vecmat x) = structured x
written_by (Dot x) = structured x
written_by (Conv1d x) = structured x
written_by (Conv2d x) = structured x
written_by (Transpose x) = record (structured_untyped x.ins_outs) { numbers = x.permutation }
written_by (Broadcast x) = record (structured_untyped x.ins_outs) { numbers = x.dimensions }
written_by (Reduce x) = record (structured_untyped x.ins_outs) { numbers = x.dimensions; body = Some x.body }
written_by (Generic x) = record (structured x.ins_outs) {
  maps = x.indexing_maps;
  body = Some x.body;
  has_indices = true;
}
written_by (Sharding x) = record (plain 0) {
  grids = x.grid ∷ [];
  numbers = sharding_numbers x;
  result = unwritten value_type.Sharding;
}
written_by (Shard x) = plain 2
written_by (AllGather x) = in_groups x.on (pos x.gather_axis ∷ []) x.operand_type
written_by (AllSlice x) = in_groups x.on (pos x.slice_axis ∷ []) x.operand_type
written_by (AllReduce x) = in_groups x.on [] x.operand_type
written_by (ReduceScatter x) = in_groups x.on (pos x.scatter_axis ∷ []) x.operand_type
written_by (AllToAll x) = in_groups x.on (pos x.split_axis ∷ pos x.concat_axis ∷ []) x.operand_type
written_by (Shift x) = in_groups x.on (pos x.shift_axis ∷ x.offset ∷ []) x.operand_type
written_by (UpdateHalo x) = record (plain 1) {
  grids = x.grid ∷ [];
  numbers = all_numbers x.split_axes ++ x.halo_sizes;
}
written_by (Take x) = in_groups x.on ((pos x.axis ∷ x.starts) ++ x.sizes) x.operand_type
written_by (Pad x) = record (typed x.operand_type) { numbers = x.low ++ x.high }
written_by (Join x) = record (any_count x.operand_types) { numbers = pos x.axis ∷ [] }
written_by (Call x) = record (any_count x.operand_types) { callees = x.callee ∷ [] }
written_by (Return x) = record (any_count x.operand_types) { result = unwritten value_type.Nothing }

-- the same for an operation of a region
abbrev pub written_in_body : BodyKind → Written
written_in_body (body_kind.Constant x) = literal x
written_in_body (body_kind.Binary x) = plain 2
written_in_body (body_kind.Compare x) = comparison x.operand_type
written_in_body (body_kind.Select x) = selection x.condition_type
written_in_body (body_kind.Cast x) = typed x.operand_type
written_in_body (body_kind.Index x) = record (plain 0) {
  numbers = pos x.dimension ∷ [];
  result = unwritten value_type.Index;
}
written_in_body body_kind.IndexCast = record (plain 1) { result = a_width }
