-- What an operation gives, apart: whether the operands have the extents that are written for them,
-- and the value by its kind.
use Rattle.std.proofs.Common.{◌≡◌, ℕ, Bool, true, false, List, [], ◌∷◌, length, Option, Some, None, refl, ap, ap₂, sym, ◌∙◌, subst}
use Rattle.std.specs.Prelude.{IfSome, option_map, option_and_then, if◌then◌else◌}
use Rattle.sh_base.specs.declared.numbers.Cell.{Cell}
use Rattle.sh_base.specs.declared.numbers.Width.{Width}
use Rattle.sh_base.specs.Shape.{cell_count, unflat_of}
use Rattle.sh_ir.specs.Agreement.{dims_of}
use Rattle.sh_ir.specs.Classes.{class_of}
use Rattle.sh_ir.specs.Loops.{Structure, structure_of}
use Rattle.sh_ir.specs.Typing.{typing_of}
use Rattle.sh_ir.specs.declared.classification.OpClass.{OpClass}
use Rattle.sh_ir.specs.declared.classification.OpClass.TheVariants as class
use Rattle.sh_ir.specs.declared.operations.Op.{Op}
use Rattle.sh_ir.specs.declared.operations.OpKind.{OpKind}
use Rattle.sh_ir.specs.declared.operations.OpKind.TheVariants.{Constant, Binary, Compare, Select, Cast, Empty, ExtractSlice, InsertSlice, CollapseShape, ExpandShape, Fill, Matmul, BatchMatmul, Matvec, Vecmat, Dot, Conv1d, Conv2d, Transpose, Broadcast, Reduce, Generic, Sharding, Shard, AllGather, AllSlice, AllReduce, ReduceScatter, AllToAll, Shift, UpdateHalo, Take, Pad, Join, Call, Return}
use Rattle.sh_ir.specs.declared.types.Dim.{Dim}
use Rattle.sh_ir.specs.declared.types.ValueType.{ValueType}
use Rattle.sh_tensor.specs.Tensor.{TensorValue}
use Rattle.sh_eval.specs.Evaluations.{FitsKind, FitsNest, HaveWidth, KindGivesFew, gives_taken, kind_value}
use Rattle.sh_eval.specs.Shapes.{with_known}
use Rattle.sh_eval.specs.Values.{GivesFew, IsFew, known_value, shapes_of}
use Rattle.sh_loops.specs.Cells.{cells_by}
use Rattle.sh_loops.specs.Structured.{value_by, widths_of}
use Rattle.sh_loops.proofs.CellLaws.{built_by}
use Rattle.sh_sem.specs.Given.{Giving, Seat, built_of, cell_given, given, gives_cells, gives_collapse, gives_constant, gives_expansion, gives_insertion, gives_join, gives_nest, gives_padding, gives_piece, gives_slice, gives_undefined, giving, have_all_extents, of_dims, shape_given}
use Rattle.sh_base.specs.declared.numbers.Width.TheVariants.{I1}
use Rattle.sh_base.specs.declared.operations.BinOp.{BinOp}
use Rattle.sh_int.specs.Elements.{CanCast}
use Rattle.std.specs.List.{AllByRecursion}
use Rattle.std.specs.Prelude.{◌≤◌}
use Rattle.sh_base.specs.Shape.{max_rank}
use Rattle.sh_ir.specs.declared.arith_ops.Constant as declared_constant
use Rattle.sh_ir.specs.declared.shard_ops.AllSlice as declared_all_slice
use Rattle.sh_ir.specs.declared.shard_ops.Join as declared_join
use Rattle.sh_ir.specs.declared.shard_ops.Pad as declared_pad
use Rattle.sh_ir.specs.declared.shard_ops.Take as declared_take
use Rattle.sh_ir.specs.declared.tensor_ops.CollapseShape as declared_collapse_shape
use Rattle.sh_ir.specs.declared.tensor_ops.ExpandShape as declared_expand_shape
use Rattle.sh_ir.specs.declared.tensor_ops.ExtractSlice as declared_extract_slice
use Rattle.sh_ir.specs.declared.tensor_ops.InsertSlice as declared_insert_slice
use Rattle.sh_loops.specs.Cells.{HoldsCellsOf}
use Rattle.sh_sem.specs.Pieces.{equal_piece as piece_of_equal}
use Rattle.sh_ir.specs.declared.linalg_ops.Broadcast as declared_broadcast
use Rattle.sh_ir.specs.declared.linalg_ops.Generic as declared_generic
use Rattle.sh_ir.specs.declared.linalg_ops.InsOuts.{InsOuts}
use Rattle.sh_ir.specs.declared.linalg_ops.Reduce as declared_reduce
use Rattle.sh_ir.specs.declared.linalg_ops.Transpose as declared_transpose
use Rattle.sh_ir.specs.declared.shard_ops.Shard as declared_shard
use Rattle.sh_ir.specs.declared.types.RawSharding as type_of_sharding
use Rattle.sh_ir.specs.declared.shard_ops.AllGather as type_of_allgather
use Rattle.sh_ir.specs.declared.shard_ops.AllReduce as type_of_allreduce
use Rattle.sh_ir.specs.declared.shard_ops.ReduceScatter as type_of_reducescatter
use Rattle.sh_ir.specs.declared.shard_ops.AllToAll as type_of_alltoall
use Rattle.sh_ir.specs.declared.shard_ops.Shift as type_of_shift
use Rattle.sh_ir.specs.declared.shard_ops.UpdateHalo as type_of_updatehalo
use Rattle.sh_ir.specs.declared.calls.Call as type_of_call
use Rattle.sh_ir.specs.declared.operations.Return as type_of_return
use Rattle.sh_ir.specs.declared.arith_ops.Cast as declared_cast
use Rattle.sh_ir.specs.declared.arith_ops.Compare as declared_compare
use Rattle.sh_ir.specs.declared.arith_ops.Select as declared_select
use Rattle.sh_sem.specs.Scalars.{Formula, binary, cast, choice, compare, width_of}
use Rattle.sh_sem.specs.Types.{have_extents}

-- ---- classes

abbrev OnlyElement : OpClass → Type 0
OnlyElement class.Creator = ⊥
OnlyElement class.Element = Unit {0}
OnlyElement class.Layout = ⊥
OnlyElement class.Structured = ⊥
OnlyElement class.Convolution = ⊥
OnlyElement class.Sharding = ⊥
OnlyElement class.Note = ⊥
OnlyElement class.DeviceLayout = ⊥
OnlyElement class.Collective = ⊥
OnlyElement class.Call = ⊥
OnlyElement class.Return = ⊥

abbrev OnlyStructured : OpClass → Type 0
OnlyStructured class.Creator = ⊥
OnlyStructured class.Element = ⊥
OnlyStructured class.Layout = ⊥
OnlyStructured class.Structured = Unit {0}
OnlyStructured class.Convolution = ⊥
OnlyStructured class.Sharding = ⊥
OnlyStructured class.Note = ⊥
OnlyStructured class.DeviceLayout = ⊥
OnlyStructured class.Collective = ⊥
OnlyStructured class.Call = ⊥
OnlyStructured class.Return = ⊥

abbrev OnlyConvolution : OpClass → Type 0
OnlyConvolution class.Creator = ⊥
OnlyConvolution class.Element = ⊥
OnlyConvolution class.Layout = ⊥
OnlyConvolution class.Structured = ⊥
OnlyConvolution class.Convolution = Unit {0}
OnlyConvolution class.Sharding = ⊥
OnlyConvolution class.Note = ⊥
OnlyConvolution class.DeviceLayout = ⊥
OnlyConvolution class.Collective = ⊥
OnlyConvolution class.Call = ⊥
OnlyConvolution class.Return = ⊥

abbrev OnlyNote : OpClass → Type 0
OnlyNote class.Creator = ⊥
OnlyNote class.Element = ⊥
OnlyNote class.Layout = ⊥
OnlyNote class.Structured = ⊥
OnlyNote class.Convolution = ⊥
OnlyNote class.Sharding = ⊥
OnlyNote class.Note = Unit {0}
OnlyNote class.DeviceLayout = ⊥
OnlyNote class.Collective = ⊥
OnlyNote class.Call = ⊥
OnlyNote class.Return = ⊥

-- ---- a tensor that has the extents which a type knows

-- a tensor that is built of a shape has that shape
built_known : (dims : List Dim) (shape : List ℕ) (w : Width) (cell : List ℕ → Option Cell)
    → option_and_then (with_known dims) (built_of shape w cell) ≡ (if have_extents dims shape then built_of shape w cell else None)
built_known dims shape w cell =
    ap (option_and_then (with_known dims)) (built_by shape w cell)
    ∙ go (cells_by (λ k. cell (unflat_of shape k)) (cell_count shape)) (have_extents dims shape) refl
    ∙ ap (λ o. if have_extents dims shape then o else None) (sym (built_by shape w cell))
  where
    go : (o : Option (List Cell)) (b : Bool) → b ≡ have_extents dims shape
        → option_and_then (with_known dims) (option_map (λ cs. record { shape = shape; width = w; cells = cs }) o)
        ≡ (if have_extents dims shape then option_map (λ cs. record { shape = shape; width = w; cells = cs }) o else None)
    go None true e = rw (← e) refl
    go None false e = rw (← e) refl
    go (Some cs) b e = refl

known_first : (dims : List Dim) (w : Width) (o : Option (List ℕ)) (cell : List ℕ → List ℕ → Option Cell)
    → option_and_then (with_known dims) (option_and_then (λ shape. built_of shape w (cell shape)) o)
    ≡ option_and_then (λ shape. built_of shape w (cell shape)) (option_and_then (of_dims dims) o)
known_first dims w None cell = refl
known_first dims w (Some shape) cell = built_known dims shape w (cell shape) ∙ sym (go (have_extents dims shape))
  where
    go : (b : Bool) → option_and_then (λ shape. built_of shape w (cell shape)) (if b then Some shape else None) ≡ (if b then built_of shape w (cell shape) else None)
    go true = refl
    go false = refl

pub value_known : (x : Giving) (dims : List Dim) (w : Width) (ts : List TensorValue) → option_and_then (with_known dims) (value_by x w ts) ≡ known_value x dims w ts
value_known x dims w ts = known_first dims w (x.shape (shapes_of ts)) (x.cell ts)

pub nest_known : (operands : List ℕ) (dims : List Dim) (w : Width) (ts : List TensorValue) (o : Option Structure)
    → option_and_then (with_known dims) (option_and_then (λ s. value_by (gives_nest operands s) w ts) o)
    ≡ option_and_then (λ x. known_value x dims w ts) (option_map (gives_nest operands) o)
nest_known operands dims w ts None = refl
nest_known operands dims w ts (Some s) = value_known (gives_nest operands s) dims w ts

-- ---- the value by the kind

if_same : {X : Type 0} (b : Bool) (x : X) → (if b then x else x) ≡ x
if_same true x = refl
if_same false x = refl

only_if : (b : Bool) (X : Option (List ℕ)) (f : List ℕ → Option TensorValue) → option_and_then f (if b then X else None) ≡ (if b then option_and_then f X else None)
only_if true X f = refl
only_if false X f = refl

pub given_apart : (op : Op) (seat : Seat) (ts : List TensorValue)
    → given op seat ts ≡ (if have_all_extents (typing_of op.kind op.result) (shapes_of ts) then kind_value op seat ts else None)
unfolding given shape_given cell_given
given_apart op seat ts = go (giving op.kind op.operands op.result seat) (have_all_extents (typing_of op.kind op.result) (shapes_of ts))
  where
    go : (g : Option Giving) (b : Bool)
        → option_and_then (λ shape. built_of shape (width_of op.result) (λ i. option_and_then (λ (y : Giving). y.cell ts shape i) g))
        (if b then option_and_then (of_dims (dims_of op.result)) (option_and_then (λ (y : Giving). y.shape (shapes_of ts)) g) else None)
        ≡ (if b then option_and_then (λ x. known_value x (dims_of op.result) (width_of op.result) ts) g else None)
    go None b = only_if b None (λ shape. built_of shape (width_of op.result) (λ i. None)) ∙ refl
    go (Some x) b =
        only_if b (option_and_then (of_dims (dims_of op.result)) (x.shape (shapes_of ts))) (λ shape. built_of shape (width_of op.result) (x.cell ts shape))

pub few_of_kind : (op : Op) (seat : Seat) (ts : List TensorValue) → have_all_extents (typing_of op.kind op.result) (shapes_of ts) ≡ true
    → IfSome (shape_given op seat (shapes_of ts)) IsFew → KindGivesFew op seat ts
unfolding shape_given
few_of_kind op seat ts known few =
    go (giving op.kind op.operands op.result seat)
    (subst (λ b. IfSome (if b then option_and_then (of_dims (dims_of op.result)) (option_and_then (λ (y : Giving). y.shape (shapes_of ts)) (giving op.kind op.operands op.result seat)) else None) IsFew) known few)
  where
    go : (g : Option Giving) → IfSome (option_and_then (of_dims (dims_of op.result)) (option_and_then (λ (y : Giving). y.shape (shapes_of ts)) g)) IsFew
        → IfSome g (λ x. GivesFew x (dims_of op.result) ts)
    go None h = tt
    go (Some x) h = h

-- ---- what is answered

pub refused : (op : Op) (seat : Seat) (ts : List TensorValue) (known : Bool) → known ≡ have_all_extents (typing_of op.kind op.result) (shapes_of ts) → known ≡ false → None ≡ given op seat ts
refused op seat ts known e isn_t = sym (given_apart op seat ts ∙ ap (λ b. if b then kind_value op seat ts else None) (sym e ∙ isn_t))

pub answered : (op : Op) (seat : Seat) (ts : List TensorValue) (known : Bool) → known ≡ have_all_extents (typing_of op.kind op.result) (shapes_of ts) → known ≡ true
    → kind_value op seat ts ≡ given op seat ts
answered op seat ts known e is = sym (given_apart op seat ts ∙ ap (λ b. if b then kind_value op seat ts else None) (sym e ∙ is))

nothing_given : (op : Op) (seat : Seat) (ts : List TensorValue) → giving op.kind op.operands op.result seat ≡ None → None ≡ given op seat ts
nothing_given op seat ts none =
    sym (given_apart op seat ts
    ∙ ap (λ g. if have_all_extents (typing_of op.kind op.result) (shapes_of ts) then option_and_then (λ x. known_value x (dims_of op.result) (width_of op.result) ts) g else None) none
    ∙ if_same (have_all_extents (typing_of op.kind op.result) (shapes_of ts)) None)

shard_gives : (x : declared_shard.Shard) (operands : List ℕ) (result : ValueType) (seat : Seat) → giving (Shard x) operands result seat ≡ None
unfolding giving
shard_gives x operands result seat = refl

no_giving : (kind : OpKind) (operands : List ℕ) (result : ValueType) (seat : Seat) → class_of kind ≡ class.Note → giving kind operands result seat ≡ None
no_giving (Constant x) operands result seat h = absurd (subst OnlyNote (sym h) tt)
no_giving (Binary x) operands result seat h = absurd (subst OnlyNote (sym h) tt)
no_giving (Compare x) operands result seat h = absurd (subst OnlyNote (sym h) tt)
no_giving (Select x) operands result seat h = absurd (subst OnlyNote (sym h) tt)
no_giving (Cast x) operands result seat h = absurd (subst OnlyNote (sym h) tt)
no_giving Empty operands result seat h = absurd (subst OnlyNote (sym h) tt)
no_giving (ExtractSlice x) operands result seat h = absurd (subst OnlyNote (sym h) tt)
no_giving (InsertSlice x) operands result seat h = absurd (subst OnlyNote (sym h) tt)
no_giving (CollapseShape x) operands result seat h = absurd (subst OnlyNote (sym h) tt)
no_giving (ExpandShape x) operands result seat h = absurd (subst OnlyNote (sym h) tt)
no_giving (Fill x) operands result seat h = absurd (subst OnlyNote (sym h) tt)
no_giving (Matmul x) operands result seat h = absurd (subst OnlyNote (sym h) tt)
no_giving (BatchMatmul x) operands result seat h = absurd (subst OnlyNote (sym h) tt)
no_giving (Matvec x) operands result seat h = absurd (subst OnlyNote (sym h) tt)
no_giving (Vecmat x) operands result seat h = absurd (subst OnlyNote (sym h) tt)
no_giving (Dot x) operands result seat h = absurd (subst OnlyNote (sym h) tt)
no_giving (Conv1d x) operands result seat h = absurd (subst OnlyNote (sym h) tt)
no_giving (Conv2d x) operands result seat h = absurd (subst OnlyNote (sym h) tt)
no_giving (Transpose x) operands result seat h = absurd (subst OnlyNote (sym h) tt)
no_giving (Broadcast x) operands result seat h = absurd (subst OnlyNote (sym h) tt)
no_giving (Reduce x) operands result seat h = absurd (subst OnlyNote (sym h) tt)
no_giving (Generic x) operands result seat h = absurd (subst OnlyNote (sym h) tt)
no_giving (Sharding x) operands result seat h = absurd (subst OnlyNote (sym h) tt)
no_giving (Shard x) operands result seat h = shard_gives x operands result seat
no_giving (AllGather x) operands result seat h = absurd (subst OnlyNote (sym h) tt)
no_giving (AllSlice x) operands result seat h = absurd (subst OnlyNote (sym h) tt)
no_giving (AllReduce x) operands result seat h = absurd (subst OnlyNote (sym h) tt)
no_giving (ReduceScatter x) operands result seat h = absurd (subst OnlyNote (sym h) tt)
no_giving (AllToAll x) operands result seat h = absurd (subst OnlyNote (sym h) tt)
no_giving (Shift x) operands result seat h = absurd (subst OnlyNote (sym h) tt)
no_giving (UpdateHalo x) operands result seat h = absurd (subst OnlyNote (sym h) tt)
no_giving (Take x) operands result seat h = absurd (subst OnlyNote (sym h) tt)
no_giving (Pad x) operands result seat h = absurd (subst OnlyNote (sym h) tt)
no_giving (Join x) operands result seat h = absurd (subst OnlyNote (sym h) tt)
no_giving (Call x) operands result seat h = absurd (subst OnlyNote (sym h) tt)
no_giving (Return x) operands result seat h = absurd (subst OnlyNote (sym h) tt)

pub note_given : (op : Op) (seat : Seat) (ts : List TensorValue) → class_of op.kind ≡ class.Note → None ≡ given op seat ts
note_given op seat ts note = nothing_given op seat ts (no_giving op.kind op.operands op.result seat note)

-- ---- structured operations

pub record IsNest (kind : OpKind) (operands : List ℕ) (result : ValueType) (ts : List TensorValue) : Type 0 where
  pub fits : FitsNest kind operands result ts
  pub gives : (seat : Seat) → giving kind operands result seat ≡ option_map (gives_nest operands) (structure_of kind)

fill_nest : (x : InsOuts) (operands : List ℕ) (result : ValueType) (ts : List TensorValue) → FitsKind (Fill x) operands result ts → IsNest (Fill x) operands result ts
unfolding giving FitsKind
fill_nest x operands result ts fits = record { fits = fits; gives = λ seat. refl }

matmul_nest : (x : InsOuts) (operands : List ℕ) (result : ValueType) (ts : List TensorValue) → FitsKind (Matmul x) operands result ts → IsNest (Matmul x) operands result ts
unfolding giving FitsKind
matmul_nest x operands result ts fits = record { fits = fits; gives = λ seat. refl }

batch_matmul_nest : (x : InsOuts) (operands : List ℕ) (result : ValueType) (ts : List TensorValue) → FitsKind (BatchMatmul x) operands result ts → IsNest (BatchMatmul x) operands result ts
unfolding giving FitsKind
batch_matmul_nest x operands result ts fits = record { fits = fits; gives = λ seat. refl }

matvec_nest : (x : InsOuts) (operands : List ℕ) (result : ValueType) (ts : List TensorValue) → FitsKind (Matvec x) operands result ts → IsNest (Matvec x) operands result ts
unfolding giving FitsKind
matvec_nest x operands result ts fits = record { fits = fits; gives = λ seat. refl }

vecmat_nest : (x : InsOuts) (operands : List ℕ) (result : ValueType) (ts : List TensorValue) → FitsKind (Vecmat x) operands result ts → IsNest (Vecmat x) operands result ts
unfolding giving FitsKind
vecmat_nest x operands result ts fits = record { fits = fits; gives = λ seat. refl }

dot_nest : (x : InsOuts) (operands : List ℕ) (result : ValueType) (ts : List TensorValue) → FitsKind (Dot x) operands result ts → IsNest (Dot x) operands result ts
unfolding giving FitsKind
dot_nest x operands result ts fits = record { fits = fits; gives = λ seat. refl }

conv1d_nest : (x : InsOuts) (operands : List ℕ) (result : ValueType) (ts : List TensorValue) → FitsKind (Conv1d x) operands result ts → IsNest (Conv1d x) operands result ts
unfolding giving FitsKind
conv1d_nest x operands result ts fits = record { fits = fits; gives = λ seat. refl }

conv2d_nest : (x : InsOuts) (operands : List ℕ) (result : ValueType) (ts : List TensorValue) → FitsKind (Conv2d x) operands result ts → IsNest (Conv2d x) operands result ts
unfolding giving FitsKind
conv2d_nest x operands result ts fits = record { fits = fits; gives = λ seat. refl }

transpose_nest : (x : declared_transpose.Transpose) (operands : List ℕ) (result : ValueType) (ts : List TensorValue) → FitsKind (Transpose x) operands result ts → IsNest (Transpose x) operands result ts
unfolding giving FitsKind
transpose_nest x operands result ts fits = record { fits = fits; gives = λ seat. refl }

broadcast_nest : (x : declared_broadcast.Broadcast) (operands : List ℕ) (result : ValueType) (ts : List TensorValue) → FitsKind (Broadcast x) operands result ts → IsNest (Broadcast x) operands result ts
unfolding giving FitsKind
broadcast_nest x operands result ts fits = record { fits = fits; gives = λ seat. refl }

reduce_nest : (x : declared_reduce.Reduce) (operands : List ℕ) (result : ValueType) (ts : List TensorValue) → FitsKind (Reduce x) operands result ts → IsNest (Reduce x) operands result ts
unfolding giving FitsKind
reduce_nest x operands result ts fits = record { fits = fits; gives = λ seat. refl }

generic_nest : (x : declared_generic.Generic) (operands : List ℕ) (result : ValueType) (ts : List TensorValue) → FitsKind (Generic x) operands result ts → IsNest (Generic x) operands result ts
unfolding giving FitsKind
generic_nest x operands result ts fits = record { fits = fits; gives = λ seat. refl }

pub structured_nest : (kind : OpKind) (operands : List ℕ) (result : ValueType) (ts : List TensorValue) → class_of kind ≡ class.Structured → FitsKind kind operands result ts → IsNest kind operands result ts
structured_nest (Constant x) operands result ts h fits = absurd (subst OnlyStructured (sym h) tt)
structured_nest (Binary x) operands result ts h fits = absurd (subst OnlyStructured (sym h) tt)
structured_nest (Compare x) operands result ts h fits = absurd (subst OnlyStructured (sym h) tt)
structured_nest (Select x) operands result ts h fits = absurd (subst OnlyStructured (sym h) tt)
structured_nest (Cast x) operands result ts h fits = absurd (subst OnlyStructured (sym h) tt)
structured_nest Empty operands result ts h fits = absurd (subst OnlyStructured (sym h) tt)
structured_nest (ExtractSlice x) operands result ts h fits = absurd (subst OnlyStructured (sym h) tt)
structured_nest (InsertSlice x) operands result ts h fits = absurd (subst OnlyStructured (sym h) tt)
structured_nest (CollapseShape x) operands result ts h fits = absurd (subst OnlyStructured (sym h) tt)
structured_nest (ExpandShape x) operands result ts h fits = absurd (subst OnlyStructured (sym h) tt)
structured_nest (Fill x) operands result ts h fits = fill_nest x operands result ts fits
structured_nest (Matmul x) operands result ts h fits = matmul_nest x operands result ts fits
structured_nest (BatchMatmul x) operands result ts h fits = batch_matmul_nest x operands result ts fits
structured_nest (Matvec x) operands result ts h fits = matvec_nest x operands result ts fits
structured_nest (Vecmat x) operands result ts h fits = vecmat_nest x operands result ts fits
structured_nest (Dot x) operands result ts h fits = dot_nest x operands result ts fits
structured_nest (Conv1d x) operands result ts h fits = absurd (subst OnlyStructured (sym h) tt)
structured_nest (Conv2d x) operands result ts h fits = absurd (subst OnlyStructured (sym h) tt)
structured_nest (Transpose x) operands result ts h fits = transpose_nest x operands result ts fits
structured_nest (Broadcast x) operands result ts h fits = broadcast_nest x operands result ts fits
structured_nest (Reduce x) operands result ts h fits = reduce_nest x operands result ts fits
structured_nest (Generic x) operands result ts h fits = generic_nest x operands result ts fits
structured_nest (Sharding x) operands result ts h fits = absurd (subst OnlyStructured (sym h) tt)
structured_nest (Shard x) operands result ts h fits = absurd (subst OnlyStructured (sym h) tt)
structured_nest (AllGather x) operands result ts h fits = absurd (subst OnlyStructured (sym h) tt)
structured_nest (AllSlice x) operands result ts h fits = absurd (subst OnlyStructured (sym h) tt)
structured_nest (AllReduce x) operands result ts h fits = absurd (subst OnlyStructured (sym h) tt)
structured_nest (ReduceScatter x) operands result ts h fits = absurd (subst OnlyStructured (sym h) tt)
structured_nest (AllToAll x) operands result ts h fits = absurd (subst OnlyStructured (sym h) tt)
structured_nest (Shift x) operands result ts h fits = absurd (subst OnlyStructured (sym h) tt)
structured_nest (UpdateHalo x) operands result ts h fits = absurd (subst OnlyStructured (sym h) tt)
structured_nest (Take x) operands result ts h fits = absurd (subst OnlyStructured (sym h) tt)
structured_nest (Pad x) operands result ts h fits = absurd (subst OnlyStructured (sym h) tt)
structured_nest (Join x) operands result ts h fits = absurd (subst OnlyStructured (sym h) tt)
structured_nest (Call x) operands result ts h fits = absurd (subst OnlyStructured (sym h) tt)
structured_nest (Return x) operands result ts h fits = absurd (subst OnlyStructured (sym h) tt)

pub convolution_nest : (kind : OpKind) (operands : List ℕ) (result : ValueType) (ts : List TensorValue) → class_of kind ≡ class.Convolution → FitsKind kind operands result ts → IsNest kind operands result ts
convolution_nest (Constant x) operands result ts h fits = absurd (subst OnlyConvolution (sym h) tt)
convolution_nest (Binary x) operands result ts h fits = absurd (subst OnlyConvolution (sym h) tt)
convolution_nest (Compare x) operands result ts h fits = absurd (subst OnlyConvolution (sym h) tt)
convolution_nest (Select x) operands result ts h fits = absurd (subst OnlyConvolution (sym h) tt)
convolution_nest (Cast x) operands result ts h fits = absurd (subst OnlyConvolution (sym h) tt)
convolution_nest Empty operands result ts h fits = absurd (subst OnlyConvolution (sym h) tt)
convolution_nest (ExtractSlice x) operands result ts h fits = absurd (subst OnlyConvolution (sym h) tt)
convolution_nest (InsertSlice x) operands result ts h fits = absurd (subst OnlyConvolution (sym h) tt)
convolution_nest (CollapseShape x) operands result ts h fits = absurd (subst OnlyConvolution (sym h) tt)
convolution_nest (ExpandShape x) operands result ts h fits = absurd (subst OnlyConvolution (sym h) tt)
convolution_nest (Fill x) operands result ts h fits = absurd (subst OnlyConvolution (sym h) tt)
convolution_nest (Matmul x) operands result ts h fits = absurd (subst OnlyConvolution (sym h) tt)
convolution_nest (BatchMatmul x) operands result ts h fits = absurd (subst OnlyConvolution (sym h) tt)
convolution_nest (Matvec x) operands result ts h fits = absurd (subst OnlyConvolution (sym h) tt)
convolution_nest (Vecmat x) operands result ts h fits = absurd (subst OnlyConvolution (sym h) tt)
convolution_nest (Dot x) operands result ts h fits = absurd (subst OnlyConvolution (sym h) tt)
convolution_nest (Conv1d x) operands result ts h fits = conv1d_nest x operands result ts fits
convolution_nest (Conv2d x) operands result ts h fits = conv2d_nest x operands result ts fits
convolution_nest (Transpose x) operands result ts h fits = absurd (subst OnlyConvolution (sym h) tt)
convolution_nest (Broadcast x) operands result ts h fits = absurd (subst OnlyConvolution (sym h) tt)
convolution_nest (Reduce x) operands result ts h fits = absurd (subst OnlyConvolution (sym h) tt)
convolution_nest (Generic x) operands result ts h fits = absurd (subst OnlyConvolution (sym h) tt)
convolution_nest (Sharding x) operands result ts h fits = absurd (subst OnlyConvolution (sym h) tt)
convolution_nest (Shard x) operands result ts h fits = absurd (subst OnlyConvolution (sym h) tt)
convolution_nest (AllGather x) operands result ts h fits = absurd (subst OnlyConvolution (sym h) tt)
convolution_nest (AllSlice x) operands result ts h fits = absurd (subst OnlyConvolution (sym h) tt)
convolution_nest (AllReduce x) operands result ts h fits = absurd (subst OnlyConvolution (sym h) tt)
convolution_nest (ReduceScatter x) operands result ts h fits = absurd (subst OnlyConvolution (sym h) tt)
convolution_nest (AllToAll x) operands result ts h fits = absurd (subst OnlyConvolution (sym h) tt)
convolution_nest (Shift x) operands result ts h fits = absurd (subst OnlyConvolution (sym h) tt)
convolution_nest (UpdateHalo x) operands result ts h fits = absurd (subst OnlyConvolution (sym h) tt)
convolution_nest (Take x) operands result ts h fits = absurd (subst OnlyConvolution (sym h) tt)
convolution_nest (Pad x) operands result ts h fits = absurd (subst OnlyConvolution (sym h) tt)
convolution_nest (Join x) operands result ts h fits = absurd (subst OnlyConvolution (sym h) tt)
convolution_nest (Call x) operands result ts h fits = absurd (subst OnlyConvolution (sym h) tt)
convolution_nest (Return x) operands result ts h fits = absurd (subst OnlyConvolution (sym h) tt)

-- ---- element operations

pub binary_widths : (kind : OpKind) (operands : List ℕ) (result : ValueType) (ts : List TensorValue) (op : BinOp) → kind ≡ Binary op → FitsKind kind operands result ts
    → widths_of ts ≡ width_of result ∷ width_of result ∷ []
unfolding FitsKind typing_of
binary_widths kind operands result ts op e fits = subst (λ k. FitsKind k operands result ts) e fits

pub compare_widths : (kind : OpKind) (operands : List ℕ) (result : ValueType) (ts : List TensorValue) (x : declared_compare.Compare) → kind ≡ Compare x → FitsKind kind operands result ts
    → (widths_of ts ≡ width_of x.operand_type ∷ width_of x.operand_type ∷ []) × (width_of result ≡ I1)
unfolding FitsKind typing_of
compare_widths kind operands result ts x e fits = subst (λ k. FitsKind k operands result ts) e fits

pub select_widths : (kind : OpKind) (operands : List ℕ) (result : ValueType) (ts : List TensorValue) (x : declared_select.Select) → kind ≡ Select x → FitsKind kind operands result ts
    → widths_of ts ≡ width_of x.condition_type ∷ width_of result ∷ width_of result ∷ []
unfolding FitsKind typing_of
select_widths kind operands result ts x e fits = subst (λ k. FitsKind k operands result ts) e fits

pub cast_widths : (kind : OpKind) (operands : List ℕ) (result : ValueType) (ts : List TensorValue) (x : declared_cast.Cast) → kind ≡ Cast x → FitsKind kind operands result ts
    → (widths_of ts ≡ width_of x.operand_type ∷ []) × CanCast x.op (width_of x.operand_type) (width_of result)
unfolding FitsKind typing_of
cast_widths kind operands result ts x e fits = subst (λ k. FitsKind k operands result ts) e fits

-- what is answered of a formula's value
formula_value_is : (kind : OpKind) (operands : List ℕ) (result : ValueType) (seat : Seat) (ts : List TensorValue) (f : Formula) (out r : Option TensorValue)
    → giving kind operands result seat ≡ Some (gives_cells f) → out ≡ value_by (gives_cells f) (width_of result) ts → r ≡ option_and_then (with_known (dims_of result)) out
    → r ≡ option_and_then (λ x. known_value x (dims_of result) (width_of result) ts) (giving kind operands result seat)
formula_value_is kind operands result seat ts f out r gives value known =
    known ∙ ap (option_and_then (with_known (dims_of result))) value ∙ value_known (gives_cells f) (dims_of result) (width_of result) ts
    ∙ ap (option_and_then (λ x. known_value x (dims_of result) (width_of result) ts)) (sym gives)

giving_binary : (kind : OpKind) (operands : List ℕ) (result : ValueType) (seat : Seat) (op : BinOp) → kind ≡ Binary op → giving kind operands result seat ≡ Some (gives_cells (binary op (width_of result)))
unfolding giving
giving_binary kind operands result seat op e = ap (λ k. giving k operands result seat) e

pub binary_value : (kind : OpKind) (operands : List ℕ) (result : ValueType) (seat : Seat) (ts : List TensorValue) (op : BinOp) (w : Width) (out r : Option TensorValue) → kind ≡ Binary op → w ≡ width_of result
    → out ≡ value_by (gives_cells (binary op w)) w ts → r ≡ option_and_then (with_known (dims_of result)) out
    → r ≡ option_and_then (λ x. known_value x (dims_of result) (width_of result) ts) (giving kind operands result seat)
binary_value kind operands result seat ts op w out r e width value known =
    formula_value_is kind operands result seat ts (binary op (width_of result)) out r (giving_binary kind operands result seat op e)
    (value ∙ ap (λ v. value_by (gives_cells (binary op v)) v ts) width) known

giving_compare : (kind : OpKind) (operands : List ℕ) (result : ValueType) (seat : Seat) (x : declared_compare.Compare) → kind ≡ Compare x
    → giving kind operands result seat ≡ Some (gives_cells (compare x.predicate (width_of x.operand_type)))
unfolding giving
giving_compare kind operands result seat x e = ap (λ k. giving k operands result seat) e

pub compare_value : (kind : OpKind) (operands : List ℕ) (result : ValueType) (seat : Seat) (ts : List TensorValue) (x : declared_compare.Compare) (w : Width) (out r : Option TensorValue) → kind ≡ Compare x
    → w ≡ width_of x.operand_type → width_of result ≡ I1 → out ≡ value_by (gives_cells (compare x.predicate w)) I1 ts → r ≡ option_and_then (with_known (dims_of result)) out
    → r ≡ option_and_then (λ x. known_value x (dims_of result) (width_of result) ts) (giving kind operands result seat)
compare_value kind operands result seat ts x w out r e width bit value known =
    formula_value_is kind operands result seat ts (compare x.predicate (width_of x.operand_type)) out r (giving_compare kind operands result seat x e)
    (value ∙ ap₂ (λ u v. value_by (gives_cells (compare x.predicate u)) v ts) width (sym bit)) known

giving_select : (kind : OpKind) (operands : List ℕ) (result : ValueType) (seat : Seat) (x : declared_select.Select) → kind ≡ Select x → giving kind operands result seat ≡ Some (gives_cells choice)
unfolding giving
giving_select kind operands result seat x e = ap (λ k. giving k operands result seat) e

pub select_value : (kind : OpKind) (operands : List ℕ) (result : ValueType) (seat : Seat) (ts : List TensorValue) (x : declared_select.Select) (w : Width) (out r : Option TensorValue) → kind ≡ Select x
    → w ≡ width_of result → out ≡ value_by (gives_cells choice) w ts → r ≡ option_and_then (with_known (dims_of result)) out
    → r ≡ option_and_then (λ x. known_value x (dims_of result) (width_of result) ts) (giving kind operands result seat)
select_value kind operands result seat ts x w out r e width value known =
    formula_value_is kind operands result seat ts choice out r (giving_select kind operands result seat x e) (value ∙ ap (λ v. value_by (gives_cells choice) v ts) width) known

giving_cast : (kind : OpKind) (operands : List ℕ) (result : ValueType) (seat : Seat) (x : declared_cast.Cast) → kind ≡ Cast x
    → giving kind operands result seat ≡ Some (gives_cells (cast x.op (width_of x.operand_type) (width_of result)))
unfolding giving
giving_cast kind operands result seat x e = ap (λ k. giving k operands result seat) e

pub cast_value : (kind : OpKind) (operands : List ℕ) (result : ValueType) (seat : Seat) (ts : List TensorValue) (x : declared_cast.Cast) (v w : Width) (out r : Option TensorValue) → kind ≡ Cast x
    → v ≡ width_of x.operand_type → w ≡ width_of result → out ≡ value_by (gives_cells (cast x.op v w)) w ts → r ≡ option_and_then (with_known (dims_of result)) out
    → r ≡ option_and_then (λ x. known_value x (dims_of result) (width_of result) ts) (giving kind operands result seat)
cast_value kind operands result seat ts x v w out r e from width value known =
    formula_value_is kind operands result seat ts (cast x.op (width_of x.operand_type) (width_of result)) out r (giving_cast kind operands result seat x e)
    (value ∙ ap₂ (λ u z. value_by (gives_cells (cast x.op u z)) z ts) from width) known

-- ---- creators and layouts

pub value_as : (op : Op) (seat : Seat) (ts : List TensorValue) (x : List Dim → Giving) (dims : List Dim) (w : Width) → giving op.kind op.operands op.result seat ≡ Some (x (dims_of op.result))
    → dims ≡ dims_of op.result → w ≡ width_of op.result → known_value (x dims) dims w ts ≡ kind_value op seat ts
value_as op seat ts x dims w gives known width =
    ap₂ (λ d v. known_value (x d) d v ts) known width ∙ ap (option_and_then (λ y. known_value y (dims_of op.result) (width_of op.result) ts)) (sym gives)

pub few_as : (op : Op) (seat : Seat) (ts : List TensorValue) (x : List Dim → Giving) (dims : List Dim) → giving op.kind op.operands op.result seat ≡ Some (x (dims_of op.result)) → dims ≡ dims_of op.result
    → KindGivesFew op seat ts → GivesFew (x dims) dims ts
few_as op seat ts x dims gives known few =
    subst (λ d. GivesFew (x d) d ts) (sym known) (subst (λ g. IfSome g (λ y. GivesFew y (dims_of op.result) ts)) gives few)

pub width_as : (result : ValueType) (ts : List TensorValue) (w : Width) → w ≡ width_of result → HaveWidth result ts → AllByRecursion (λ (t : TensorValue). t.width ≡ w) ts
width_as result ts w e h = subst (λ v. AllByRecursion (λ (t : TensorValue). t.width ≡ v) ts) (sym e) h

pub rank_as : (result : ValueType) (dims : List Dim) → dims ≡ dims_of result → length (dims_of result) ≤ max_rank → length dims ≤ max_rank
rank_as result dims e h = subst (λ d. length d ≤ max_rank) (sym e) h

pub empty_gives : (op : Op) (seat : Seat) → op.kind ≡ Empty → giving op.kind op.operands op.result seat ≡ Some (gives_undefined (dims_of op.result))
unfolding giving
empty_gives op seat e = ap (λ k. giving k op.operands op.result seat) e

pub constant_fits_kind : (op : Op) (ts : List TensorValue) (x : declared_constant.Constant) (w : Width) → op.kind ≡ Constant x → w ≡ width_of op.result → FitsKind op.kind op.operands op.result ts
    → HoldsCellsOf w x.contents
unfolding FitsKind
constant_fits_kind op ts x w e width fits = subst (λ v. HoldsCellsOf v x.contents) (sym width) (subst (λ k. FitsKind k op.operands op.result ts) e fits)

pub constant_gives : (op : Op) (seat : Seat) (x : declared_constant.Constant) → op.kind ≡ Constant x → giving op.kind op.operands op.result seat ≡ Some (gives_constant x)
unfolding giving
constant_gives op seat x e = ap (λ k. giving k op.operands op.result seat) e

pub slice_gives : (op : Op) (seat : Seat) (x : declared_extract_slice.ExtractSlice) → op.kind ≡ ExtractSlice x → giving op.kind op.operands op.result seat ≡ Some (gives_slice x)
unfolding giving
slice_gives op seat x e = ap (λ k. giving k op.operands op.result seat) e

pub slice_width : (op : Op) (ts : List TensorValue) (x : declared_extract_slice.ExtractSlice) (w : Width) → op.kind ≡ ExtractSlice x → w ≡ width_of op.result → FitsKind op.kind op.operands op.result ts
    → AllByRecursion (λ (t : TensorValue). t.width ≡ w) ts
unfolding FitsKind
slice_width op ts x w e width fits = width_as op.result ts w width (subst (λ k. FitsKind k op.operands op.result ts) e fits)

pub insertion_gives : (op : Op) (seat : Seat) (x : declared_insert_slice.InsertSlice) → op.kind ≡ InsertSlice x → giving op.kind op.operands op.result seat ≡ Some (gives_insertion x (dims_of op.result))
unfolding giving
insertion_gives op seat x e = ap (λ k. giving k op.operands op.result seat) e

pub insertion_width : (op : Op) (ts : List TensorValue) (x : declared_insert_slice.InsertSlice) (w : Width) → op.kind ≡ InsertSlice x → w ≡ width_of op.result → FitsKind op.kind op.operands op.result ts
    → AllByRecursion (λ (t : TensorValue). t.width ≡ w) ts
unfolding FitsKind
insertion_width op ts x w e width fits = width_as op.result ts w width (subst (λ k. FitsKind k op.operands op.result ts) e fits)

pub collapse_gives : (op : Op) (seat : Seat) (x : declared_collapse_shape.CollapseShape) → op.kind ≡ CollapseShape x → giving op.kind op.operands op.result seat ≡ Some (gives_collapse x)
unfolding giving
collapse_gives op seat x e = ap (λ k. giving k op.operands op.result seat) e

pub collapse_width : (op : Op) (ts : List TensorValue) (x : declared_collapse_shape.CollapseShape) (w : Width) → op.kind ≡ CollapseShape x → w ≡ width_of op.result → FitsKind op.kind op.operands op.result ts
    → AllByRecursion (λ (t : TensorValue). t.width ≡ w) ts
unfolding FitsKind
collapse_width op ts x w e width fits = width_as op.result ts w width (subst (λ k. FitsKind k op.operands op.result ts) e fits)

pub expansion_gives : (op : Op) (seat : Seat) (x : declared_expand_shape.ExpandShape) → op.kind ≡ ExpandShape x → giving op.kind op.operands op.result seat ≡ Some (gives_expansion x (dims_of op.result))
unfolding giving
expansion_gives op seat x e = ap (λ k. giving k op.operands op.result seat) e

pub expansion_width : (op : Op) (ts : List TensorValue) (x : declared_expand_shape.ExpandShape) (w : Width) → op.kind ≡ ExpandShape x → w ≡ width_of op.result → FitsKind op.kind op.operands op.result ts
    → AllByRecursion (λ (t : TensorValue). t.width ≡ w) ts
unfolding FitsKind
expansion_width op ts x w e width fits = width_as op.result ts w width (subst (λ k. FitsKind k op.operands op.result ts) e fits)

pub equal_piece_gives : (op : Op) (seat : Seat) (x : declared_all_slice.AllSlice) → op.kind ≡ AllSlice x → giving op.kind op.operands op.result seat ≡ Some (gives_piece x.slice_axis (piece_of_equal seat.size seat.place))
unfolding giving
equal_piece_gives op seat x e = ap (λ k. giving k op.operands op.result seat) e

pub equal_piece_width : (op : Op) (ts : List TensorValue) (x : declared_all_slice.AllSlice) (w : Width) → op.kind ≡ AllSlice x → w ≡ width_of op.result → FitsKind op.kind op.operands op.result ts
    → AllByRecursion (λ (t : TensorValue). t.width ≡ w) ts
unfolding FitsKind
equal_piece_width op ts x w e width fits = width_as op.result ts w width (subst (λ k. FitsKind k op.operands op.result ts) e fits)

pub taken_gives : (op : Op) (seat : Seat) (x : declared_take.Take) → op.kind ≡ Take x → giving op.kind op.operands op.result seat ≡ Some (gives_taken x seat)
unfolding giving
taken_gives op seat x e = ap (λ k. giving k op.operands op.result seat) e

pub taken_width : (op : Op) (ts : List TensorValue) (x : declared_take.Take) (w : Width) → op.kind ≡ Take x → w ≡ width_of op.result → FitsKind op.kind op.operands op.result ts
    → AllByRecursion (λ (t : TensorValue). t.width ≡ w) ts
unfolding FitsKind
taken_width op ts x w e width fits = width_as op.result ts w width (subst (λ k. FitsKind k op.operands op.result ts) e fits)

pub padding_gives : (op : Op) (seat : Seat) (x : declared_pad.Pad) → op.kind ≡ Pad x → giving op.kind op.operands op.result seat ≡ Some (gives_padding x)
unfolding giving
padding_gives op seat x e = ap (λ k. giving k op.operands op.result seat) e

pub padding_width : (op : Op) (ts : List TensorValue) (x : declared_pad.Pad) (w : Width) → op.kind ≡ Pad x → w ≡ width_of op.result → FitsKind op.kind op.operands op.result ts
    → AllByRecursion (λ (t : TensorValue). t.width ≡ w) ts
unfolding FitsKind
padding_width op ts x w e width fits = width_as op.result ts w width (subst (λ k. FitsKind k op.operands op.result ts) e fits)

pub join_gives : (op : Op) (seat : Seat) (x : declared_join.Join) → op.kind ≡ Join x → giving op.kind op.operands op.result seat ≡ Some (gives_join x.axis)
unfolding giving
join_gives op seat x e = ap (λ k. giving k op.operands op.result seat) e

pub join_width : (op : Op) (ts : List TensorValue) (x : declared_join.Join) (w : Width) → op.kind ≡ Join x → w ≡ width_of op.result → FitsKind op.kind op.operands op.result ts
    → AllByRecursion (λ (t : TensorValue). t.width ≡ w) ts
unfolding FitsKind
join_width op ts x w e width fits = width_as op.result ts w width (subst (λ k. FitsKind k op.operands op.result ts) e fits)

-- ---- the other kinds

none_of_sharding : (x : type_of_sharding.RawSharding) (operands : List ℕ) (result : ValueType) (seat : Seat) → giving (Sharding x) operands result seat ≡ None
unfolding giving
none_of_sharding x operands result seat = refl

none_of_allgather : (x : type_of_allgather.AllGather) (operands : List ℕ) (result : ValueType) (seat : Seat) → giving (AllGather x) operands result seat ≡ None
unfolding giving
none_of_allgather x operands result seat = refl

none_of_allreduce : (x : type_of_allreduce.AllReduce) (operands : List ℕ) (result : ValueType) (seat : Seat) → giving (AllReduce x) operands result seat ≡ None
unfolding giving
none_of_allreduce x operands result seat = refl

none_of_reducescatter : (x : type_of_reducescatter.ReduceScatter) (operands : List ℕ) (result : ValueType) (seat : Seat) → giving (ReduceScatter x) operands result seat ≡ None
unfolding giving
none_of_reducescatter x operands result seat = refl

none_of_alltoall : (x : type_of_alltoall.AllToAll) (operands : List ℕ) (result : ValueType) (seat : Seat) → giving (AllToAll x) operands result seat ≡ None
unfolding giving
none_of_alltoall x operands result seat = refl

none_of_shift : (x : type_of_shift.Shift) (operands : List ℕ) (result : ValueType) (seat : Seat) → giving (Shift x) operands result seat ≡ None
unfolding giving
none_of_shift x operands result seat = refl

none_of_updatehalo : (x : type_of_updatehalo.UpdateHalo) (operands : List ℕ) (result : ValueType) (seat : Seat) → giving (UpdateHalo x) operands result seat ≡ None
unfolding giving
none_of_updatehalo x operands result seat = refl

none_of_call : (x : type_of_call.Call) (operands : List ℕ) (result : ValueType) (seat : Seat) → giving (Call x) operands result seat ≡ None
unfolding giving
none_of_call x operands result seat = refl

none_of_return : (x : type_of_return.Return) (operands : List ℕ) (result : ValueType) (seat : Seat) → giving (Return x) operands result seat ≡ None
unfolding giving
none_of_return x operands result seat = refl

-- what is neither a creator nor a layout, and in none of these classes, gives nothing
pub default_gives : (kind : OpKind) (operands : List ℕ) (result : ValueType) (seat : Seat)
    → ((x : declared_constant.Constant) → kind ≡ Constant x → ⊥)
    → (kind ≡ Empty → ⊥)
    → ((x : declared_extract_slice.ExtractSlice) → kind ≡ ExtractSlice x → ⊥)
    → ((x : declared_insert_slice.InsertSlice) → kind ≡ InsertSlice x → ⊥)
    → ((x : declared_collapse_shape.CollapseShape) → kind ≡ CollapseShape x → ⊥)
    → ((x : declared_expand_shape.ExpandShape) → kind ≡ ExpandShape x → ⊥)
    → ((x : declared_all_slice.AllSlice) → kind ≡ AllSlice x → ⊥)
    → ((x : declared_take.Take) → kind ≡ Take x → ⊥)
    → ((x : declared_pad.Pad) → kind ≡ Pad x → ⊥)
    → ((x : declared_join.Join) → kind ≡ Join x → ⊥)
    → (class_of kind ≡ class.Element → ⊥) → (class_of kind ≡ class.Structured → ⊥) → (class_of kind ≡ class.Convolution → ⊥) → giving kind operands result seat ≡ None
default_gives (Constant x) operands result seat n0 n1 n2 n3 n4 n5 n6 n7 n8 n9 element structured convolution = absurd (n0 x refl)
default_gives (Binary x) operands result seat n0 n1 n2 n3 n4 n5 n6 n7 n8 n9 element structured convolution = absurd (element refl)
default_gives (Compare x) operands result seat n0 n1 n2 n3 n4 n5 n6 n7 n8 n9 element structured convolution = absurd (element refl)
default_gives (Select x) operands result seat n0 n1 n2 n3 n4 n5 n6 n7 n8 n9 element structured convolution = absurd (element refl)
default_gives (Cast x) operands result seat n0 n1 n2 n3 n4 n5 n6 n7 n8 n9 element structured convolution = absurd (element refl)
default_gives Empty operands result seat n0 n1 n2 n3 n4 n5 n6 n7 n8 n9 element structured convolution = absurd (n1 refl)
default_gives (ExtractSlice x) operands result seat n0 n1 n2 n3 n4 n5 n6 n7 n8 n9 element structured convolution = absurd (n2 x refl)
default_gives (InsertSlice x) operands result seat n0 n1 n2 n3 n4 n5 n6 n7 n8 n9 element structured convolution = absurd (n3 x refl)
default_gives (CollapseShape x) operands result seat n0 n1 n2 n3 n4 n5 n6 n7 n8 n9 element structured convolution = absurd (n4 x refl)
default_gives (ExpandShape x) operands result seat n0 n1 n2 n3 n4 n5 n6 n7 n8 n9 element structured convolution = absurd (n5 x refl)
default_gives (Fill x) operands result seat n0 n1 n2 n3 n4 n5 n6 n7 n8 n9 element structured convolution = absurd (structured refl)
default_gives (Matmul x) operands result seat n0 n1 n2 n3 n4 n5 n6 n7 n8 n9 element structured convolution = absurd (structured refl)
default_gives (BatchMatmul x) operands result seat n0 n1 n2 n3 n4 n5 n6 n7 n8 n9 element structured convolution = absurd (structured refl)
default_gives (Matvec x) operands result seat n0 n1 n2 n3 n4 n5 n6 n7 n8 n9 element structured convolution = absurd (structured refl)
default_gives (Vecmat x) operands result seat n0 n1 n2 n3 n4 n5 n6 n7 n8 n9 element structured convolution = absurd (structured refl)
default_gives (Dot x) operands result seat n0 n1 n2 n3 n4 n5 n6 n7 n8 n9 element structured convolution = absurd (structured refl)
default_gives (Conv1d x) operands result seat n0 n1 n2 n3 n4 n5 n6 n7 n8 n9 element structured convolution = absurd (convolution refl)
default_gives (Conv2d x) operands result seat n0 n1 n2 n3 n4 n5 n6 n7 n8 n9 element structured convolution = absurd (convolution refl)
default_gives (Transpose x) operands result seat n0 n1 n2 n3 n4 n5 n6 n7 n8 n9 element structured convolution = absurd (structured refl)
default_gives (Broadcast x) operands result seat n0 n1 n2 n3 n4 n5 n6 n7 n8 n9 element structured convolution = absurd (structured refl)
default_gives (Reduce x) operands result seat n0 n1 n2 n3 n4 n5 n6 n7 n8 n9 element structured convolution = absurd (structured refl)
default_gives (Generic x) operands result seat n0 n1 n2 n3 n4 n5 n6 n7 n8 n9 element structured convolution = absurd (structured refl)
default_gives (Sharding x) operands result seat n0 n1 n2 n3 n4 n5 n6 n7 n8 n9 element structured convolution = none_of_sharding x operands result seat
default_gives (Shard x) operands result seat n0 n1 n2 n3 n4 n5 n6 n7 n8 n9 element structured convolution = shard_gives x operands result seat
default_gives (AllGather x) operands result seat n0 n1 n2 n3 n4 n5 n6 n7 n8 n9 element structured convolution = none_of_allgather x operands result seat
default_gives (AllSlice x) operands result seat n0 n1 n2 n3 n4 n5 n6 n7 n8 n9 element structured convolution = absurd (n6 x refl)
default_gives (AllReduce x) operands result seat n0 n1 n2 n3 n4 n5 n6 n7 n8 n9 element structured convolution = none_of_allreduce x operands result seat
default_gives (ReduceScatter x) operands result seat n0 n1 n2 n3 n4 n5 n6 n7 n8 n9 element structured convolution = none_of_reducescatter x operands result seat
default_gives (AllToAll x) operands result seat n0 n1 n2 n3 n4 n5 n6 n7 n8 n9 element structured convolution = none_of_alltoall x operands result seat
default_gives (Shift x) operands result seat n0 n1 n2 n3 n4 n5 n6 n7 n8 n9 element structured convolution = none_of_shift x operands result seat
default_gives (UpdateHalo x) operands result seat n0 n1 n2 n3 n4 n5 n6 n7 n8 n9 element structured convolution = none_of_updatehalo x operands result seat
default_gives (Take x) operands result seat n0 n1 n2 n3 n4 n5 n6 n7 n8 n9 element structured convolution = absurd (n7 x refl)
default_gives (Pad x) operands result seat n0 n1 n2 n3 n4 n5 n6 n7 n8 n9 element structured convolution = absurd (n8 x refl)
default_gives (Join x) operands result seat n0 n1 n2 n3 n4 n5 n6 n7 n8 n9 element structured convolution = absurd (n9 x refl)
default_gives (Call x) operands result seat n0 n1 n2 n3 n4 n5 n6 n7 n8 n9 element structured convolution = none_of_call x operands result seat
default_gives (Return x) operands result seat n0 n1 n2 n3 n4 n5 n6 n7 n8 n9 element structured convolution = none_of_return x operands result seat

pub default_value : (op : Op) (seat : Seat) (ts : List TensorValue) → giving op.kind op.operands op.result seat ≡ None → None ≡ kind_value op seat ts
default_value op seat ts none = sym (ap (option_and_then (λ x. known_value x (dims_of op.result) (width_of op.result) ts)) none)
