-- The shape that an operation gives, by its kind, and how large what it gives is.
use Rattle.std.proofs.Common.{◌≡◌, ℕ, ◌≤◌, Bool, true, false, List, Option, Some, None, refl, ap, sym, ◌∙◌, subst, inl, inr}
use Rattle.std.specs.Prelude.{◌⊎◌, IfSome, option_map, option_and_then, if◌then◌else◌}
use Rattle.std.specs.Option.{option_map_or}
use Rattle.std.proofs.lemmas.Option.{none-some, same_Some}
use Rattle.sh_base.specs.Shape.{cell_count, max_cells}
use Rattle.sh_base.specs.declared.numbers.Width.{Width}
use Rattle.sh_base.specs.declared.operations.BinOp.{BinOp}
use Rattle.sh_ir.specs.Agreement.{dims_of}
use Rattle.sh_ir.specs.Classes.{class_of}
use Rattle.sh_ir.specs.Loops.{Structure, structure_of}
use Rattle.sh_ir.specs.Typing.{typing_of}
use Rattle.sh_ir.specs.declared.classification.OpClass.{OpClass}
use Rattle.sh_ir.specs.declared.classification.OpClass.TheVariants as class
use Rattle.sh_ir.specs.declared.arith_ops.Compare as declared_compare
use Rattle.sh_ir.specs.declared.arith_ops.Select as declared_select
use Rattle.sh_ir.specs.declared.arith_ops.Cast as declared_cast
use Rattle.sh_ir.specs.declared.operations.Op.{Op}
use Rattle.sh_ir.specs.declared.operations.OpKind.{OpKind}
use Rattle.sh_ir.specs.declared.operations.OpKind.TheVariants.{Constant, Binary, Compare, Select, Cast, Empty, ExtractSlice, InsertSlice, CollapseShape, ExpandShape, Fill, Matmul, BatchMatmul, Matvec, Vecmat, Dot, Conv1d, Conv2d, Transpose, Broadcast, Reduce, Generic, Sharding, Shard, AllGather, AllSlice, AllReduce, ReduceScatter, AllToAll, Shift, UpdateHalo, Take, Pad, Join, Call, Return}
use Rattle.sh_ir.specs.declared.types.Dim.{Dim}
use Rattle.sh_ir.specs.declared.types.ValueType.{ValueType}
use Rattle.sh_loops.specs.NestSizes.{HasLoops, nest_size}
use Rattle.sh_loops.specs.Structured.{CanNest}
use Rattle.sh_loops.specs.declared.nest_sizes.NestSize.{NestSize}
use Rattle.sh_sem.specs.Given.{Giving, Seat, alone, giving, gives_cells, gives_nest, have_all_extents, nest_shape, of_dims, shape_by, shape_given}
use Rattle.sh_sem.specs.Nest.{extents_by}
use Rattle.sh_sem.specs.Pieces.{common_shape}
use Rattle.sh_sem.specs.Scalars.{width_of}
use Rattle.sh_sem.specs.Types.{have_extents}
use Rattle.sh_tensor.specs.Tensor.{TensorValue}
use Rattle.sh_eval.specs.Cuts.{cut_shape}
use Rattle.sh_eval.specs.Evaluations.{FitsKind, KindGivesFew}
use Rattle.sh_eval.specs.VerifiedOps.{HasTensor}
use Rattle.sh_eval.specs.Sizes.{kind_sized, sized}
use Rattle.sh_eval.specs.Values.{GivesFew, IsFew, shapes_of}
use Rattle.sh_eval.specs.Work.{loop_points}
use Rattle.sh_eval.proofs.EvaluationLaws.{IsNest, convolution_nest, structured_nest}
use Rattle.sh_eval.proofs.LayoutLaws.{few_count}

abbrev sized_by : List ℕ → ℕ → NestSize
sized_by shape points = record { shape = shape; points = points }

-- ---- element operations

abbrev OnlyElement : OpClass → Type 0
OnlyElement class.Creator = ⊥
OnlyElement class.Element = Unit {0}
OnlyElement class.Layout = ⊥
OnlyElement class.Structured = ⊥
OnlyElement class.Convolution = ⊥
OnlyElement class.Sharding = ⊥
OnlyElement class.Note = ⊥
OnlyElement class.DeviceLayout = ⊥
OnlyElement class.Collective = ⊥
OnlyElement class.Call = ⊥
OnlyElement class.Return = ⊥

binary_shape : (x : BinOp) (operands : List ℕ) (result : ValueType) (seat : Seat) (shapes : List (List ℕ))
    → option_and_then (λ y. y.shape shapes) (giving (Binary x) operands result seat) ≡ common_shape shapes
unfolding giving gives_cells
binary_shape x operands result seat shapes = refl

compare_shape : (x : declared_compare.Compare) (operands : List ℕ) (result : ValueType) (seat : Seat) (shapes : List (List ℕ))
    → option_and_then (λ y. y.shape shapes) (giving (Compare x) operands result seat) ≡ common_shape shapes
unfolding giving gives_cells
compare_shape x operands result seat shapes = refl

select_shape : (x : declared_select.Select) (operands : List ℕ) (result : ValueType) (seat : Seat) (shapes : List (List ℕ))
    → option_and_then (λ y. y.shape shapes) (giving (Select x) operands result seat) ≡ common_shape shapes
unfolding giving gives_cells
select_shape x operands result seat shapes = refl

cast_shape : (x : declared_cast.Cast) (operands : List ℕ) (result : ValueType) (seat : Seat) (shapes : List (List ℕ))
    → option_and_then (λ y. y.shape shapes) (giving (Cast x) operands result seat) ≡ common_shape shapes
unfolding giving gives_cells
cast_shape x operands result seat shapes = refl

-- the one shape of the operands
pub element_shape : (kind : OpKind) (operands : List ℕ) (result : ValueType) (seat : Seat) (shapes : List (List ℕ)) → class_of kind ≡ class.Element
    → option_and_then (λ y. y.shape shapes) (giving kind operands result seat) ≡ common_shape shapes
element_shape (Constant x) operands result seat shapes h = absurd (subst OnlyElement (sym h) tt)
element_shape (Binary x) operands result seat shapes h = binary_shape x operands result seat shapes
element_shape (Compare x) operands result seat shapes h = compare_shape x operands result seat shapes
element_shape (Select x) operands result seat shapes h = select_shape x operands result seat shapes
element_shape (Cast x) operands result seat shapes h = cast_shape x operands result seat shapes
element_shape Empty operands result seat shapes h = absurd (subst OnlyElement (sym h) tt)
element_shape (ExtractSlice x) operands result seat shapes h = absurd (subst OnlyElement (sym h) tt)
element_shape (InsertSlice x) operands result seat shapes h = absurd (subst OnlyElement (sym h) tt)
element_shape (CollapseShape x) operands result seat shapes h = absurd (subst OnlyElement (sym h) tt)
element_shape (ExpandShape x) operands result seat shapes h = absurd (subst OnlyElement (sym h) tt)
element_shape (Fill x) operands result seat shapes h = absurd (subst OnlyElement (sym h) tt)
element_shape (Matmul x) operands result seat shapes h = absurd (subst OnlyElement (sym h) tt)
element_shape (BatchMatmul x) operands result seat shapes h = absurd (subst OnlyElement (sym h) tt)
element_shape (Matvec x) operands result seat shapes h = absurd (subst OnlyElement (sym h) tt)
element_shape (Vecmat x) operands result seat shapes h = absurd (subst OnlyElement (sym h) tt)
element_shape (Dot x) operands result seat shapes h = absurd (subst OnlyElement (sym h) tt)
element_shape (Conv1d x) operands result seat shapes h = absurd (subst OnlyElement (sym h) tt)
element_shape (Conv2d x) operands result seat shapes h = absurd (subst OnlyElement (sym h) tt)
element_shape (Transpose x) operands result seat shapes h = absurd (subst OnlyElement (sym h) tt)
element_shape (Broadcast x) operands result seat shapes h = absurd (subst OnlyElement (sym h) tt)
element_shape (Reduce x) operands result seat shapes h = absurd (subst OnlyElement (sym h) tt)
element_shape (Generic x) operands result seat shapes h = absurd (subst OnlyElement (sym h) tt)
element_shape (Sharding x) operands result seat shapes h = absurd (subst OnlyElement (sym h) tt)
element_shape (Shard x) operands result seat shapes h = absurd (subst OnlyElement (sym h) tt)
element_shape (AllGather x) operands result seat shapes h = absurd (subst OnlyElement (sym h) tt)
element_shape (AllSlice x) operands result seat shapes h = absurd (subst OnlyElement (sym h) tt)
element_shape (AllReduce x) operands result seat shapes h = absurd (subst OnlyElement (sym h) tt)
element_shape (ReduceScatter x) operands result seat shapes h = absurd (subst OnlyElement (sym h) tt)
element_shape (AllToAll x) operands result seat shapes h = absurd (subst OnlyElement (sym h) tt)
element_shape (Shift x) operands result seat shapes h = absurd (subst OnlyElement (sym h) tt)
element_shape (UpdateHalo x) operands result seat shapes h = absurd (subst OnlyElement (sym h) tt)
element_shape (Take x) operands result seat shapes h = absurd (subst OnlyElement (sym h) tt)
element_shape (Pad x) operands result seat shapes h = absurd (subst OnlyElement (sym h) tt)
element_shape (Join x) operands result seat shapes h = absurd (subst OnlyElement (sym h) tt)
element_shape (Call x) operands result seat shapes h = absurd (subst OnlyElement (sym h) tt)
element_shape (Return x) operands result seat shapes h = absurd (subst OnlyElement (sym h) tt)

-- ---- creators and layouts

-- the shape by a kind, cut
pub shape_as : (op : Op) (x : List Dim → Giving) (dims : List Dim) (shapes : List (List ℕ)) → giving op.kind op.operands op.result alone ≡ Some (x (dims_of op.result)) → dims ≡ dims_of op.result
    → option_map cut_shape ((x dims).shape shapes) ≡ option_map cut_shape (shape_by op alone shapes)
shape_as op x dims shapes gives same =
    ap (λ d. option_map cut_shape ((x d).shape shapes)) same
    ∙ ap (λ g. option_map cut_shape (option_and_then (λ (y : Giving). y.shape shapes) g)) (sym gives)

pub shape_none : (op : Op) (shapes : List (List ℕ)) → giving op.kind op.operands op.result alone ≡ None → None ≡ option_map cut_shape (shape_by op alone shapes)
shape_none op shapes none = ap (λ g. option_map cut_shape (option_and_then (λ (y : Giving). y.shape shapes) g)) (sym none)

-- ---- structured operations

pub nest_of : (kind : OpKind) (operands : List ℕ) (result : ValueType) (ts : List TensorValue) → (class_of kind ≡ class.Structured) ⊎ (class_of kind ≡ class.Convolution)
    → FitsKind kind operands result ts → IsNest kind operands result ts
nest_of kind operands result ts (inl e) fits = structured_nest kind operands result ts e fits
nest_of kind operands result ts (inr e) fits = convolution_nest kind operands result ts e fits

loops_by : (operands : List ℕ) (w : Width) (ts : List TensorValue) (o : Option Structure) → IfSome o (λ s. CanNest s operands w ts) → IfSome o HasLoops
loops_by operands w ts None fits = tt
loops_by operands w ts (Some s) fits = record { few = fits.few; follow = fits.follow }

pub nest_loops : (kind : OpKind) (operands : List ℕ) (result : ValueType) (ts : List TensorValue) → IsNest kind operands result ts → IfSome (structure_of kind) HasLoops
nest_loops kind operands result ts h = loops_by operands (width_of result) ts (structure_of kind) h.fits.fits

-- a size, if its shape has the extents that a type knows
abbrev known_size : List Dim → NestSize → Option NestSize
known_size dims size = if have_extents dims size.shape then Some size else None

pub known_there : (dims : List Dim) (size : NestSize) (b : Bool) → b ≡ have_extents dims size.shape → b ≡ true → Some size ≡ known_size dims size
known_there dims size b e is = ap (λ c. if c then Some size else None) (sym is ∙ e)

pub known_missing : (dims : List Dim) (size : NestSize) (b : Bool) → b ≡ have_extents dims size.shape → b ≡ false → None ≡ known_size dims size
known_missing dims size b e isn_t = ap (λ c. if c then Some size else None) (sym isn_t ∙ e)

points_known : (dims : List Dim) (points : ℕ) (shape : List ℕ) (b : Bool)
    → (if b then Some (sized_by shape points) else None) ≡ option_map (λ s. sized_by s points) (if b then Some shape else None)
points_known dims points shape true = refl
points_known dims points shape false = refl

nest_by : (dims : List Dim) (operands : List ℕ) (shapes : List (List ℕ)) (o : Option Structure)
    → option_and_then (known_size dims) (option_and_then (nest_size shapes) o)
    ≡ option_map (λ s. sized_by s (option_map_or (λ (z : Structure). cell_count (extents_by z shapes)) o 0)) (option_and_then (of_dims dims) (option_and_then (λ (y : Giving). y.shape shapes) (option_map (gives_nest operands) o)))
unfolding nest_size gives_nest
nest_by dims operands shapes None = refl
nest_by dims operands shapes (Some z) = go (nest_shape z shapes)
  where
    go : (o : Option (List ℕ))
        → option_and_then (known_size dims) (option_map (λ s. sized_by s (cell_count (extents_by z shapes))) o)
        ≡ option_map (λ s. sized_by s (cell_count (extents_by z shapes))) (option_and_then (of_dims dims) o)
    go None = refl
    go (Some shape) = points_known dims (cell_count (extents_by z shapes)) shape (have_extents dims shape)

pub nest_sized : (op : Op) (shapes : List (List ℕ)) (size : Option NestSize) → giving op.kind op.operands op.result alone ≡ option_map (gives_nest op.operands) (structure_of op.kind)
    → size ≡ option_and_then (nest_size shapes) (structure_of op.kind) → option_and_then (known_size (dims_of op.result)) size ≡ kind_sized op shapes
unfolding kind_sized
nest_sized op shapes size gives is =
    ap (option_and_then (known_size (dims_of op.result))) is
    ∙ nest_by (dims_of op.result) op.operands shapes (structure_of op.kind)
    ∙ ap (λ g. option_map (λ s. sized_by s (loop_points op shapes)) (option_and_then (of_dims (dims_of op.result)) (option_and_then (λ (y : Giving). y.shape shapes) g))) (sym gives)

-- ---- other operations

pub few_at : (op : Op) (ts : List TensorValue) (s : List ℕ) → KindGivesFew op alone ts → shape_by op alone (shapes_of ts) ≡ Some s → IfSome (of_dims (dims_of op.result) s) IsFew
few_at op ts s few is = go (giving op.kind op.operands op.result alone) few is
  where
    go : (g : Option Giving) → IfSome g (λ x. GivesFew x (dims_of op.result) ts) → option_and_then (λ (y : Giving). y.shape (shapes_of ts)) g ≡ Some s → IfSome (of_dims (dims_of op.result) s) IsFew
    go None few is = absurd (none-some s is)
    go (Some x) few is = subst (λ o. IfSome (option_and_then (of_dims (dims_of op.result)) o) IsFew) is few

no_points : (op : Op) (shapes : List (List ℕ)) → structure_of op.kind ≡ None → loop_points op shapes ≡ 0
no_points op shapes none = ap (λ o. option_map_or (λ (z : Structure). cell_count (extents_by z shapes)) o 0) none

pub plain_sized : (op : Op) (shapes : List (List ℕ)) (s shape : List ℕ) → structure_of op.kind ≡ None → shape_by op alone shapes ≡ Some s → Some shape ≡ of_dims (dims_of op.result) s
    → Some (sized_by shape 0) ≡ kind_sized op shapes
unfolding kind_sized
plain_sized op shapes s shape none is known =
    ap (λ n. Some (sized_by shape n)) (sym (no_points op shapes none))
    ∙ ap (option_map (λ z. sized_by z (loop_points op shapes))) known
    ∙ ap (λ o. option_map (λ z. sized_by z (loop_points op shapes)) (option_and_then (of_dims (dims_of op.result)) o)) (sym is)

pub plain_unknown : (op : Op) (shapes : List (List ℕ)) (s : List ℕ) → shape_by op alone shapes ≡ Some s → None ≡ of_dims (dims_of op.result) s → None ≡ kind_sized op shapes
unfolding kind_sized
plain_unknown op shapes s is unknown =
    ap (option_map (λ z. sized_by z (loop_points op shapes))) unknown
    ∙ ap (λ o. option_map (λ z. sized_by z (loop_points op shapes)) (option_and_then (of_dims (dims_of op.result)) o)) (sym is)

pub plain_none : (op : Op) (shapes : List (List ℕ)) → shape_by op alone shapes ≡ None → None ≡ kind_sized op shapes
unfolding kind_sized
plain_none op shapes none = ap (λ o. option_map (λ z. sized_by z (loop_points op shapes)) (option_and_then (of_dims (dims_of op.result)) o)) (sym none)

-- ---- all operations

pub known_sized : (op : Op) (shapes : List (List ℕ)) (known : Bool) → known ≡ have_all_extents (typing_of op.kind op.result) shapes → known ≡ true → kind_sized op shapes ≡ sized op shapes
unfolding kind_sized sized shape_given
known_sized op shapes known e is =
    ap (λ b. option_map (λ z. sized_by z (loop_points op shapes)) (if b then option_and_then (of_dims (dims_of op.result)) (shape_by op alone shapes) else None)) (sym is ∙ e)

pub unknown_sized : (op : Op) (shapes : List (List ℕ)) (known : Bool) → known ≡ have_all_extents (typing_of op.kind op.result) shapes → known ≡ false → None ≡ sized op shapes
unfolding sized shape_given
unknown_sized op shapes known e isn_t =
    ap (λ b. option_map (λ z. sized_by z (loop_points op shapes)) (if b then option_and_then (of_dims (dims_of op.result)) (shape_by op alone shapes) else None)) (sym isn_t ∙ e)

pub not_note : (c : OpClass) → HasTensor c → c ≡ class.Note → ⊥
not_note c h e = subst HasTensor e h

pub not_device : (c : OpClass) → HasTensor c → c ≡ class.DeviceLayout → ⊥
not_device c h e = subst HasTensor e h

-- ---- what a size tells

pub record IsSized (op : Op) (shapes : List (List ℕ)) (size : NestSize) : Type 0 where
  pub given : shape_given op alone shapes ≡ Some size.shape
  pub points : size.points ≡ loop_points op shapes

pub is_sized : (op : Op) (shapes : List (List ℕ)) (size : NestSize) → Some size ≡ sized op shapes → IsSized op shapes size
unfolding sized
is_sized op shapes size e = go (shape_given op alone shapes) refl e
  where
    go : (o : Option (List ℕ)) → shape_given op alone shapes ≡ o → Some size ≡ option_map (λ z. sized_by z (loop_points op shapes)) o → IsSized op shapes size
    go None g h = absurd (none-some size (sym h))
    go (Some shape) g h =
        let same : size ≡ sized_by shape (loop_points op shapes) = same_Some size (sized_by shape (loop_points op shapes)) h in
        record { given = g ∙ ap (λ (z : NestSize). Some z.shape) (sym same); points = ap (λ (z : NestSize). z.points) same }

pub not_sized : (op : Op) (shapes : List (List ℕ)) → None ≡ sized op shapes → shape_given op alone shapes ≡ None
unfolding sized
not_sized op shapes e = go (shape_given op alone shapes) e
  where
    go : (o : Option (List ℕ)) → None ≡ option_map (λ z. sized_by z (loop_points op shapes)) o → o ≡ None
    go None h = refl
    go (Some shape) h = absurd (none-some (sized_by shape (loop_points op shapes)) h)

pub sized_small : (op : Op) (shapes : List (List ℕ)) (size : NestSize) → Some size ≡ sized op shapes → IfSome (shape_given op alone shapes) IsFew → cell_count size.shape ≤ max_cells
sized_small op shapes size e few = few_count size.shape (subst (λ o. IfSome o IsFew) (is_sized op shapes size e).given few)
